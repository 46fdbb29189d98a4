-- How the pieces of a tree are judged and read one after the other: what the private functions answer. What it means stands in Rules and Meaning.
use Rattle.std.specs.Prelude.{ℕ, ◌≡◌, List, [], ◌∷◌, ◌++◌, reverse, true, false, Option, Some, None, Result, Ok, Err}
use Rattle.conf_read.specs.declared.directive.Directive.{Directive}
use Rattle.conf_read.specs.declared.directive.Piece.{Piece}
use Rattle.conf_read.specs.declared.directive.Piece.TheVariants as piece
use Rattle.conf_read.specs.declared.fault.ConfFault.{ConfFault}
use Rattle.conf_read.specs.declared.fault.ConfFault.TheVariants as fault
use Rattle.conf_read.specs.declared.conf.Import.{Import}
use Rattle.conf_read.specs.declared.conf.Conf.{Conf}
use Rattle.conf_read.specs.declared.table.Place.TheVariants as place
use Rattle.conf_read.specs.Characters.{last_line}
use Rattle.conf_read.specs.Scan.{Grouped, pieces_of, refused_line}
use Rattle.conf_read.specs.Meaning.{imports_in, conf_of, lacks}
use Rattle.conf_read.specs.declared.walk.Block.{Block}
use Rattle.conf_read.specs.declared.walk.Walk.{Walk}
use Rattle.conf_read.specs.Tree.{Tree}
use Rattle.conf_read.specs.Rules.{fault_of, kind_of, block_of, or_else}

-- the pieces of a tree
abbrev pub pieces : Tree → List Piece
pieces Tree.none = []
pieces (Tree.plain d t) = piece.Plain d ∷ pieces t
pieces (Tree.block d b t) = piece.Open d ∷ (pieces b ++ piece.Close ∷ pieces t)

-- the directives among pieces
abbrev pub listed : List Piece → List Directive
listed [] = []
listed (piece.Plain d ∷ ps) = d ∷ listed ps
listed (piece.Open d ∷ ps) = d ∷ listed ps
listed (piece.Close ∷ ps) = listed ps

-- a block with one more directive, and a block that begins
abbrev pub noted : Block → Directive → Block
noted here d = record { place = here.place; seen = here.seen ++ kind_of d }

abbrev pub opened : Directive → Block
opened d = record { place = block_of d; seen = [] }

-- the block around the one that ends
abbrev pub inner : Block → List Block → Block
inner here [] = here
inner here (b ∷ bs) = b

abbrev pub outer : List Block → List Block
outer [] = []
outer (b ∷ bs) = bs

-- the first rule that fails, in this block, with these around it
abbrev pub walk : List Import → Block → List Block → List Directive → List Piece → Option ConfFault
walk imports here around earlier [] = None
walk imports here around earlier (piece.Plain d ∷ ps) = or_else (fault_of imports here.place here.seen earlier d false) (walk imports (noted here d) around (earlier ++ d ∷ []) ps)
walk imports here around earlier (piece.Open d ∷ ps) = or_else (fault_of imports here.place here.seen earlier d true) (walk imports (opened d) (noted here d ∷ around) (earlier ++ d ∷ []) ps)
walk imports here around earlier (piece.Close ∷ ps) = walk imports (inner here around) (outer around) earlier ps

-- what is answered where this rule fails, or none
abbrev pub Judges : {A : Type 0} → Option ConfFault → Result A ConfFault → Type 0
Judges first (Ok x) = first ≡ None
Judges first (Err fault.NoMemory) = Unit {0}
Judges first (Err f) = first ≡ Some f

-- the first rule that fails from here on
abbrev pub walked : List Import → Walk → List Directive → List Piece → Option ConfFault
walked imports w earlier ps = walk imports w.here (reverse w.around.items) earlier ps

-- what is answered at a piece: the same rule fails behind it, or this one at it
abbrev pub Steps : {A : Type 0} → List Import → List Directive → Piece → Walk → Result A ConfFault → Walk → Type 0
Steps imports earlier p old (Ok x) new = (rest : List Piece) → walked imports old earlier (p ∷ rest) ≡ walked imports new (earlier ++ listed (p ∷ [])) rest
Steps imports earlier p old (Err fault.NoMemory) new = Unit {0}
Steps imports earlier p old (Err f) new = (rest : List Piece) → walked imports old earlier (p ∷ rest) ≡ Some f

-- ---- whole texts

-- the first rule that fails among all pieces
abbrev pub judged : List Piece → Option ConfFault
judged ps = walk (imports_in (listed ps)) (record { place = place.Main; seen = [] }) [] [] ps

-- what is answered for a text
abbrev pub IsJudged : List ℕ → ConfFault → Type 0
IsJudged text f = (ps : List Piece) × (pieces_of text ≡ Grouped.complete ps) × (judged ps ≡ Some f)

abbrev pub TextRead : List ℕ → Result Conf ConfFault → Type 0
TextRead text (Ok conf) = (ps : List Piece) × (pieces_of text ≡ Grouped.complete ps) × (judged ps ≡ None) × (lacks (listed ps) ≡ false) × (conf ≡ conf_of (listed ps))
TextRead text (Err fault.TooLong) = ⊥
TextRead text (Err (fault.Syntax line)) = refused_line (pieces_of text) (last_line text) ≡ Some line
TextRead text (Err (fault.Unknown line)) = IsJudged text (fault.Unknown line)
TextRead text (Err (fault.Place line)) = IsJudged text (fault.Place line)
TextRead text (Err (fault.Count line)) = IsJudged text (fault.Count line)
TextRead text (Err (fault.Value line)) = IsJudged text (fault.Value line)
TextRead text (Err (fault.Duplicate line)) = IsJudged text (fault.Duplicate line)
TextRead text (Err fault.Missing) = (ps : List Piece) × (pieces_of text ≡ Grouped.complete ps) × (judged ps ≡ None) × (lacks (listed ps) ≡ true)
TextRead text (Err fault.NoMemory) = Unit {0}
