-- The first rule that fails in a tree is the first that fails among its pieces.
use Rattle.std.proofs.Common.{◌≡◌, ℕ, List, [], ◌∷◌, ◌++◌, length, Bool, true, false, not, if◌then◌else◌, Option, Some, None, Err, refl, ap, sym, ◌∙◌, subst, append_assoc, append-nil}
use Rattle.conf_read.specs.declared.directive.Directive.{Directive}
use Rattle.conf_read.specs.declared.directive.Piece.{Piece}
use Rattle.conf_read.specs.declared.directive.Piece.TheVariants as piece
use Rattle.conf_read.specs.declared.conf.Import.{Import}
use Rattle.conf_read.specs.declared.fault.ConfFault.{ConfFault}
use Rattle.conf_read.specs.declared.fault.ConfFault.TheVariants as fault
use Rattle.conf_read.specs.declared.table.Place.{Place}
use Rattle.conf_read.specs.declared.table.Place.TheVariants as place
use Rattle.conf_read.specs.declared.table.Kind.{Kind}
use Rattle.conf_read.specs.declared.table.Row.{Row}
use Rattle.conf_read.specs.declared.walk.Block.{Block}
use Rattle.conf_read.specs.Characters.{last_line}
use Rattle.conf_read.specs.Tree.{Tree}
use Rattle.conf_read.specs.Table.{row_of}
use Rattle.conf_read.specs.Rules.{or_else, first_fault, fault_of, fault_with, row_fault, stands, counts, has_value, repeated, alike, kind_of, block_of, directives}
use Rattle.conf_read.specs.Scan.{Grouped, Gives, pieces_of}
use Rattle.conf_read.specs.Walk.{pieces, listed, noted, opened, inner, outer, walk, judged, Judges, TextRead}
use Rattle.conf_read.specs.Meaning.{imports_in}
use Rattle.conf_read.proofs.Listing.{listed-append}

-- the directives of a tree are those among its pieces
pub listed_pieces : (t : Tree) → listed (pieces t) ≡ directives t
listed_pieces Tree.none = refl
listed_pieces (Tree.plain d t) = ap (λ ds. d ∷ ds) (listed_pieces t)
listed_pieces (Tree.block d b t) =
    ap (λ ds. d ∷ ds) (listed-append (pieces b) (piece.Close ∷ pieces t) ∙ ap (λ ds. ds ++ listed (pieces t)) (listed_pieces b) ∙ ap (λ ds. directives b ++ ds) (listed_pieces t))

or_else_assoc : (x y z : Option ConfFault) → or_else (or_else x y) z ≡ or_else x (or_else y z)
or_else_assoc None y z = refl
or_else_assoc (Some f) y z = refl

or_else_none : (x : Option ConfFault) → or_else x None ≡ x
or_else_none None = refl
or_else_none (Some f) = refl

abbrev pub kinds : Tree → List Kind
kinds Tree.none = []
kinds (Tree.plain d t) = kind_of d ++ kinds t
kinds (Tree.block d b t) = kind_of d ++ kinds t

abbrev pub block_with : Place → List Kind → Block
block_with p seen = record { place = p; seen = seen }

walk_tree : (imports : List Import) (t : Tree) (p : Place) (seen : List Kind) (around : List Block) (earlier : List Directive) (rest : List Piece)
    → walk imports (block_with p seen) around earlier (pieces t ++ rest) ≡ or_else (first_fault imports p seen earlier t) (walk imports (block_with p (seen ++ kinds t)) around (earlier ++ directives t) rest)
walk_tree imports Tree.none p seen around earlier rest = ap (λ x. walk imports (block_with p x) around earlier rest) (sym (append-nil seen)) ∙ ap (λ x. walk imports (block_with p (seen ++ [])) around x rest) (sym (append-nil earlier))
walk_tree imports (Tree.plain d t) p seen around earlier rest =
    ap (or_else (fault_of imports p seen earlier d false))
    (walk_tree imports t p (seen ++ kind_of d) around (earlier ++ d ∷ []) rest
    ∙ ap (λ x. or_else (first_fault imports p (seen ++ kind_of d) (earlier ++ d ∷ []) t) (walk imports (block_with p x) around ((earlier ++ d ∷ []) ++ directives t) rest)) (append_assoc seen (kind_of d) (kinds t))
    ∙ ap (λ x. or_else (first_fault imports p (seen ++ kind_of d) (earlier ++ d ∷ []) t) (walk imports (block_with p (seen ++ (kind_of d ++ kinds t))) around x rest)) (append_assoc earlier (d ∷ []) (directives t)))
    ∙ sym (or_else_assoc (fault_of imports p seen earlier d false) (first_fault imports p (seen ++ kind_of d) (earlier ++ d ∷ []) t) (walk imports (block_with p (seen ++ kinds (Tree.plain d t))) around (earlier ++ directives (Tree.plain d t)) rest))
walk_tree imports (Tree.block d b t) p seen around earlier rest =
    let first = fault_of imports p seen earlier d true in
    let inside = first_fault imports (block_of d) [] (earlier ++ d ∷ []) b in
    let before = (earlier ++ d ∷ []) ++ directives b in
    let behind = first_fault imports p (seen ++ kind_of d) before t in
    let end = walk imports (block_with p (seen ++ kinds (Tree.block d b t))) around (earlier ++ directives (Tree.block d b t)) rest in
    let seens = append_assoc seen (kind_of d) (kinds t) in
    let all : before ++ directives t ≡ earlier ++ directives (Tree.block d b t) =
    ap (λ x. x ++ directives t) (append_assoc earlier (d ∷ []) (directives b)) ∙ append_assoc earlier (d ∷ directives b) (directives t) in
    ap (λ x. or_else first (walk imports (opened d) (block_with p (seen ++ kind_of d) ∷ around) (earlier ++ d ∷ []) x)) (append_assoc (pieces b) (piece.Close ∷ pieces t) rest)
    ∙ ap (or_else first) (walk_tree imports b (block_of d) [] (block_with p (seen ++ kind_of d) ∷ around) (earlier ++ d ∷ []) (piece.Close ∷ (pieces t ++ rest))
    ∙ ap (or_else inside) (walk_tree imports t p (seen ++ kind_of d) around before rest
    ∙ ap (λ x. or_else behind (walk imports (block_with p x) around (before ++ directives t) rest)) seens
    ∙ ap (λ x. or_else behind (walk imports (block_with p (seen ++ kinds (Tree.block d b t))) around x rest)) all)
    ∙ sym (or_else_assoc inside behind end))
    ∙ sym (or_else_assoc first (or_else inside behind) end)

-- a whole tree
pub walk_all : (imports : List Import) (t : Tree) → walk imports (block_with place.Main []) [] [] (pieces t) ≡ first_fault imports place.Main [] [] t
walk_all imports t =
    ap (walk imports (block_with place.Main []) [] []) (sym (append-nil (pieces t))) ∙ walk_tree imports t place.Main [] [] [] [] ∙ or_else_none (first_fault imports place.Main [] [] t)

-- ---- which refusals come from a rule

abbrev pub IsRule : Option ConfFault → Type 0
IsRule None = Unit {0}
IsRule (Some fault.TooLong) = ⊥
IsRule (Some (fault.Syntax line)) = ⊥
IsRule (Some fault.Missing) = ⊥
IsRule (Some fault.NoMemory) = ⊥
IsRule (Some _) = Unit {0}

rule_chosen : (b : Bool) (x y : Option ConfFault) → IsRule x → IsRule y → IsRule (if b then x else y)
rule_chosen true x y h k = h
rule_chosen false x y h k = k

rule_or_else : (x y : Option ConfFault) → IsRule x → IsRule y → IsRule (or_else x y)
rule_or_else None y h k = k
rule_or_else (Some f) y h k = h

rule_row : (imports : List Import) (here : Place) (seen : List Kind) (before : List Directive) (d : Directive) (opens : Bool) (row : Row) → IsRule (row_fault imports here seen before d opens row)
rule_row imports here seen before d opens row =
    rule_chosen (not (stands row here)) (Some (fault.Place d.line)) _ tt (rule_chosen (not (counts row (length d.words) opens (length before))) (Some (fault.Count d.line)) _ tt
    (rule_chosen (not (has_value imports row.kind d.words before)) (Some (fault.Value d.line)) _ tt (rule_chosen (repeated row d.words seen before) (Some (fault.Duplicate d.line)) None tt tt)))

rule_with : (imports : List Import) (here : Place) (seen : List Kind) (before : List Directive) (d : Directive) (opens : Bool) (row : Option Row) → IsRule (fault_with imports here seen before d opens row)
rule_with imports here seen before d opens None = tt
rule_with imports here seen before d opens (Some row) = rule_row imports here seen before d opens row

rule_of : (imports : List Import) (here : Place) (seen : List Kind) (earlier : List Directive) (d : Directive) (opens : Bool) → IsRule (fault_of imports here seen earlier d opens)
rule_of imports here seen earlier d opens = rule_with imports here seen (alike d earlier) d opens (row_of d.name)

rule_walk : (imports : List Import) (here : Block) (around : List Block) (earlier : List Directive) (ps : List Piece) → IsRule (walk imports here around earlier ps)
rule_walk imports here around earlier [] = tt
rule_walk imports here around earlier (piece.Plain d ∷ ps) =
    rule_or_else (fault_of imports here.place here.seen earlier d false) _ (rule_of imports here.place here.seen earlier d false) (rule_walk imports (noted here d) around (earlier ++ d ∷ []) ps)
rule_walk imports here around earlier (piece.Open d ∷ ps) =
    rule_or_else (fault_of imports here.place here.seen earlier d true) _ (rule_of imports here.place here.seen earlier d true) (rule_walk imports (opened d) (noted here d ∷ around) (earlier ++ d ∷ []) ps)
rule_walk imports here around earlier (piece.Close ∷ ps) = rule_walk imports (inner here around) (outer around) earlier ps

no_rule : (x : Option ConfFault) (f : ConfFault) → IsRule x → x ≡ Some f → IsRule (Some f)
no_rule x f h e = subst (λ y. IsRule y) e h

-- ---- the answers for a text

-- a refusal of the text
pub text_refused : (text : List ℕ) (f : ConfFault) → Gives (pieces_of text) (last_line text) (Err f) → TextRead text (Err f)
text_refused text fault.TooLong h = h
text_refused text (fault.Syntax line) h = h
text_refused text (fault.Unknown line) h = absurd h
text_refused text (fault.Place line) h = absurd h
text_refused text (fault.Count line) h = absurd h
text_refused text (fault.Value line) h = absurd h
text_refused text (fault.Duplicate line) h = absurd h
text_refused text fault.Missing h = absurd h
text_refused text fault.NoMemory h = h

-- a refusal by a rule
pub rule_refused : (A : Type 0) (text : List ℕ) (ps : List Piece) (f : ConfFault) → pieces_of text ≡ Grouped.complete ps → Judges {A = A} (judged ps) (Err f) → TextRead text (Err f)
rule_refused A text ps fault.TooLong g h = no_rule (judged ps) fault.TooLong (rule_walk _ _ _ _ ps) h
rule_refused A text ps (fault.Syntax line) g h = absurd (no_rule (judged ps) (fault.Syntax line) (rule_walk _ _ _ _ ps) h)
rule_refused A text ps (fault.Unknown line) g h = (ps, g, h)
rule_refused A text ps (fault.Place line) g h = (ps, g, h)
rule_refused A text ps (fault.Count line) g h = (ps, g, h)
rule_refused A text ps (fault.Value line) g h = (ps, g, h)
rule_refused A text ps (fault.Duplicate line) g h = (ps, g, h)
rule_refused A text ps fault.Missing g h = absurd (no_rule (judged ps) fault.Missing (rule_walk _ _ _ _ ps) h)
rule_refused A text ps fault.NoMemory g h = h

-- the same, where what was judged is equal
pub judged_refused : (A : Type 0) (text : List ℕ) (ps read judged_ : List Piece) (imports used : List Import) (f : ConfFault) → pieces_of text ≡ Grouped.complete ps → read ≡ ps → imports ≡ imports_in (listed read) → used ≡ imports → judged_ ≡ ps
    → Judges {A = A} (walk used (block_with place.Main []) [] [] judged_) (Err f) → TextRead text (Err f)
judged_refused A text ps read judged_ imports used f g r i u j h =
    let same : walk used (block_with place.Main []) [] [] judged_ ≡ judged ps =
    ap (λ x. walk x (block_with place.Main []) [] [] judged_) (u ∙ i ∙ ap (λ x. imports_in (listed x)) r) ∙ ap (walk (imports_in (listed ps)) (block_with place.Main []) [] []) j in
    rule_refused A text ps f g (subst (λ x. Judges {A = A} x (Err f)) same h)
