-- What is answered for a text is what may be answered for its bytes.
use Rattle.std.proofs.Common.{◌≡◌, ℕ, ◌+◌, ◌-◌, ◌==◌, ◌≤◌, List, [], ◌∷◌, ◌++◌, append_assoc, append-nil, length, if◌then◌else◌, Bool, true, false, ◌⊎◌, inl, inr, Option, Some, None, Result, Ok, Err, refl, ap, sym, ◌∙◌, subst}
use Rattle.std.specs.Str.{IsUtf8, chars}
use Rattle.conf_read.specs.declared.directive.Directive.{Directive}
use Rattle.conf_read.specs.declared.directive.Piece.{Piece}
use Rattle.conf_read.specs.declared.directive.Piece.TheVariants as piece
use Rattle.conf_read.specs.declared.scan.Mode.TheVariants as mode
use Rattle.conf_read.specs.declared.conf.Conf.{Conf}
use Rattle.conf_read.specs.declared.fault.ConfFault.{ConfFault}
use Rattle.conf_read.specs.declared.fault.ConfFault.TheVariants as fault
use Rattle.conf_read.specs.declared.table.Place.TheVariants as place
use Rattle.conf_read.specs.Characters.{last_line}
use Rattle.conf_read.specs.Tree.{Lexeme, Token, token, Ending, Tree, Lexes, ConfSpells, CanBegin, Misfit}
use Rattle.conf_read.specs.Rules.{directives}
use Rattle.conf_read.specs.Meaning.{imports_in, conf_first, conf_of, lacks}
use Rattle.conf_read.specs.Scan.{Lexed, Grouped, with_piece, taken, worded, lex, group, pieces_of, refused_line}
use Rattle.conf_read.specs.Walk.{pieces, listed, judged, walk, IsJudged, TextRead}
use Rattle.conf_read.specs.Reads.{HasNoTree, LeavesAt, IsRefused, ReadAs}
use Rattle.conf_read.proofs.Lexing.{stands_read, read_stands}
use Rattle.conf_read.proofs.Grouping.{tree_read, grouped_tree, cut_begins, misfit_first}
use Rattle.conf_read.proofs.Judging.{listed_pieces, walk_all}

some_one : {A : Type 0} {x y : A} → ◌≡◌ {A = Option A} (Some x) (Some y) → x ≡ y
some_one e = cc

none_some : {A : Type 0} {x : A} → ◌≡◌ {A = Option A} None (Some x) → ⊥
none_some e = cc

all_one : {x y : List Piece} → Grouped.complete x ≡ Grouped.complete y → x ≡ y
all_one e = cc

abbrev pub lexed_text : List ℕ → Lexed
lexed_text text = lex mode.Between 1 [] 1 text

-- ---- trees and pieces

-- the tree that spells some bytes has the pieces of their text
pub spelled_pieces : (bytes : List ℕ) (tree : Tree) → ConfSpells tree bytes → pieces_of (chars bytes) ≡ Grouped.complete (pieces tree)
spelled_pieces bytes tree s =
    ap (λ l. group l.ending None 0 l.tokens) (stands_read s.lexes 1 []) ∙ tree_read tree s.tokens s.spells

-- ---- the ending of a text with pieces

piece_never : (p : Piece) (g : Grouped) (ps : List Piece) → ((qs : List Piece) → g ≡ Grouped.complete qs → ⊥) → with_piece p g ≡ Grouped.complete ps → ⊥
piece_never p (Grouped.complete qs) ps h e = h qs refl
piece_never p (Grouped.misfit line) ps h e = cc
piece_never p Grouped.cut ps h e = cc

either_never : (b : Bool) (line : ℕ) (g : Grouped) (ps : List Piece) → (g ≡ Grouped.complete ps → ⊥) → (if b then Grouped.misfit line else g) ≡ Grouped.complete ps → ⊥
either_never true line g ps h e = cc
either_never false line g ps h e = h e

token_never : (line : ℕ) (x : Lexeme) (d : Option Directive) (k : ℕ) (ts : List Token) (ps : List Piece) → ((d' : Option Directive) (j : ℕ) (qs : List Piece) → group Ending.quoted d' j ts ≡ Grouped.complete qs → ⊥)
    → taken (λ d' j. group Ending.quoted d' j ts) d k (token line x) x ≡ Grouped.complete ps → ⊥
token_never line (Lexeme.word w) d k ts ps ih e = ih (Some (worded d line w)) k ps e
token_never line Lexeme.semicolon None k ts ps ih e = cc
token_never line Lexeme.semicolon (Some d) k ts ps ih e = piece_never (piece.Plain d) (group Ending.quoted None k ts) ps (ih None k) e
token_never line Lexeme.opening None k ts ps ih e = cc
token_never line Lexeme.opening (Some d) k ts ps ih e = piece_never (piece.Open d) (group Ending.quoted None (k + 1) ts) ps (ih None (k + 1)) e
token_never line Lexeme.closing None k ts ps ih e =
    either_never (k == 0) line (with_piece piece.Close (group Ending.quoted None (k - 1) ts)) ps (piece_never piece.Close (group Ending.quoted None (k - 1) ts) ps (ih None (k - 1))) e
token_never line Lexeme.closing (Some d) k ts ps ih e = cc

quoted_never : (ts : List Token) (d : Option Directive) (k : ℕ) (ps : List Piece) → group Ending.quoted d k ts ≡ Grouped.complete ps → ⊥
quoted_never [] d k ps e = cc
quoted_never (t ∷ ts) d k ps e = token_never t.line t.lexeme d k ts ps (quoted_never ts) e

whole_ending : (e : Ending) (ts : List Token) (ps : List Piece) → group e None 0 ts ≡ Grouped.complete ps → e ≡ Ending.whole
whole_ending Ending.whole ts ps h = refl
whole_ending Ending.quoted ts ps h = absurd (quoted_never ts None 0 ps h)

-- ---- one tree

abbrev pub Stops : List Piece → Type 0
Stops [] = Unit {0}
Stops (piece.Close ∷ ps) = Unit {0}
Stops (_ ∷ ps) = ⊥

tails : (p q : Piece) (ps qs : List Piece) → p ∷ ps ≡ q ∷ qs → ps ≡ qs
tails p q ps qs e = cc

same_plain : (c d : Directive) (ps qs : List Piece) → piece.Plain c ∷ ps ≡ piece.Plain d ∷ qs → c ≡ d
same_plain c d ps qs e = cc

same_open : (c d : Directive) (ps qs : List Piece) → piece.Open c ∷ ps ≡ piece.Open d ∷ qs → c ≡ d
same_open c d ps qs e = cc

pieces_one : (a b : Tree) (r s : List Piece) → Stops r → Stops s → pieces a ++ r ≡ pieces b ++ s → (a ≡ b) × (r ≡ s)
pieces_one Tree.none Tree.none r s hr hs e = (refl, e)
pieces_one Tree.none (Tree.plain d t) r s hr hs e = absurd (subst (λ x. Stops x) e hr)
pieces_one Tree.none (Tree.block d b t) r s hr hs e = absurd (subst (λ x. Stops x) e hr)
pieces_one (Tree.plain c t) Tree.none r s hr hs e = absurd (subst (λ x. Stops x) (sym e) hs)
pieces_one (Tree.block c b t) Tree.none r s hr hs e = absurd (subst (λ x. Stops x) (sym e) hs)
pieces_one (Tree.plain c t) (Tree.block d b u) r s hr hs e = absurd (cc)
pieces_one (Tree.block c b t) (Tree.plain d u) r s hr hs e = absurd (cc)
pieces_one (Tree.plain c t) (Tree.plain d u) r s hr hs e =
    let h = pieces_one t u r s hr hs (tails (piece.Plain c) (piece.Plain d) (pieces t ++ r) (pieces u ++ s) e) in
    let same = same_plain c d (pieces t ++ r) (pieces u ++ s) e in
    (ap (λ x. Tree.plain x t) same ∙ ap (Tree.plain d) h.0, h.1)
pieces_one (Tree.block c a t) (Tree.block d b u) r s hr hs e =
    let inside : pieces a ++ (piece.Close ∷ (pieces t ++ r)) ≡ pieces b ++ (piece.Close ∷ (pieces u ++ s)) =
    sym (append_assoc (pieces a) (piece.Close ∷ pieces t) r) ∙ tails (piece.Open c) (piece.Open d) ((pieces a ++ piece.Close ∷ pieces t) ++ r) ((pieces b ++ piece.Close ∷ pieces u) ++ s) e ∙ append_assoc (pieces b) (piece.Close ∷ pieces u) s in
    let h = pieces_one a b (piece.Close ∷ (pieces t ++ r)) (piece.Close ∷ (pieces u ++ s)) tt tt inside in
    let k = pieces_one t u r s hr hs (tails piece.Close piece.Close (pieces t ++ r) (pieces u ++ s) h.1) in
    let same = same_open c d ((pieces a ++ piece.Close ∷ pieces t) ++ r) ((pieces b ++ piece.Close ∷ pieces u) ++ s) e in
    (ap (λ x. Tree.block x a t) same ∙ ap (λ x. Tree.block d x t) h.0 ∙ ap (Tree.block d b) k.0, k.1)

-- bytes are spelled by one tree at most
pub one_tree : (bytes : List ℕ) (a b : Tree) → ConfSpells a bytes → ConfSpells b bytes → a ≡ b
one_tree bytes a b h k =
    (pieces_one a b [] [] tt tt (append-nil (pieces a) ∙ all_one (sym (spelled_pieces bytes a h) ∙ spelled_pieces bytes b k) ∙ sym (append-nil (pieces b)))).0

-- ---- the tree of a text

pub record Spelled (bytes : List ℕ) (ps : List Piece) : Type 0 where
  pub tree : Tree
  pub spells : ConfSpells tree bytes
  pub is : ps ≡ pieces tree

whole_spelled : (bytes : List ℕ) (e : Ending) (ts : List Token) (ps : List Piece) → IsUtf8 bytes → e ≡ Ending.whole → Lexes 1 (chars bytes) ts e → group e None 0 ts ≡ Grouped.complete ps → Spelled bytes ps
whole_spelled bytes e ts ps utf8 w lexes g =
    let t = grouped_tree ts ps (ap (λ x. group x None 0 ts) (sym w) ∙ g) in
    record { tree = t.tree; spells = record { tokens = ts; utf8 = utf8; lexes = subst (λ x. Lexes 1 (chars bytes) ts x) w lexes; spells = t.spells }; is = t.is }

-- the pieces of a text are those of a tree that spells its bytes
pub pieces_spelled : (bytes : List ℕ) (ps : List Piece) → IsUtf8 bytes → pieces_of (chars bytes) ≡ Grouped.complete ps → Spelled bytes ps
pieces_spelled bytes ps utf8 g =
    let l = lexed_text (chars bytes) in
    whole_spelled bytes l.ending l.tokens ps utf8 (whole_ending l.ending l.tokens ps g) (read_stands 1 1 [] (chars bytes)) g

-- the first rule that fails among the pieces of a tree
judged_tree : (ps : List Piece) (t : Tree) → ps ≡ pieces t → judged ps ≡ conf_first t
judged_tree ps t is = ap judged is ∙ ap (λ ds. walk (imports_in ds) (record { place = place.Main; seen = [] }) [] [] (pieces t)) (listed_pieces t) ∙ walk_all (imports_in (directives t)) t

listed_tree : (ps : List Piece) (t : Tree) → ps ≡ pieces t → listed ps ≡ directives t
listed_tree ps t is = ap listed is ∙ listed_pieces t

-- ---- the answers

no_tree : (bytes : List ℕ) (line : ℕ) → refused_line (pieces_of (chars bytes)) (last_line (chars bytes)) ≡ Some line → HasNoTree bytes
no_tree bytes line h = λ tree s. let e : refused_line (pieces_of (chars bytes)) (last_line (chars bytes)) ≡ None = ap (λ g. refused_line g (last_line (chars bytes))) (spelled_pieces bytes tree s) in none_some (sym e ∙ h)

leaves_at : (text : List ℕ) (line : ℕ) (g : Grouped) → pieces_of text ≡ g → refused_line g (last_line text) ≡ Some line
    → Misfit (lexed_text text).tokens line ⊎ (CanBegin (lexed_text text).tokens × (line ≡ last_line text))
leaves_at text line (Grouped.complete ps) is h = absurd (none_some h)
leaves_at text line (Grouped.misfit n) is h = inl (misfit_first (lexed_text text).ending (lexed_text text).tokens line (is ∙ ap Grouped.misfit (some_one h)))
leaves_at text line Grouped.cut is h = inr (cut_begins (lexed_text text).ending (lexed_text text).tokens is, sym (some_one h))

leaves : (text : List ℕ) (line : ℕ) → refused_line (pieces_of text) (last_line text) ≡ Some line → LeavesAt text line
leaves text line h = ((lexed_text text).tokens, (lexed_text text).ending, read_stands 1 1 [] text, leaves_at text line (pieces_of text) refl h)

refused : (bytes : List ℕ) (f : ConfFault) → IsUtf8 bytes → IsJudged (chars bytes) f → IsRefused bytes f
refused bytes f utf8 (ps, g, j) = let s = pieces_spelled bytes ps utf8 g in (s.tree, s.spells, sym (judged_tree ps s.tree s.is) ∙ j)

-- what is answered for a text is what may be answered for its bytes
pub answered : (bytes : List ℕ) (r : Result Conf ConfFault) → IsUtf8 bytes → length bytes ≤ 1048576 → TextRead (chars bytes) r → ReadAs bytes r
answered bytes (Ok conf) utf8 few (ps, g, j, l, c) =
    let s = pieces_spelled bytes ps utf8 g in
    let same = listed_tree ps s.tree s.is in
    (few, (s.tree, s.spells, sym (judged_tree ps s.tree s.is) ∙ j, ap lacks (sym same) ∙ l, c ∙ ap conf_of same))
answered bytes (Err fault.TooLong) utf8 few h = absurd h
answered bytes (Err (fault.Syntax line)) utf8 few h = (few, (no_tree bytes line h, inr (utf8, leaves (chars bytes) line h)))
answered bytes (Err (fault.Unknown line)) utf8 few h = (few, refused bytes (fault.Unknown line) utf8 h)
answered bytes (Err (fault.Place line)) utf8 few h = (few, refused bytes (fault.Place line) utf8 h)
answered bytes (Err (fault.Count line)) utf8 few h = (few, refused bytes (fault.Count line) utf8 h)
answered bytes (Err (fault.Value line)) utf8 few h = (few, refused bytes (fault.Value line) utf8 h)
answered bytes (Err (fault.Duplicate line)) utf8 few h = (few, refused bytes (fault.Duplicate line) utf8 h)
answered bytes (Err fault.Missing) utf8 few (ps, g, j, l) =
    let s = pieces_spelled bytes ps utf8 g in
    (few, (s.tree, s.spells, sym (judged_tree ps s.tree s.is) ∙ j, ap lacks (sym (listed_tree ps s.tree s.is)) ∙ l))
answered bytes (Err fault.NoMemory) utf8 few h = tt

-- bytes that aren't UTF-8 are spelled by no tree
pub bad_bytes : (bytes : List ℕ) → (IsUtf8 bytes → ⊥) → HasNoTree bytes
bad_bytes bytes h = λ tree s. h s.utf8
