-- The tree that tokens spell is just the one whose pieces grouping gives.
use Rattle.std.proofs.Common.{◌≡◌, ℕ, zero, suc, ◌+◌, ◌-◌, List, [], ◌∷◌, ◌++◌, Bool, true, false, ◌==◌, if◌then◌else◌, ◌⊎◌, inl, inr, Option, Some, None, refl, ap, sym, ◌∙◌, subst, append_assoc, append-nil, eqb-true, add-one, arith}
use Rattle.conf_read.specs.declared.directive.Directive.{Directive}
use Rattle.conf_read.specs.declared.directive.Piece.{Piece}
use Rattle.conf_read.specs.declared.directive.Piece.TheVariants as piece
use Rattle.conf_read.specs.Tree.{Lexeme, Token, Ending, Tree, Words, Spells, token, CanBegin, Misfit}
use Rattle.conf_read.specs.Scan.{Grouped, with_piece, with_pieces, begun, longer, worded, over, taken, group}
use Rattle.conf_read.specs.Walk.{pieces}
use Rattle.conf_read.proofs.Pieces.{pieces_complete}

-- ---- what is spelled is grouped

with_pieces-append : (ps qs : List Piece) (g : Grouped) → with_pieces (ps ++ qs) g ≡ with_pieces ps (with_pieces qs g)
with_pieces-append [] qs g = refl
with_pieces-append (p ∷ ps) qs g = ap (with_piece p) (with_pieces-append ps qs g)

abbrev pub with_words : Directive → List (List ℕ) → Directive
with_words d ws = record { line = d.line; name = d.name; words = d.words ++ ws }

words_read : {ws : List (List ℕ)} {i r : List Token} → Words ws i r → (e : Ending) (d : Directive) (depth : ℕ) → group e (Some d) depth i ≡ group e (Some (with_words d ws)) depth r
words_read (Words.none r) e d depth = ap (λ ws. group e (Some (record { line = d.line; name = d.name; words = ws })) depth r) (sym (append-nil d.words))
words_read (Words.more line w ws i r h) e d depth =
    words_read h e (longer d w) depth ∙ ap (λ vs. group e (Some (record { line = d.line; name = d.name; words = vs })) depth r) (append_assoc d.words (w ∷ []) ws)

not_zero : (n : ℕ) → (n + 1 == 0) ≡ false
not_zero n = elim (n + 1 == 0) as (λ t. (n + 1 == 0) ≡ t → t ≡ false) [ true ↦ λ e. let h : n + 1 ≡ 0 = eqb-true (n + 1) 0 e in absurd (omega arith) | false ↦ λ e. refl ] refl

closes : (e : Ending) (depth line : ℕ) (ts : List Token) → group e None (depth + 1) (token line Lexeme.closing ∷ ts) ≡ with_piece piece.Close (group e None depth ts)
closes e depth line ts = let back : depth + 1 - 1 ≡ depth = omega arith in rw (not_zero depth, back) refl

pub spells_read : {t : Tree} {i r : List Token} → Spells t i r → (e : Ending) (depth : ℕ) → group e None depth i ≡ with_pieces (pieces t) (group e None depth r)
spells_read (Spells.none r) e depth = refl
spells_read (Spells.plain d t line i j r ws h) e depth = words_read ws e (begun d.line d.name) depth ∙ ap (with_piece (piece.Plain d)) (spells_read h e depth)
spells_read (Spells.block d b t opened closed i j k r ws hb ht) e depth =
    words_read ws e (begun d.line d.name) depth
    ∙ ap (with_piece (piece.Open d))
    (spells_read hb e (depth + 1)
    ∙ ap (with_pieces (pieces b)) (closes e depth closed k ∙ ap (with_piece piece.Close) (spells_read ht e depth))
    ∙ sym (with_pieces-append (pieces b) (piece.Close ∷ pieces t) (group e None depth r)))

-- the tokens of a tree give its pieces
pub tree_read : (t : Tree) (ts : List Token) → Spells t ts [] → group Ending.whole None 0 ts ≡ Grouped.complete (pieces t)
tree_read t ts h = spells_read h Ending.whole 0 ∙ pieces_complete (pieces t)

-- ---- what is grouped is spelled

-- so many blocks are still to be closed: directives, and then each time `}` and more directives
pub data Rest : ℕ → List Token → List Piece → Type 0 where
  last : (t : Tree) (ts : List Token) (ps : List Piece) → Spells t ts [] → ps ≡ pieces t → Rest zero ts ps
  more : (k : ℕ) (t : Tree) (line : ℕ) (ts us : List Token) (ps qs : List Piece) → Spells t ts (token line Lexeme.closing ∷ us) → Rest k us qs → ps ≡ pieces t ++ piece.Close ∷ qs → Rest (suc k) ts ps

plain_first : (d : Directive) (line k : ℕ) (i j : List Token) (qs : List Piece) → Words d.words i (token line Lexeme.semicolon ∷ j) → Rest k j qs → Rest k (token d.line (Lexeme.word d.name) ∷ i) (piece.Plain d ∷ qs)
plain_first d line k i j qs ws (Rest.last t _ _ h is) = Rest.last (Tree.plain d t) _ _ (Spells.plain d t line i j [] ws h) (ap (λ x. piece.Plain d ∷ x) is)
plain_first d line k i j qs ws (Rest.more m t closed _ us _ rs h more_ is) =
    Rest.more m (Tree.plain d t) closed _ us _ rs (Spells.plain d t line i j (token closed Lexeme.closing ∷ us) ws h) more_ (ap (λ x. piece.Plain d ∷ x) is)

-- what a block holds, and what comes behind it
block_joined : (d : Directive) (b t : Tree) (ps qs rs : List Piece) → ps ≡ pieces b ++ piece.Close ∷ qs → qs ≡ pieces t ++ rs → piece.Open d ∷ ps ≡ pieces (Tree.block d b t) ++ rs
block_joined d b t ps qs rs e f =
    ap (λ x. piece.Open d ∷ x) (e ∙ ap (λ x. pieces b ++ piece.Close ∷ x) f ∙ sym (append_assoc (pieces b) (piece.Close ∷ pieces t) rs))

block_then : (d b_d : Directive) (b : Tree) (opened closed k : ℕ) (i j us : List Token) (ps qs : List Piece) → Words d.words i (token opened Lexeme.opening ∷ j) → Spells b j (token closed Lexeme.closing ∷ us)
    → ps ≡ pieces b ++ piece.Close ∷ qs → Rest k us qs → Rest k (token d.line (Lexeme.word d.name) ∷ i) (piece.Open d ∷ ps)
block_then d b_d b opened closed k i j us ps qs ws hb e (Rest.last t _ _ h is) =
    Rest.last (Tree.block d b t) _ _ (Spells.block d b t opened closed i j us [] ws hb h) (block_joined d b t ps qs [] e (is ∙ sym (append-nil (pieces t))) ∙ append-nil (pieces (Tree.block d b t)))
block_then d b_d b opened closed k i j us ps qs ws hb e (Rest.more m t line _ vs _ rs h more_ is) =
    Rest.more m (Tree.block d b t) line _ vs _ rs (Spells.block d b t opened closed i j us (token line Lexeme.closing ∷ vs) ws hb h) more_ (block_joined d b t ps qs (piece.Close ∷ rs) e is)

block_first : (d : Directive) (opened k : ℕ) (i j : List Token) (ps : List Piece) → Words d.words i (token opened Lexeme.opening ∷ j) → Rest (suc k) j ps → Rest k (token d.line (Lexeme.word d.name) ∷ i) (piece.Open d ∷ ps)
block_first d opened k i j ps ws (Rest.more _ b closed _ us _ qs hb more_ e) = block_then d d b opened closed k i j us ps qs ws hb e more_

-- a directive whose words go on
pub record Goes (d : Directive) (k : ℕ) (ts : List Token) (ps : List Piece) : Type 0 where
  words : List (List ℕ)
  rest : List Token
  listed : Words words ts rest
  line : ℕ
  after : List Token
  behind : List Piece
  ends : ((rest ≡ token line Lexeme.semicolon ∷ after) × Rest k after behind × (ps ≡ piece.Plain (with_words d words) ∷ behind))
      ⊎ ((rest ≡ token line Lexeme.opening ∷ after) × Rest (suc k) after behind × (ps ≡ piece.Open (with_words d words) ∷ behind))

abbrev pub Sound : Option Directive → ℕ → List Token → List Piece → Type 0
Sound None k ts ps = Rest k ts ps
Sound (Some d) k ts ps = Goes d k ts ps

record Inverted (p : Piece) (g : Grouped) (ps : List Piece) : Type 0 where
  behind : List Piece
  given : g ≡ Grouped.complete behind
  joined : ps ≡ p ∷ behind

inverted : (p : Piece) (g : Grouped) (ps : List Piece) → with_piece p g ≡ Grouped.complete ps → Inverted p g ps
inverted p (Grouped.complete qs) ps e = record { behind = qs; given = refl; joined = cc }
inverted p (Grouped.misfit line) ps e = absurd (cc)
inverted p Grouped.cut ps e = absurd (cc)

misfit_below : (p : Piece) (g : Grouped) (line : ℕ) → with_piece p g ≡ Grouped.misfit line → g ≡ Grouped.misfit line
misfit_below p (Grouped.complete qs) line e = absurd (cc)
misfit_below p (Grouped.misfit n) line e = e
misfit_below p Grouped.cut line e = absurd (cc)

cut_below : (p : Piece) (g : Grouped) → with_piece p g ≡ Grouped.cut → g ≡ Grouped.cut
cut_below p (Grouped.complete qs) e = absurd (cc)
cut_below p (Grouped.misfit n) e = absurd (cc)
cut_below p Grouped.cut e = refl

record Positive (k : ℕ) : Type 0 where
  below : ℕ
  is : k ≡ suc below
  less : k - 1 ≡ below

positive : (k : ℕ) → (k == 0) ≡ false → Positive k
positive zero e = absurd (cc)
positive (suc k) e = record { below = k; is = refl; less = omega arith }

sound_over : (k : ℕ) (ps : List Piece) → over Ending.whole None k ≡ Grouped.complete ps → Rest k [] ps
sound_over k ps =
    elim (k == 0) as (λ b. (k == 0) ≡ b → (if b then Grouped.complete [] else Grouped.cut) ≡ Grouped.complete ps → Rest k [] ps) [
      | true ↦ λ z e. let none : ps ≡ [] = cc in subst (λ n. Rest n [] ps) (sym (eqb-true k 0 z)) (Rest.last Tree.none [] ps (Spells.none []) none)
      | false ↦ λ z e. absurd (cc)
    ] refl

-- the words of a directive that begins are read
goes_rest : (line k : ℕ) (w : List ℕ) (ts : List Token) (ps : List Piece) → Goes (begun line w) k ts ps → Rest k (token line (Lexeme.word w) ∷ ts) ps
goes_rest line k w ts ps g =
    elim g.ends as (λ _. Rest k (token line (Lexeme.word w) ∷ ts) ps) [
      | inl h ↦ subst (λ x. Rest k (token line (Lexeme.word w) ∷ ts) x) (sym h.2) (plain_first (with_words (begun line w) g.words) g.line k ts g.after g.behind (subst (λ r. Words g.words ts r) h.0 g.listed) h.1)
      | inr h ↦ subst (λ x. Rest k (token line (Lexeme.word w) ∷ ts) x) (sym h.2) (block_first (with_words (begun line w) g.words) g.line k ts g.after g.behind (subst (λ r. Words g.words ts r) h.0 g.listed) h.1)
    ]

same_words : (d : Directive) (w : List ℕ) (ws : List (List ℕ)) → with_words (longer d w) ws ≡ with_words d (w ∷ ws)
same_words d w ws = ap (λ vs. let x : Directive = record { line = d.line; name = d.name; words = vs } in x) (append_assoc d.words (w ∷ []) ws)

no_words : (d : Directive) → d ≡ with_words d []
no_words d = ap (λ vs. let x : Directive = record { line = d.line; name = d.name; words = vs } in x) (sym (append-nil d.words))

goes_more : (d : Directive) (line k : ℕ) (w : List ℕ) (ts : List Token) (ps : List Piece) → Goes (longer d w) k ts ps → Goes d k (token line (Lexeme.word w) ∷ ts) ps
goes_more d line k w ts ps g = record {
  words = w ∷ g.words;
  rest = g.rest;
  listed = Words.more line w g.words ts g.rest g.listed;
  line = g.line;
  after = g.after;
  behind = g.behind;
  ends = elim g.ends as (λ _. ((g.rest ≡ token g.line Lexeme.semicolon ∷ g.after) × Rest k g.after g.behind × (ps ≡ piece.Plain (with_words d (w ∷ g.words)) ∷ g.behind))
      ⊎ ((g.rest ≡ token g.line Lexeme.opening ∷ g.after) × Rest (suc k) g.after g.behind × (ps ≡ piece.Open (with_words d (w ∷ g.words)) ∷ g.behind))) [
        | inl h ↦ inl (h.0, h.1, h.2 ∙ ap (λ x. piece.Plain x ∷ g.behind) (same_words d w g.words))
        | inr h ↦ inr (h.0, h.1, h.2 ∙ ap (λ x. piece.Open x ∷ g.behind) (same_words d w g.words))
      ];
}

abbrev pub onward : Ending → List Token → Option Directive → ℕ → Grouped
onward e ts d k = group e d k ts

sound_close : (line k : ℕ) (ts : List Token) (ps : List Piece) → ((j : ℕ) (qs : List Piece) → group Ending.whole None j ts ≡ Grouped.complete qs → Rest j ts qs)
    → taken (onward Ending.whole ts) None k (token line Lexeme.closing) Lexeme.closing ≡ Grouped.complete ps → Rest k (token line Lexeme.closing ∷ ts) ps
sound_close line k ts ps ih =
    elim (k == 0) as (λ b. (k == 0) ≡ b → (if b then Grouped.misfit line else with_piece piece.Close (group Ending.whole None (k - 1) ts)) ≡ Grouped.complete ps → Rest k (token line Lexeme.closing ∷ ts) ps) [
      | true ↦ λ z e. absurd (cc)
      | false ↦ λ z e.
          let p = positive k z in
          let v = inverted piece.Close (group Ending.whole None (k - 1) ts) ps e in
          let r = ih (k - 1) v.behind v.given in
          subst (λ n. Rest n (token line Lexeme.closing ∷ ts) ps) (sym p.is)
          (Rest.more p.below Tree.none line (token line Lexeme.closing ∷ ts) ts ps v.behind (Spells.none (token line Lexeme.closing ∷ ts)) (subst (λ n. Rest n ts v.behind) p.less r) v.joined)
    ] refl

step : (line : ℕ) (x : Lexeme) (d : Option Directive) (k : ℕ) (ts : List Token) (ps : List Piece)
    → ((d' : Option Directive) (j : ℕ) (qs : List Piece) → group Ending.whole d' j ts ≡ Grouped.complete qs → Sound d' j ts qs)
    → taken (onward Ending.whole ts) d k (token line x) x ≡ Grouped.complete ps → Sound d k (token line x ∷ ts) ps
step line (Lexeme.word w) None k ts ps ih e = goes_rest line k w ts ps (ih (Some (begun line w)) k ps e)
step line (Lexeme.word w) (Some d) k ts ps ih e = goes_more d line k w ts ps (ih (Some (longer d w)) k ps e)
step line Lexeme.semicolon None k ts ps ih e = absurd (cc)
step line Lexeme.semicolon (Some d) k ts ps ih e =
    let v = inverted (piece.Plain d) (group Ending.whole None k ts) ps e in
    record {
      words = [];
      rest = token line Lexeme.semicolon ∷ ts;
      listed = Words.none (token line Lexeme.semicolon ∷ ts);
      line = line;
      after = ts;
      behind = v.behind;
      ends = inl (refl, ih None k v.behind v.given, v.joined ∙ ap (λ x. piece.Plain x ∷ v.behind) (no_words d));
    }
step line Lexeme.opening None k ts ps ih e = absurd (cc)
step line Lexeme.opening (Some d) k ts ps ih e =
    let v = inverted (piece.Open d) (group Ending.whole None (k + 1) ts) ps e in
    let r : Rest (suc k) ts v.behind = subst (λ n. Rest n ts v.behind) (add-one k) (ih None (k + 1) v.behind v.given) in
    record {
      words = [];
      rest = token line Lexeme.opening ∷ ts;
      listed = Words.none (token line Lexeme.opening ∷ ts);
      line = line;
      after = ts;
      behind = v.behind;
      ends = inr (refl, r, v.joined ∙ ap (λ x. piece.Open x ∷ v.behind) (no_words d));
    }
step line Lexeme.closing None k ts ps ih e = sound_close line k ts ps (ih None) e
step line Lexeme.closing (Some d) k ts ps ih e = absurd (cc)

sound : (ts : List Token) (d : Option Directive) (k : ℕ) (ps : List Piece) → group Ending.whole d k ts ≡ Grouped.complete ps → Sound d k ts ps
sound [] None k ps e = sound_over k ps e
sound [] (Some d) k ps e = absurd (cc)
sound (t ∷ ts) d k ps e = step t.line t.lexeme d k ts ps (sound ts) e

pub record TreeOf (ts : List Token) (ps : List Piece) : Type 0 where
  pub tree : Tree
  pub spells : Spells tree ts []
  pub is : ps ≡ pieces tree

rest_tree : (ts : List Token) (ps : List Piece) → Rest zero ts ps → TreeOf ts ps
rest_tree ts ps (Rest.last t _ _ h is) = record { tree = t; spells = h; is = is }

-- pieces are those of a tree
pub grouped_tree : (ts : List Token) (ps : List Piece) → group Ending.whole None 0 ts ≡ Grouped.complete ps → TreeOf ts ps
grouped_tree ts ps e = rest_tree ts ps (sound ts None 0 ps e)

-- ---- where tokens leave the form

closers : ℕ → List Token
closers zero = []
closers (suc k) = token 1 Lexeme.closing ∷ closers k

closings : Option Directive → ℕ → List Token
closings None k = closers k
closings (Some d) k = token 1 Lexeme.semicolon ∷ closers k

record Completes (d : Option Directive) (k : ℕ) (ts : List Token) : Type 0 where
  more : List Token
  given : List Piece
  is : group Ending.whole d k (ts ++ more) ≡ Grouped.complete given

all_closed : (k : ℕ) → (ps : List Piece) × (group Ending.whole None k (closers k) ≡ Grouped.complete ps)
unfolding closers
all_closed zero = ([], refl)
all_closed (suc k) =
    let h = all_closed k in
    let e : group Ending.whole None (suc k) (token 1 Lexeme.closing ∷ closers k) ≡ with_piece piece.Close (group Ending.whole None k (closers k)) =
    subst (λ n. group Ending.whole None n (token 1 Lexeme.closing ∷ closers k) ≡ with_piece piece.Close (group Ending.whole None k (closers k))) (add-one k) (closes Ending.whole k 1 (closers k)) in
    (piece.Close ∷ h.0, e ∙ ap (with_piece piece.Close) h.1)

can_end : (d : Option Directive) (k : ℕ) → Completes d k []
unfolding closings
can_end None k = let h = all_closed k in record { more = closers k; given = h.0; is = h.1 }
can_end (Some d) k = let h = all_closed k in record { more = token 1 Lexeme.semicolon ∷ closers k; given = piece.Plain d ∷ h.0; is = ap (with_piece (piece.Plain d)) h.1 }

pieces_over : (ps qs : List Piece) → with_pieces ps (Grouped.complete qs) ≡ Grouped.complete (ps ++ qs)
pieces_over [] qs = refl
pieces_over (p ∷ ps) qs = ap (with_piece p) (pieces_over ps qs)

pieces_misfit : (ps : List Piece) (line : ℕ) → with_pieces ps (Grouped.misfit line) ≡ Grouped.misfit line
pieces_misfit [] line = refl
pieces_misfit (p ∷ ps) line = ap (with_piece p) (pieces_misfit ps line)

-- a token behind which grouping goes on
further : (d d' : Option Directive) (k k' : ℕ) (t : Token) (ts : List Token) (ps : List Piece) → ((us : List Token) → group Ending.whole d k (t ∷ us) ≡ with_pieces ps (group Ending.whole d' k' us)) → Completes d' k' ts → Completes d k (t ∷ ts)
further d d' k k' t ts ps same h = record { more = h.more; given = ps ++ h.given; is = same (ts ++ h.more) ∙ ap (with_pieces ps) h.is ∙ pieces_over ps h.given }

record Stuck (d : Option Directive) (k : ℕ) (ts : List Token) (line : ℕ) : Type 0 where
  front : List Token
  lexeme : Lexeme
  rest : List Token
  joined : ts ≡ front ++ token line lexeme ∷ rest
  fits : Completes d k front
  ends : (more : List Token) → group Ending.whole d k ((front ++ token line lexeme ∷ []) ++ more) ≡ Grouped.misfit line

stuck_further : (d d' : Option Directive) (k k' : ℕ) (t : Token) (ts : List Token) (line : ℕ) (ps : List Piece) → ((us : List Token) → group Ending.whole d k (t ∷ us) ≡ with_pieces ps (group Ending.whole d' k' us)) → Stuck d' k' ts line
    → Stuck d k (t ∷ ts) line
stuck_further d d' k k' t ts line ps same h = record {
  front = t ∷ h.front;
  lexeme = h.lexeme;
  rest = h.rest;
  joined = ap (λ x. t ∷ x) h.joined;
  fits = further d d' k k' t h.front ps same h.fits;
  ends = λ more. same ((h.front ++ token line h.lexeme ∷ []) ++ more) ∙ ap (with_pieces ps) (h.ends more) ∙ pieces_misfit ps line;
}

stuck_here : (d : Option Directive) (k : ℕ) (x : Lexeme) (ts : List Token) (at line : ℕ) → at ≡ line → ((us : List Token) → group Ending.whole d k (token at x ∷ us) ≡ Grouped.misfit at) → Stuck d k (token at x ∷ ts) line
stuck_here d k x ts at line is h = record {
  front = [];
  lexeme = x;
  rest = ts;
  joined = ap (λ n. token n x ∷ ts) is;
  fits = can_end d k;
  ends = λ more. subst (λ n. group Ending.whole d k (token n x ∷ more) ≡ Grouped.misfit n) is (h more);
}

same_misfit : (a b : ℕ) → Grouped.misfit a ≡ Grouped.misfit b → a ≡ b
same_misfit a b e = cc

zero_closes : (line k : ℕ) (us : List Token) → (k == 0) ≡ true → group Ending.whole None k (token line Lexeme.closing ∷ us) ≡ Grouped.misfit line
zero_closes line k us z = rw z refl

one_closes : (line k : ℕ) (us : List Token) → (k == 0) ≡ false → group Ending.whole None k (token line Lexeme.closing ∷ us) ≡ with_piece piece.Close (group Ending.whole None (k - 1) us)
one_closes line k us z = rw z refl

stuck_close : (e : Ending) (at k line : ℕ) (ts : List Token) → ((j : ℕ) → group e None j ts ≡ Grouped.misfit line → Stuck None j ts line)
    → taken (onward e ts) None k (token at Lexeme.closing) Lexeme.closing ≡ Grouped.misfit line → Stuck None k (token at Lexeme.closing ∷ ts) line
stuck_close e at k line ts ih =
    elim (k == 0) as (λ b. (k == 0) ≡ b → (if b then Grouped.misfit at else with_piece piece.Close (group e None (k - 1) ts)) ≡ Grouped.misfit line → Stuck None k (token at Lexeme.closing ∷ ts) line) [
      | true ↦ λ z h. stuck_here None k Lexeme.closing ts at line (same_misfit at line h) (λ us. zero_closes at k us z)
      | false ↦ λ z h. stuck_further None None k (k - 1) (token at Lexeme.closing) ts line (piece.Close ∷ []) (λ us. one_closes at k us z) (ih (k - 1) (misfit_below piece.Close (group e None (k - 1) ts) line h))
    ] refl

stuck_step : (e : Ending) (at : ℕ) (x : Lexeme) (d : Option Directive) (k line : ℕ) (ts : List Token) → ((d' : Option Directive) (j : ℕ) → group e d' j ts ≡ Grouped.misfit line → Stuck d' j ts line)
    → taken (onward e ts) d k (token at x) x ≡ Grouped.misfit line → Stuck d k (token at x ∷ ts) line
stuck_step e at (Lexeme.word w) d k line ts ih h = stuck_further d (Some (worded d at w)) k k (token at (Lexeme.word w)) ts line [] (λ us. refl) (ih (Some (worded d at w)) k h)
stuck_step e at Lexeme.semicolon None k line ts ih h = stuck_here None k Lexeme.semicolon ts at line (same_misfit at line h) (λ us. refl)
stuck_step e at Lexeme.semicolon (Some d) k line ts ih h =
    stuck_further (Some d) None k k (token at Lexeme.semicolon) ts line (piece.Plain d ∷ []) (λ us. refl) (ih None k (misfit_below (piece.Plain d) (group e None k ts) line h))
stuck_step e at Lexeme.opening None k line ts ih h = stuck_here None k Lexeme.opening ts at line (same_misfit at line h) (λ us. refl)
stuck_step e at Lexeme.opening (Some d) k line ts ih h =
    stuck_further (Some d) None k (k + 1) (token at Lexeme.opening) ts line (piece.Open d ∷ []) (λ us. refl) (ih None (k + 1) (misfit_below (piece.Open d) (group e None (k + 1) ts) line h))
stuck_step e at Lexeme.closing None k line ts ih h = stuck_close e at k line ts (ih None) h
stuck_step e at Lexeme.closing (Some d) k line ts ih h = stuck_here (Some d) k Lexeme.closing ts at line (same_misfit at line h) (λ us. refl)

over_misfit : (b : Bool) (line : ℕ) → (if b then Grouped.complete [] else Grouped.cut) ≡ Grouped.misfit line → ⊥
over_misfit true line h = cc
over_misfit false line h = cc

stuck_over : (e : Ending) (d : Option Directive) (k line : ℕ) → over e d k ≡ Grouped.misfit line → Stuck d k [] line
stuck_over Ending.quoted d k line h = absurd (cc)
stuck_over Ending.whole (Some d) k line h = absurd (cc)
stuck_over Ending.whole None k line h = absurd (over_misfit (k == 0) line h)

stuck : (e : Ending) (ts : List Token) (d : Option Directive) (k line : ℕ) → group e d k ts ≡ Grouped.misfit line → Stuck d k ts line
stuck e [] d k line h = stuck_over e d k line h
stuck e (t ∷ ts) d k line h = stuck_step e t.line t.lexeme d k line ts (λ d' j. stuck e ts d' j line) h

can_close : (e : Ending) (at k : ℕ) (ts : List Token) → ((j : ℕ) → group e None j ts ≡ Grouped.cut → Completes None j ts)
    → taken (onward e ts) None k (token at Lexeme.closing) Lexeme.closing ≡ Grouped.cut → Completes None k (token at Lexeme.closing ∷ ts)
can_close e at k ts ih =
    elim (k == 0) as (λ b. (k == 0) ≡ b → (if b then Grouped.misfit at else with_piece piece.Close (group e None (k - 1) ts)) ≡ Grouped.cut → Completes None k (token at Lexeme.closing ∷ ts)) [
      | true ↦ λ z h. absurd (cc)
      | false ↦ λ z h. further None None k (k - 1) (token at Lexeme.closing) ts (piece.Close ∷ []) (λ us. one_closes at k us z) (ih (k - 1) (cut_below piece.Close (group e None (k - 1) ts) h))
    ] refl

can_step : (e : Ending) (at : ℕ) (x : Lexeme) (d : Option Directive) (k : ℕ) (ts : List Token) → ((d' : Option Directive) (j : ℕ) → group e d' j ts ≡ Grouped.cut → Completes d' j ts)
    → taken (onward e ts) d k (token at x) x ≡ Grouped.cut → Completes d k (token at x ∷ ts)
can_step e at (Lexeme.word w) d k ts ih h = further d (Some (worded d at w)) k k (token at (Lexeme.word w)) ts [] (λ us. refl) (ih (Some (worded d at w)) k h)
can_step e at Lexeme.semicolon None k ts ih h = absurd (cc)
can_step e at Lexeme.semicolon (Some d) k ts ih h = further (Some d) None k k (token at Lexeme.semicolon) ts (piece.Plain d ∷ []) (λ us. refl) (ih None k (cut_below (piece.Plain d) (group e None k ts) h))
can_step e at Lexeme.opening None k ts ih h = absurd (cc)
can_step e at Lexeme.opening (Some d) k ts ih h = further (Some d) None k (k + 1) (token at Lexeme.opening) ts (piece.Open d ∷ []) (λ us. refl) (ih None (k + 1) (cut_below (piece.Open d) (group e None (k + 1) ts) h))
can_step e at Lexeme.closing None k ts ih h = can_close e at k ts (ih None) h
can_step e at Lexeme.closing (Some d) k ts ih h = absurd (cc)

can : (e : Ending) (ts : List Token) (d : Option Directive) (k : ℕ) → group e d k ts ≡ Grouped.cut → Completes d k ts
can e [] d k h = can_end d k
can e (t ∷ ts) d k h = can_step e t.line t.lexeme d k ts (can e ts) h

begin_with : (ts : List Token) → Completes None 0 ts → CanBegin ts
begin_with ts h = let t = grouped_tree (ts ++ h.more) h.given h.is in (t.tree, h.more, t.spells)

-- where grouping is cut, the tokens can go on
pub cut_begins : (e : Ending) (ts : List Token) → group e None 0 ts ≡ Grouped.cut → CanBegin ts
cut_begins e ts h = begin_with ts (can e ts None 0 h)

-- where a token doesn't fit, it is the first
pub misfit_first : (e : Ending) (ts : List Token) (line : ℕ) → group e None 0 ts ≡ Grouped.misfit line → Misfit ts line
misfit_first e ts line h =
    let s = stuck e ts None 0 line h in
    record {
      front = s.front;
      lexeme = s.lexeme;
      rest = s.rest;
      joined = s.joined;
      fits = begin_with s.front s.fits;
      ends = λ b. let a = tree_read b.0 ((s.front ++ token line s.lexeme ∷ []) ++ b.1) b.2 in let c = s.ends b.1 in cc;
    }
