-- The longest mark.
use Rattle.std.proofs.Common.{◌≡◌, ℕ, zero, suc, ◌+◌, ◌<◌, ◌≤◌, Bool, true, false, ◌&&◌, nat_le, List, [], ◌∷◌, length, take, drop, Option, Some, None, option_map, refl, ap, subst, sym, ◌∙◌, arith, ◌==◌, if◌then◌else◌, inl, inr, bytes_eq, get_or, length-take}
use Rattle.std.proofs.lemmas.Bool.Decides.{nat_tests}
use Rattle.std.proofs.lemmas.Slice.Eq.{bytes_eq-Decides}
use Rattle.std.specs.List.{find}
use Rattle.njs_tree.specs.declared.token.Mark.{Mark}
use Rattle.njs_tree.specs.declared.token.Mark.TheVariants as sign
use Rattle.njs_tree.specs.declared.token.LexFault.{LexFault}
use Rattle.njs_tree.specs.declared.token.LexFault.TheVariants as fault
use Rattle.njs_tree.specs.Characters.{is_letter, begins}
use Rattle.njs_tree.specs.Lexemes.{Lexeme, marks, mark_of, mark_text}
use Rattle.njs_tree.specs.Lexical.{is_decimal, is_quote, blank_length, opens_comment, lexeme_at, fault_at, fault_if, byte_fault, mark_lexeme}
use Rattle.njs_tree.specs.TokenList.{Begins}
use Rattle.njs_lexer.specs.Steps.{begins_text, first_begun}
use Rattle.njs_lexer.proofs.Runs.{never, cases, differs, some_one, none_some, same_number, and_left, and_right}

mark_known : (m : Mark) → mark_of (mark_text m) ≡ Some m
unfolding mark_of marks
mark_known sign.LeftBrace = refl
mark_known sign.RightBrace = refl
mark_known sign.LeftParen = refl
mark_known sign.RightParen = refl
mark_known sign.LeftBracket = refl
mark_known sign.RightBracket = refl
mark_known sign.Dot = refl
mark_known sign.Semicolon = refl
mark_known sign.Comma = refl
mark_known sign.Lt = refl
mark_known sign.Gt = refl
mark_known sign.Le = refl
mark_known sign.Ge = refl
mark_known sign.Eq = refl
mark_known sign.Ne = refl
mark_known sign.StrictEq = refl
mark_known sign.StrictNe = refl
mark_known sign.Plus = refl
mark_known sign.Minus = refl
mark_known sign.Star = refl
mark_known sign.Slash = refl
mark_known sign.Percent = refl
mark_known sign.PlusPlus = refl
mark_known sign.MinusMinus = refl
mark_known sign.Shl = refl
mark_known sign.Shr = refl
mark_known sign.UShr = refl
mark_known sign.BitAnd = refl
mark_known sign.BitOr = refl
mark_known sign.BitXor = refl
mark_known sign.Not = refl
mark_known sign.BitNot = refl
mark_known sign.And = refl
mark_known sign.Or = refl
mark_known sign.Question = refl
mark_known sign.Colon = refl
mark_known sign.Assign = refl
mark_known sign.AddAssign = refl
mark_known sign.SubAssign = refl
mark_known sign.MulAssign = refl
mark_known sign.DivAssign = refl
mark_known sign.RemAssign = refl
mark_known sign.ShlAssign = refl
mark_known sign.ShrAssign = refl
mark_known sign.UShrAssign = refl
mark_known sign.AndAssign = refl
mark_known sign.OrAssign = refl
mark_known sign.XorAssign = refl

-- the first character of a mark is one
first_known : (m : Mark) → byte_fault (mark_of (take 1 (mark_text m))) ≡ None
unfolding mark_of marks
first_known sign.LeftBrace = refl
first_known sign.RightBrace = refl
first_known sign.LeftParen = refl
first_known sign.RightParen = refl
first_known sign.LeftBracket = refl
first_known sign.RightBracket = refl
first_known sign.Dot = refl
first_known sign.Semicolon = refl
first_known sign.Comma = refl
first_known sign.Lt = refl
first_known sign.Gt = refl
first_known sign.Le = refl
first_known sign.Ge = refl
first_known sign.Eq = refl
first_known sign.Ne = refl
first_known sign.StrictEq = refl
first_known sign.StrictNe = refl
first_known sign.Plus = refl
first_known sign.Minus = refl
first_known sign.Star = refl
first_known sign.Slash = refl
first_known sign.Percent = refl
first_known sign.PlusPlus = refl
first_known sign.MinusMinus = refl
first_known sign.Shl = refl
first_known sign.Shr = refl
first_known sign.UShr = refl
first_known sign.BitAnd = refl
first_known sign.BitOr = refl
first_known sign.BitXor = refl
first_known sign.Not = refl
first_known sign.BitNot = refl
first_known sign.And = refl
first_known sign.Or = refl
first_known sign.Question = refl
first_known sign.Colon = refl
first_known sign.Assign = refl
first_known sign.AddAssign = refl
first_known sign.SubAssign = refl
first_known sign.MulAssign = refl
first_known sign.DivAssign = refl
first_known sign.RemAssign = refl
first_known sign.ShlAssign = refl
first_known sign.ShrAssign = refl
first_known sign.UShrAssign = refl
first_known sign.AndAssign = refl
first_known sign.OrAssign = refl
first_known sign.XorAssign = refl

mark_some : (m : Mark) → 0 < length (mark_text m)
mark_some sign.LeftBrace = omega arith
mark_some sign.RightBrace = omega arith
mark_some sign.LeftParen = omega arith
mark_some sign.RightParen = omega arith
mark_some sign.LeftBracket = omega arith
mark_some sign.RightBracket = omega arith
mark_some sign.Dot = omega arith
mark_some sign.Semicolon = omega arith
mark_some sign.Comma = omega arith
mark_some sign.Lt = omega arith
mark_some sign.Gt = omega arith
mark_some sign.Le = omega arith
mark_some sign.Ge = omega arith
mark_some sign.Eq = omega arith
mark_some sign.Ne = omega arith
mark_some sign.StrictEq = omega arith
mark_some sign.StrictNe = omega arith
mark_some sign.Plus = omega arith
mark_some sign.Minus = omega arith
mark_some sign.Star = omega arith
mark_some sign.Slash = omega arith
mark_some sign.Percent = omega arith
mark_some sign.PlusPlus = omega arith
mark_some sign.MinusMinus = omega arith
mark_some sign.Shl = omega arith
mark_some sign.Shr = omega arith
mark_some sign.UShr = omega arith
mark_some sign.BitAnd = omega arith
mark_some sign.BitOr = omega arith
mark_some sign.BitXor = omega arith
mark_some sign.Not = omega arith
mark_some sign.BitNot = omega arith
mark_some sign.And = omega arith
mark_some sign.Or = omega arith
mark_some sign.Question = omega arith
mark_some sign.Colon = omega arith
mark_some sign.Assign = omega arith
mark_some sign.AddAssign = omega arith
mark_some sign.SubAssign = omega arith
mark_some sign.MulAssign = omega arith
mark_some sign.DivAssign = omega arith
mark_some sign.RemAssign = omega arith
mark_some sign.ShlAssign = omega arith
mark_some sign.ShrAssign = omega arith
mark_some sign.UShrAssign = omega arith
mark_some sign.AndAssign = omega arith
mark_some sign.OrAssign = omega arith
mark_some sign.XorAssign = omega arith

text_same : (x y : List ℕ) → bytes_eq x y ≡ true → x ≡ y
text_same x y e = grind (arith, bytes_eq-Decides x y)

same_text : (x y : List ℕ) → x ≡ y → bytes_eq x y ≡ true
same_text x y e = grind (arith, bytes_eq-Decides x y)

-- none is longer than the number, and each is at most as long as the one before
falls : ℕ → List Mark → Bool
falls n [] = true
falls n (m ∷ ms) = nat_le (length (mark_text m)) n && falls (length (mark_text m)) ms

le_of : (m n : ℕ) → nat_le m n ≡ true → m ≤ n
le_of m n h = grind (arith, nat_tests)

falls_first : (n : ℕ) (m : Mark) (ms : List Mark) → falls n (m ∷ ms) ≡ true → length (mark_text m) ≤ n
unfolding falls
falls_first n m ms h = le_of (length (mark_text m)) n (and_left (nat_le (length (mark_text m)) n) (falls (length (mark_text m)) ms) h)

falls_rest : (n : ℕ) (m : Mark) (ms : List Mark) → falls n (m ∷ ms) ≡ true → falls (length (mark_text m)) ms ≡ true
unfolding falls
falls_rest n m ms h = and_right (nat_le (length (mark_text m)) n) (falls (length (mark_text m)) ms) h

marks_fall : falls 4 marks ≡ true
unfolding falls marks
marks_fall = refl

find_no : (x : List ℕ) (m : Mark) (ms : List Mark) → bytes_eq x (mark_text m) ≡ false → find (λ k. bytes_eq x (mark_text k)) (m ∷ ms) ≡ find (λ k. bytes_eq x (mark_text k)) ms
find_no x m ms h = rw h refl

no_long : (ms : List Mark) (x : List ℕ) (n : ℕ) → falls n ms ≡ true → n < length x → find (λ k. bytes_eq x (mark_text k)) ms ≡ None
no_long [] x n f long = refl
no_long (m ∷ ms) x n f long =
    let first = falls_first n m ms f in
    find_no x m ms (differs (bytes_eq x (mark_text m)) (λ e. let l : length x ≡ length (mark_text m) = ap length (text_same x (mark_text m) e) in omega (arith, l, first, long)))
    ∙ no_long ms x (length (mark_text m)) (falls_rest n m ms f) (omega (arith, first, long))

begun_here : (m : Mark) (ms : List Mark) (i : List ℕ) → begins_text (mark_text m) i ≡ true → first_begun (m ∷ ms) i ≡ Some m
begun_here m ms i h = rw h refl

begun_later : (m : Mark) (ms : List Mark) (i : List ℕ) → begins_text (mark_text m) i ≡ false → first_begun (m ∷ ms) i ≡ first_begun ms i
begun_later m ms i h = rw h refl

taken : (k : ℕ) (s : List ℕ) → k ≤ length s → length (take k s) ≡ k
taken zero s h = refl
taken (suc k) [] h = absurd (omega arith)
taken (suc k) (c ∷ s) h = let r = taken k s (omega (arith, h)) in omega (arith, r)

first_longest : (ms : List Mark) (i : List ℕ) (m : Mark) (bound : ℕ) → falls bound ms ≡ true → first_begun ms i ≡ Some m → (k : ℕ) → length (mark_text m) < k → k ≤ length i
    → find (λ n. bytes_eq (take k i) (mark_text n)) ms ≡ None
first_longest [] i m bound f e k less within = refl
first_longest (n ∷ ms) i m bound f e k less within = elim (cases (begins_text (mark_text n) i)) [
  | inl here ↦
      let is : n ≡ m = some_one (sym (begun_here n ms i here) ∙ e) in
      let size : length (mark_text n) ≡ length (mark_text m) = ap (λ z. length (mark_text z)) is in
      let l = taken k i within in
      find_no (take k i) n ms (differs (bytes_eq (take k i) (mark_text n)) (λ h. let q : length (take k i) ≡ length (mark_text n) = ap length (text_same (take k i) (mark_text n) h) in omega (arith, q, l, size, less)))
      ∙ no_long ms (take k i) (length (mark_text n)) (falls_rest bound n ms f) (omega (arith, l, size, less))
  | inr later ↦
      let rest = first_longest ms i m (length (mark_text n)) (falls_rest bound n ms f) (sym (begun_later n ms i later) ∙ e) k less within in
      find_no (take k i) n ms (differs (bytes_eq (take k i) (mark_text n)) (λ h.
      let same : take k i ≡ mark_text n = text_same (take k i) (mark_text n) h in
      let l : k ≡ length (mark_text n) = sym (taken k i within) ∙ ap length same in
      never (sym (same_text (take (length (mark_text n)) i) (mark_text n) (ap (λ z. take z i) (sym l) ∙ same)) ∙ later))) ∙ rest
]

-- the mark that was found begins the text
begun_fits : (ms : List Mark) (i : List ℕ) (m : Mark) → first_begun ms i ≡ Some m → take (length (mark_text m)) i ≡ mark_text m
begun_fits [] i m e = absurd (none_some e)
begun_fits (n ∷ ms) i m e = elim (cases (begins_text (mark_text n) i)) [
  | inl here ↦
      let is : n ≡ m = some_one (sym (begun_here n ms i here) ∙ e) in
      subst (λ z. take (length (mark_text z)) i ≡ mark_text z) is (text_same (take (length (mark_text n)) i) (mark_text n) here)
  | inr later ↦ begun_fits ms i m (sym (begun_later n ms i later) ∙ e)
]

none_begun : (ms : List Mark) (c : ℕ) (s : List ℕ) → first_begun ms (c ∷ s) ≡ None → find (λ n. bytes_eq (c ∷ []) (mark_text n)) ms ≡ None
none_begun [] c s e = refl
none_begun (n ∷ ms) c s e = elim (cases (begins_text (mark_text n) (c ∷ s))) [
  | inl here ↦ absurd (none_some (sym e ∙ begun_here n ms (c ∷ s) here))
  | inr later ↦
      find_no (c ∷ []) n ms (differs (bytes_eq (c ∷ []) (mark_text n)) (λ h.
      let same : c ∷ [] ≡ mark_text n = text_same (c ∷ []) (mark_text n) h in
      let l : 1 ≡ length (mark_text n) = ap length same in
      never (sym (same_text (take (length (mark_text n)) (c ∷ s)) (mark_text n) (ap (λ z. take z (c ∷ s)) (sym l) ∙ same)) ∙ later)))
      ∙ none_begun ms c s (sym (begun_later n ms (c ∷ s) later) ∙ e)
]

take_within : (w i : List ℕ) → take (length w) i ≡ w → length w ≤ length i
take_within w i e = let l : length (take (length w) i) ≡ length w = ap length e in omega (arith, l, length-take (length w) i)

-- what is none of the other kinds of tokens
pub record IsOther (c : ℕ) (s : List ℕ) : Type 0 where
  pub letter : is_letter c ≡ false
  pub digit : is_decimal c ≡ false
  pub quote : is_quote c ≡ false
  pub point : (c == 46) ≡ true → begins is_decimal s ≡ false
  pub slash : (c == 47) ≡ true → opens_comment s ≡ false

at_other : (n c : ℕ) (s : List ℕ) → IsOther c s → lexeme_at n (c ∷ s) ≡ mark_lexeme (take n (c ∷ s))
at_other n c s o = rw (o.letter, o.digit, o.quote) refl

if_true : (b : Bool) (x y : Option LexFault) → b ≡ true → (if b then x else y) ≡ x
if_true b x y h = rw h refl

if_false : (b : Bool) (x y : Option LexFault) → b ≡ false → (if b then x else y) ≡ y
if_false b x y h = rw h refl

slash_mark : (c : ℕ) → (c == 47) ≡ true → byte_fault (mark_of (c ∷ [])) ≡ None
slash_mark c h = ap (λ z. byte_fault (mark_of (z ∷ []))) (same_number c 47 h) ∙ first_known sign.Slash

point_mark : (c : ℕ) → (c == 46) ≡ true → byte_fault (mark_of (c ∷ [])) ≡ None
point_mark c h = ap (λ z. byte_fault (mark_of (z ∷ []))) (same_number c 46 h) ∙ first_known sign.Dot

other_fault : (c : ℕ) (s : List ℕ) → IsOther c s → fault_at (c ∷ s) ≡ byte_fault (mark_of (c ∷ []))
other_fault c s o =
    if_false (is_letter c) _ _ o.letter ∙ if_false (is_decimal c) _ _ o.digit ∙ if_false (is_quote c) _ _ o.quote
    ∙ elim (cases (c == 46)) [
      | inl h ↦ if_true (c == 46) _ _ h ∙ ap (λ b. fault_if b fault.BadNumber) (o.point h) ∙ sym (point_mark c h)
      | inr h ↦ if_false (c == 46) _ _ h ∙ elim (cases (c == 47)) [
        | inl g ↦ if_true (c == 47) _ _ g ∙ ap (λ b. fault_if b fault.OpenComment) (o.slash g) ∙ sym (slash_mark c g)
        | inr g ↦ if_false (c == 47) _ _ g
      ]
    ]

take_one : (w : List ℕ) (c : ℕ) (s : List ℕ) → take (length w) (c ∷ s) ≡ w → 0 < length w → c ∷ [] ≡ take 1 w
take_one [] c s e some = absurd (omega arith)
take_one (d ∷ w) c s e some = ap (take 1) e

pub mark_begins : (c : ℕ) (s : List ℕ) (m : Mark) → IsOther c s → blank_length (c ∷ s) ≡ 0 → first_begun marks (c ∷ s) ≡ Some m → Begins (c ∷ s) (Lexeme.mark m) (length (mark_text m))
unfolding mark_of
mark_begins c s m o stop e =
    let fits = begun_fits marks (c ∷ s) m e in
    record {
      within = take_within (mark_text m) (c ∷ s) fits;
      fits = at_other (length (mark_text m)) c s o ∙ ap mark_lexeme fits ∙ ap (option_map Lexeme.mark) (mark_known m);
      longest = λ k less within. at_other k c s o ∙ ap (option_map Lexeme.mark) (first_longest marks (c ∷ s) m 4 marks_fall e k less within);
      no_blank = stop;
      no_fault = other_fault c s o ∙ ap (λ w. byte_fault (mark_of w)) (take_one (mark_text m) c s fits (mark_some m)) ∙ first_known m;
    }

pub mark_faults : (c : ℕ) (s : List ℕ) → IsOther c s → first_begun marks (c ∷ s) ≡ None → fault_at (c ∷ s) ≡ Some fault.BadByte
unfolding mark_of
mark_faults c s o e = other_fault c s o ∙ ap byte_fault (none_begun marks c s e)

-- ---- the other faults

pub point_faults : (c : ℕ) (s : List ℕ) → is_letter c ≡ false → is_decimal c ≡ false → is_quote c ≡ false → (c == 46) ≡ true → begins is_decimal s ≡ true → fault_at (c ∷ s) ≡ Some fault.BadNumber
point_faults c s a b q h d =
    if_false (is_letter c) _ _ a ∙ if_false (is_decimal c) _ _ b ∙ if_false (is_quote c) _ _ q ∙ if_true (c == 46) _ _ h ∙ ap (λ z. fault_if z fault.BadNumber) d

pub slash_faults : (c : ℕ) (s : List ℕ) → is_letter c ≡ false → is_decimal c ≡ false → is_quote c ≡ false → (c == 46) ≡ false → (c == 47) ≡ true → opens_comment s ≡ true → fault_at (c ∷ s) ≡ Some fault.OpenComment
slash_faults c s a b q p h d =
    if_false (is_letter c) _ _ a ∙ if_false (is_decimal c) _ _ b ∙ if_false (is_quote c) _ _ q ∙ if_false (c == 46) _ _ p ∙ if_true (c == 47) _ _ h ∙ ap (λ z. fault_if z fault.OpenComment) d

-- ---- one character after the other

at_place : (w : List ℕ) (k d : ℕ) → k < length w → d ≡ get_or w k d → drop k w ≡ d ∷ drop (k + 1) w
at_place [] k d less e = absurd (omega arith)
at_place (c ∷ w) zero d less e = ap (λ z. z ∷ w) (sym e)
at_place (c ∷ w) (suc k) d less e = let n : suc k + 1 ≡ suc (k + 1) = omega arith in at_place w k d (omega (arith, less)) e ∙ ap (λ z. d ∷ drop z (c ∷ w)) (sym n)

cons_same : (d e : ℕ) (x y : List ℕ) → d ≡ e → x ≡ y → ◌≡◌ {A = List ℕ} (d ∷ x) (e ∷ y)
cons_same d e x y h k = rw (h, k) refl

same_first : (d e : ℕ) (w s : List ℕ) → d ≡ e → bytes_eq (d ∷ take (length w) s) (e ∷ w) ≡ bytes_eq (take (length w) s) w
same_first d e w s h = elim (cases (bytes_eq (take (length w) s) w)) [
  | inl y ↦ same_text (d ∷ take (length w) s) (e ∷ w) (cons_same d e (take (length w) s) w h (text_same (take (length w) s) w y)) ∙ sym y
  | inr n ↦ differs (bytes_eq (d ∷ take (length w) s) (e ∷ w)) (λ y. never (sym (same_text (take (length w) s) w (ap (drop 1) (text_same (d ∷ take (length w) s) (e ∷ w) y))) ∙ n)) ∙ sym n
]

take_more : (w : List ℕ) (c : ℕ) (s : List ℕ) (d : ℕ) → take (length (d ∷ w)) (c ∷ s) ≡ c ∷ take (length w) s
take_more w c s d = refl

pub text_more : (w x y : List ℕ) (k d : ℕ) → k < length w → d ≡ get_or w k d → begins (λ c. c == d) x ≡ true → y ≡ drop 1 x → begins_text (drop k w) x ≡ begins_text (drop (k + 1) w) y
text_more w [] y k d less e h t = absurd (never (sym h))
text_more w (c ∷ s) y k d less e h t =
    ap (λ z. begins_text z (c ∷ s)) (at_place w k d less e) ∙ same_first c d (drop (k + 1) w) s (same_number c d h) ∙ ap (begins_text (drop (k + 1) w)) (sym t)
