-- Runs of characters at the front of a text.
use Rattle.std.proofs.Common.{◌≡◌, ℕ, zero, suc, ◌+◌, ◌<◌, ◌≤◌, Bool, true, false, not, ◌&&◌, List, [], ◌∷◌, length, take, drop, Option, Some, None, refl, ap, sym, ◌∙◌, arith, ◌==◌, if◌then◌else◌, ◌⊎◌, inl, inr}
use Rattle.std.proofs.lemmas.Bool.Decides.{nat_tests}
use Rattle.std.specs.List.{list_all}
use Rattle.njs_tree.specs.Characters.{is_line_end, line_ends, begins}
use Rattle.njs_tree.specs.Lexical.{front_length}

pub never : true ≡ false → ⊥
never e = cc

pub cases : (b : Bool) → (b ≡ true) ⊎ (b ≡ false)
cases true = inl refl
cases false = inr refl

pub differs : (b : Bool) → (b ≡ true → ⊥) → b ≡ false
differs true h = absurd (h refl)
differs false h = refl

pub some_one : {A : Type 0} {x y : A} → ◌≡◌ {A = Option A} (Some x) (Some y) → x ≡ y
some_one e = cc

pub none_some : {A : Type 0} {x : A} → ◌≡◌ {A = Option A} None (Some x) → ⊥
none_some e = cc

-- one more character passes
pub run_on : (t : ℕ → Bool) (x y : List ℕ) → begins t x ≡ true → y ≡ drop 1 x → drop (front_length t y) y ≡ drop (front_length t x) x
run_on t [] y h e = absurd (never (sym h))
run_on t (c ∷ s) y h e =
    let n : front_length t s + 1 ≡ suc (front_length t s) = omega arith in
    let tail : y ≡ s = e in
    ap (λ z. drop (front_length t z) z) tail ∙ sym (rw (h, n) refl)

pub run_short : (t : ℕ → Bool) (x y : List ℕ) → begins t x ≡ true → y ≡ drop 1 x → length y < length x
run_short t [] y h e = absurd (never (sym h))
run_short t (c ∷ s) y h e = let l : length y ≡ length s = ap length e in omega (arith, l)

pub run_stop : (t : ℕ → Bool) (x : List ℕ) → begins t x ≡ false → drop (front_length t x) x ≡ x
run_stop t [] h = refl
run_stop t (c ∷ s) h = rw h refl

pub run_within : (t : ℕ → Bool) (x : List ℕ) → front_length t x ≤ length x
run_within t [] = omega arith
run_within t (c ∷ s) = elim (cases (t c)) [
  | inl h ↦ rw h (omega (arith, run_within t s))
  | inr h ↦ rw h (omega arith)
]

pub run_passes : (t : ℕ → Bool) (x : List ℕ) → list_all t (take (front_length t x) x) ≡ true
run_passes t [] = refl
run_passes t (c ∷ s) = elim (cases (t c)) [
  | inl h ↦ let n : front_length t s + 1 ≡ suc (front_length t s) = omega arith in rw (h, n, h, run_passes t s) refl
  | inr h ↦ rw h refl
]

pub no_more : (b : Bool) → (b && false) ≡ false
no_more true = refl
no_more false = refl

-- a longer slice holds the character that ends the run
pub run_longest : (t : ℕ → Bool) (x : List ℕ) (m : ℕ) → front_length t x < m → m ≤ length x → list_all t (take m x) ≡ false
run_longest t [] m less within = absurd (omega arith)
run_longest t (c ∷ s) zero less within = absurd (omega arith)
run_longest t (c ∷ s) (suc m) less within = elim (cases (t c)) [
  | inl h ↦
      let step : (if t c then front_length t s + 1 else 0) ≡ front_length t s + 1 = rw h refl in
      rw (h, run_longest t s m (omega (arith, step, less)) (omega arith)) refl
  | inr h ↦ rw h refl
]

no_line : (c : ℕ) (s : List ℕ) → is_line_end c ≡ false → line_ends s ≡ line_ends (c ∷ s)
no_line c s h = rw h (omega arith)

pub run_yes : (t : ℕ → Bool) (c : ℕ) (s : List ℕ) → t c ≡ true → front_length t (c ∷ s) ≡ suc (front_length t s)
run_yes t c s h = rw h (omega arith)

pub run_no : (t : ℕ → Bool) (c : ℕ) (s : List ℕ) → t c ≡ false → front_length t (c ∷ s) ≡ 0
run_no t c s h = rw h refl

-- no line ends in a run without line ends
pub run_lines : (x : List ℕ) → line_ends (drop (front_length (λ c. not (is_line_end c)) x) x) ≡ line_ends x
run_lines [] = refl
run_lines (c ∷ s) = elim (cases (is_line_end c)) [
  | inl h ↦ let n = run_no (λ d. not (is_line_end d)) c s (ap not h) in ap (λ k. line_ends (drop k (c ∷ s))) n
  | inr h ↦ let n = run_yes (λ d. not (is_line_end d)) c s (ap not h) in ap (λ k. line_ends (drop k (c ∷ s))) n ∙ run_lines s ∙ no_line c s h
]

pub and_left : (a b : Bool) → (a && b) ≡ true → a ≡ true
and_left true b h = refl
and_left false b h = absurd (never (sym h))

pub and_right : (a b : Bool) → (a && b) ≡ true → b ≡ true
and_right true b h = h
and_right false b h = absurd (never (sym h))

pub same_number : (c n : ℕ) → (c == n) ≡ true → c ≡ n
same_number c n h = grind (arith)

pub number_same : (c n : ℕ) → c ≡ n → (c == n) ≡ true
number_same c n h = grind (arith, nat_tests)

pub number_other : (c n : ℕ) → (c ≡ n → ⊥) → (c == n) ≡ false
number_other c n h = differs (c == n) (λ e. h (same_number c n e))
