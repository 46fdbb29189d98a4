-- The longest word, number and string.
use Rattle.std.proofs.Common.{◌≡◌, ℕ, zero, suc, ◌+◌, ◌*◌, ◌^◌, min, ◌<◌, ◌≤◌, Bool, true, false, List, [], ◌∷◌, length, take, drop, Some, None, refl, ap, sym, ◌∙◌, arith, if◌then◌else◌, inl, inr}
use Rattle.std.specs.Char.{is_digit, digit_value}
use Rattle.std.specs.Str.Parse.{digits_value, digits_value_after}
use Rattle.std.proofs.Math.Nat.{le-mul_of_pos_right}
use Rattle.std.proofs.lemmas.Bool.{cases_order}
use Rattle.njs_tree.specs.Characters.{is_letter, is_part, begins}
use Rattle.njs_tree.specs.Names.{is_word}
use Rattle.njs_tree.specs.Lexemes.{Lexeme, word}
use Rattle.njs_tree.specs.Lexical.{front_length, blank_length, lexeme_at, word_lexeme}
use Rattle.njs_tree.specs.TokenList.{Begins}
use Rattle.njs_lexer.specs.Steps.{digit_at, digits_length, ReadsDigits}
use Rattle.njs_lexer.proofs.Runs.{never, cases, some_one, none_some, no_more, run_on, run_yes, run_no, run_within, run_passes, run_longest}

-- ---- words

letter_part : (c : ℕ) → is_letter c ≡ true → is_part c ≡ true
letter_part c h = rw h refl

none_if : (b : Bool) (x : Lexeme) → b ≡ false → (if b then Some x else None) ≡ None
none_if b x h = rw h refl

some_if : (b : Bool) (x : Lexeme) → b ≡ true → (if b then Some x else None) ≡ Some x
some_if b x h = rw h refl

at_letter : (n c : ℕ) (s : List ℕ) → is_letter c ≡ true → lexeme_at n (c ∷ s) ≡ word_lexeme (take n (c ∷ s))
at_letter n c s h = rw h refl

word_true : (c : ℕ) (s : List ℕ) (n : ℕ) → is_letter c ≡ true → n ≡ front_length is_part (c ∷ s) → is_word (take n (c ∷ s)) ≡ true
word_true c s n h e =
    let k : n ≡ suc (front_length is_part s) = e ∙ run_yes is_part c s (letter_part c h) in
    rw (k, h, run_passes is_part s) refl

word_false : (s : List ℕ) (m : ℕ) → front_length is_part s < m → m ≤ length s → is_word (take m s) ≡ false
word_false s m less within = rw (run_longest is_part s m less within) (no_more (begins is_letter (take m s)))

pub word_begins : (i : List ℕ) → begins is_letter i ≡ true → blank_length i ≡ 0 → Begins i (word (take (front_length is_part i) i)) (front_length is_part i)
word_begins [] h stop = absurd (never (sym h))
word_begins (c ∷ s) h stop = record {
  within = run_within is_part (c ∷ s);
  fits = at_letter (front_length is_part (c ∷ s)) c s h ∙ some_if _ _ (word_true c s (front_length is_part (c ∷ s)) h refl);
  longest = λ m less within. at_letter m c s h ∙ none_if _ _ (word_false (c ∷ s) m less within);
  no_blank = stop;
  no_fault = (rw h refl);
}

-- ---- digits

after_grows : (radix n : ℕ) (ds : List ℕ) → 1 ≤ radix → n ≤ digits_value_after radix n ds
after_grows radix n [] h = omega arith
after_grows radix n (c ∷ cs) h =
    let pos : zero < radix = omega (arith, h) in omega (arith, le-mul_of_pos_right n pos, after_grows radix (n * radix + digit_value c) cs h)

cap_after : (radix n cap : ℕ) (ds : List ℕ) → 1 ≤ radix → min (digits_value_after radix (min n cap) ds) cap ≡ min (digits_value_after radix n ds) cap
cap_after radix n cap ds h = elim (cases_order n cap) [
  | inl e ↦ let m : min n cap ≡ n = omega (arith, e) in ap (λ z. min (digits_value_after radix z ds) cap) m
  | inr (inl less) ↦ let m : min n cap ≡ n = omega (arith, less) in ap (λ z. min (digits_value_after radix z ds) cap) m
  | inr (inr more) ↦
      let m : min n cap ≡ cap = omega (arith, more) in
      let low = after_grows radix cap ds h in
      let high = after_grows radix n ds h in
      let both : min (digits_value_after radix cap ds) cap ≡ min (digits_value_after radix n ds) cap = omega (arith, low, high, more) in
      ap (λ z. min (digits_value_after radix z ds) cap) m ∙ both
]

abbrev pub cap : ℕ
cap = 2 ^ 53

pub record InDigits (radix : ℕ) (t x : List ℕ) (value : ℕ) : Type 0 where
  pub rest : drop (digits_length radix x) x ≡ drop (digits_length radix t) t
  pub value_is : min (digits_value_after radix value (take (digits_length radix x) x)) cap ≡ min (digits_value radix (take (digits_length radix t) t)) cap
  pub capped : value ≤ cap

pub digits_none : (radix : ℕ) (t : List ℕ) → InDigits radix t t 0
digits_none radix t = record { rest = refl; value_is = refl; capped = omega arith }

digit_test : (radix : ℕ) (c : ℕ) (s : List ℕ) (d : ℕ) → digit_at radix (c ∷ s) ≡ Some d → (is_digit c radix ≡ true) × (digit_value c ≡ d)
digit_test radix c s d e = elim (cases (is_digit c radix)) [
  | inl h ↦ (h, some_one (sym (rw h refl) ∙ e))
  | inr h ↦ absurd (none_some (sym (rw h refl) ∙ e))
]

digit_yes : (radix c : ℕ) (s : List ℕ) → is_digit c radix ≡ true → digit_at radix (c ∷ s) ≡ Some (digit_value c)
digit_yes radix c s h = rw h refl

no_digit : (radix : ℕ) (x : List ℕ) → digit_at radix x ≡ None → digits_length radix x ≡ 0
no_digit radix [] e = refl
no_digit radix (c ∷ s) e = elim (cases (is_digit c radix)) [
  | inl h ↦ absurd (none_some (sym e ∙ digit_yes radix c s h))
  | inr h ↦ run_no (λ z. is_digit z radix) c s h
]

pub digit_short : (radix : ℕ) (x y : List ℕ) (d : ℕ) → digit_at radix x ≡ Some d → y ≡ drop 1 x → length y < length x
digit_short radix [] y d e h = absurd (none_some e)
digit_short radix (c ∷ s) y d e h = let l : length y ≡ length s = ap length h in omega (arith, l)

pub digits_more : (radix : ℕ) (t x y : List ℕ) (value d v : ℕ) → 1 ≤ radix → InDigits radix t x value → digit_at radix x ≡ Some d → y ≡ drop 1 x → v ≡ min (value * radix + d) cap → InDigits radix t y v
digits_more radix t [] y value d v pos r e h k = absurd (none_some e)
digits_more radix t (c ∷ s) y value d v pos r e h k =
    let test = digit_test radix c s d e in
    let tail : y ≡ s = h in
    let n : digits_length radix (c ∷ s) ≡ suc (digits_length radix s) = run_yes (λ z. is_digit z radix) c s test.0 in
    let same : min (digits_value_after radix v (take (digits_length radix s) s)) cap ≡ min (digits_value_after radix value (take (digits_length radix (c ∷ s)) (c ∷ s))) cap =
    ap (λ z. min (digits_value_after radix z (take (digits_length radix s) s)) cap) (k ∙ ap (λ z. min (value * radix + z) cap) (sym test.1))
    ∙ cap_after radix (value * radix + digit_value c) cap (take (digits_length radix s) s) pos
    ∙ ap (λ z. min (digits_value_after radix value (take z (c ∷ s))) cap) (sym n)
    in
    record {
      rest = run_on (λ z. is_digit z radix) (c ∷ s) y test.0 h ∙ r.rest;
      value_is = ap (λ z. min (digits_value_after radix v (take (digits_length radix z) z)) cap) tail ∙ same ∙ r.value_is;
      capped = omega (arith, k);
    }

pub digits_all : (radix : ℕ) (t x : List ℕ) (value : ℕ) → InDigits radix t x value → digit_at radix x ≡ None → ReadsDigits radix t x value
digits_all radix t x value r e =
    let n = no_digit radix x e in
    let small : min value cap ≡ value = omega (arith, r.capped) in
    record {
      rest = sym (ap (λ z. drop z x) n) ∙ r.rest;
      value_is = sym small ∙ sym (ap (λ z. min (digits_value_after radix value (take z x)) cap) n) ∙ r.value_is;
    }
