-- The longest number.
use Rattle.std.proofs.Common.{◌≡◌, ℕ, zero, suc, ◌+◌, ◌-◌, min, ◌<◌, ◌≤◌, Bool, true, false, ◌&&◌, ◌||◌, nat_lt, nat_le, List, [], ◌∷◌, length, take, drop, Option, Some, None, refl, ap, subst, sym, ◌∙◌, arith, ◌==◌, if◌then◌else◌, inl, inr}
use Rattle.std.proofs.lemmas.Bool.Decides.{nat_tests}
use Rattle.std.specs.List.{list_all}
use Rattle.std.specs.Str.Parse.{digits_value}
use Rattle.njs_tree.specs.declared.token.LexFault.{LexFault}
use Rattle.njs_tree.specs.declared.token.LexFault.TheVariants as fault
use Rattle.njs_tree.specs.Characters.{is_letter, begins}
use Rattle.njs_tree.specs.Lexemes.{Lexeme}
use Rattle.njs_tree.specs.Lexical.{is_decimal, is_hex, front_length, blank_length, is_number, is_hex_start, zero_length, number_length, number_value, is_bad_number, lexeme_at, fault_at, fault_if, number_lexeme, max_number}
use Rattle.njs_tree.specs.TokenList.{Begins}
use Rattle.njs_lexer.specs.Steps.{ReadsDigits}
use Rattle.njs_lexer.proofs.Runs.{never, cases, no_more, run_yes, run_within, run_passes, run_longest, and_left, and_right}
use Rattle.njs_lexer.proofs.Words.{cap}

-- ---- reading

pub longest_decimal : (i r : List ℕ) (v : ℕ) → begins is_decimal i ≡ true → begins (λ c. c == 48) i ≡ false → ReadsDigits 10 i r v
    → (r ≡ drop (number_length i) i) × (v ≡ min (number_value (take (number_length i) i)) cap)
longest_decimal [] r v h z d = absurd (never (sym h))
longest_decimal (c ∷ s) r v h z d =
    let n : number_length (c ∷ s) ≡ front_length is_decimal (c ∷ s) = rw z refl in
    let m : front_length is_decimal (c ∷ s) ≡ suc (front_length is_decimal s) = run_yes is_decimal c s h in
    let w : number_value (take (number_length (c ∷ s)) (c ∷ s)) ≡ digits_value 10 (take (front_length is_decimal (c ∷ s)) (c ∷ s)) = rw (n, m, z) refl in
    (d.rest ∙ ap (λ k. drop k (c ∷ s)) (sym n), d.value_is ∙ ap (λ k. min k cap) (sym w))

zero_hex : (s : List ℕ) → is_hex_start s ≡ true → zero_length s ≡ suc (suc (front_length is_hex (drop 1 s)))
zero_hex s h = rw h (omega arith)

zero_plain : (s : List ℕ) → is_hex_start s ≡ false → zero_length s ≡ 1
zero_plain s h = rw h refl

number_zero : (c : ℕ) (s : List ℕ) → (c == 48) ≡ true → number_length (c ∷ s) ≡ zero_length s
number_zero c s h = rw h refl

value_zero : (c : ℕ) (s : List ℕ) → (c == 48) ≡ true → number_value (c ∷ s) ≡ digits_value 16 (drop 1 s)
value_zero c s h = rw h refl

pub longest_hex : (i after r : List ℕ) (v : ℕ) → begins (λ c. c == 48) i ≡ true → after ≡ drop 1 i → is_hex_start after ≡ true → ReadsDigits 16 (drop 1 after) r v
    → (r ≡ drop (number_length i) i) × (v ≡ min (number_value (take (number_length i) i)) cap)
longest_hex [] after r v z e h d = absurd (never (sym z))
longest_hex (c ∷ []) after r v z e h d = absurd (never (sym h ∙ ap is_hex_start e))
longest_hex (c ∷ x ∷ u) after r v z e h d =
    let hs : is_hex_start (x ∷ u) ≡ true = ap is_hex_start (sym e) ∙ h in
    let n : number_length (c ∷ x ∷ u) ≡ suc (suc (front_length is_hex u)) = number_zero c (x ∷ u) z ∙ zero_hex (x ∷ u) hs in
    let tail : drop 1 after ≡ u = ap (drop 1) e in
    let d1 : ReadsDigits 16 u r v = subst (λ w. ReadsDigits 16 w r v) tail d in
    let w : number_value (take (number_length (c ∷ x ∷ u)) (c ∷ x ∷ u)) ≡ digits_value 16 (take (front_length is_hex u) u) =
    ap (λ k. number_value (take k (c ∷ x ∷ u))) n ∙ value_zero c (x ∷ take (front_length is_hex u) u) z in
    (d1.rest ∙ ap (λ k. drop k (c ∷ x ∷ u)) (sym n), d1.value_is ∙ ap (λ k. min k cap) (sym w))

pub longest_zero : (i after : List ℕ) → begins (λ c. c == 48) i ≡ true → after ≡ drop 1 i → is_hex_start after ≡ false
    → (after ≡ drop (number_length i) i) × (0 ≡ min (number_value (take (number_length i) i)) cap)
longest_zero [] after z e h = absurd (never (sym z))
longest_zero (c ∷ s) after z e h =
    let n : number_length (c ∷ s) ≡ 1 = number_zero c s z ∙ zero_plain s (ap is_hex_start (sym e) ∙ h) in
    (e ∙ ap (λ k. drop k (c ∷ s)) (sym n), sym (ap (λ k. min (number_value (take k (c ∷ s))) cap) n ∙ ap (λ k. min k cap) (value_zero c [] z)))

pub too_large : (value v : ℕ) → v ≡ min value cap → nat_le cap v ≡ nat_lt max_number value
too_large value v e = grind (arith, nat_tests)

-- ---- the token

digit_letter : (c : ℕ) → is_decimal c ≡ true → is_letter c ≡ false
digit_letter c h = grind (arith, nat_tests)

all_number : (c : ℕ) (w : List ℕ) → is_decimal c ≡ true → (c == 48) ≡ false → list_all is_decimal (c ∷ w) ≡ true → is_number (c ∷ w) ≡ true
all_number c [] h z a = h
all_number c (d ∷ u) h z a = rw z a

not_number : (c : ℕ) (w : List ℕ) → (c == 48) ≡ false → list_all is_decimal (c ∷ w) ≡ false → 0 < length w → is_number (c ∷ w) ≡ false
not_number c [] z a some = absurd (omega arith)
not_number c (d ∷ u) z a some = rw z a

hex_number : (c d : ℕ) (u : List ℕ) → (c == 48) ≡ true → is_number (c ∷ d ∷ u) ≡ (is_hex_start (d ∷ u) && list_all is_hex u)
hex_number c d u z = rw z refl

number_within_zero : (s : List ℕ) → zero_length s ≤ length s + 1
number_within_zero [] = omega arith
number_within_zero (x ∷ u) = elim (cases (is_hex_start (x ∷ u))) [
  | inl h ↦ let n = zero_hex (x ∷ u) h in let w = run_within is_hex u in omega (arith, n, w)
  | inr h ↦ let n = zero_plain (x ∷ u) h in omega (arith, n)
]

number_within : (c : ℕ) (s : List ℕ) → number_length (c ∷ s) ≤ length (c ∷ s)
number_within c s = elim (cases (c == 48)) [
  | inl z ↦ let n = number_zero c s z in omega (arith, n, number_within_zero s)
  | inr z ↦ rw z (run_within is_decimal (c ∷ s))
]

begins_take : (t : ℕ → Bool) (m : ℕ) (u : List ℕ) → begins t u ≡ false → begins t (take m u) ≡ false
begins_take t zero u h = refl
begins_take t (suc m) [] h = refl
begins_take t (suc m) (c ∷ s) h = h

begins_some : (t : ℕ → Bool) (m : ℕ) (u : List ℕ) → begins t u ≡ true → begins t (take (suc m) u) ≡ true
begins_some t m [] h = h
begins_some t m (c ∷ s) h = h

hex_start_take : (x m : ℕ) (u : List ℕ) → is_hex_start (x ∷ u) ≡ false → is_hex_start (x ∷ take m u) ≡ false
hex_start_take x m u h = elim (cases (x == 120 || x == 88)) [
  | inl e ↦ rw e (begins_take is_hex m u (sym (rw e refl) ∙ h))
  | inr e ↦ rw e refl
]

hex_some : (u : List ℕ) → begins is_hex u ≡ true → front_length is_hex u ≡ suc (front_length is_hex u - 1)
hex_some [] h = absurd (never (sym h))
hex_some (c ∷ s) h = let n : front_length is_hex (c ∷ s) ≡ suc (front_length is_hex s) = run_yes is_hex c s h in omega (arith, n)

is_zero_number : (c : ℕ) (s : List ℕ) → is_decimal c ≡ true → (c == 48) ≡ true → is_number (take (zero_length s) (c ∷ s)) ≡ true
is_zero_number c [] h z = h
is_zero_number c (x ∷ u) h z = elim (cases (is_hex_start (x ∷ u))) [
  | inl e ↦
      let n = zero_hex (x ∷ u) e in
      let pre = and_left (x == 120 || x == 88) (begins is_hex u) e in
      let one : begins is_hex u ≡ true = and_right (x == 120 || x == 88) (begins is_hex u) e in
      let f : front_length is_hex u ≡ suc (front_length is_hex u - 1) = hex_some u one in
      let start : is_hex_start (x ∷ take (front_length is_hex u) u) ≡ true =
      ap (λ k. is_hex_start (x ∷ take k u)) f ∙ rw (pre, begins_some is_hex (front_length is_hex u - 1) u one) refl in
      ap (λ k. is_number (take k (c ∷ x ∷ u))) n ∙ hex_number c x (take (front_length is_hex u) u) z ∙ rw (start, run_passes is_hex u) refl
  | inr e ↦ ap (λ k. is_number (take k (c ∷ x ∷ u))) (zero_plain (x ∷ u) e) ∙ h
]

no_zero_number : (c : ℕ) (s : List ℕ) (m : ℕ) → (c == 48) ≡ true → zero_length s < m → m ≤ length s + 1 → is_number (take m (c ∷ s)) ≡ false
no_zero_number c s zero z less within = absurd (omega arith)
no_zero_number c [] (suc m) z less within = absurd (omega arith)
no_zero_number c (x ∷ u) (suc zero) z less within = elim (cases (is_hex_start (x ∷ u))) [
  | inl e ↦ absurd (let n = zero_hex (x ∷ u) e in omega (arith, n, less))
  | inr e ↦ absurd (let n = zero_plain (x ∷ u) e in omega (arith, n, less))
]
no_zero_number c (x ∷ u) (suc (suc m)) z less within = elim (cases (is_hex_start (x ∷ u))) [
  | inl e ↦
      let n = zero_hex (x ∷ u) e in
      hex_number c x (take m u) z ∙ rw (run_longest is_hex u m (omega (arith, n, less)) (omega (arith, within))) (no_more (is_hex_start (x ∷ take m u)))
  | inr e ↦ hex_number c x (take m u) z ∙ rw (hex_start_take x m u e) refl
]

is_decimal_number : (c : ℕ) (s : List ℕ) → is_decimal c ≡ true → (c == 48) ≡ false → is_number (take (front_length is_decimal (c ∷ s)) (c ∷ s)) ≡ true
is_decimal_number c s h z =
    let n : front_length is_decimal (c ∷ s) ≡ suc (front_length is_decimal s) = run_yes is_decimal c s h in
    ap (λ k. is_number (take k (c ∷ s))) n
    ∙ all_number c (take (front_length is_decimal s) s) h z (ap (λ k. list_all is_decimal (take k (c ∷ s))) (sym n) ∙ run_passes is_decimal (c ∷ s))

length_take : (m : ℕ) (s : List ℕ) → m ≤ length s → length (take m s) ≡ m
length_take zero s h = refl
length_take (suc m) [] h = absurd (omega arith)
length_take (suc m) (c ∷ s) h = let r = length_take m s (omega (arith, h)) in omega (arith, r)

no_decimal_number : (c : ℕ) (s : List ℕ) (m : ℕ) → is_decimal c ≡ true → (c == 48) ≡ false → front_length is_decimal (c ∷ s) < m → m ≤ length s + 1 → is_number (take m (c ∷ s)) ≡ false
no_decimal_number c s zero h z less within = absurd (omega arith)
no_decimal_number c s (suc m) h z less within =
    let n : front_length is_decimal (c ∷ s) ≡ suc (front_length is_decimal s) = run_yes is_decimal c s h in
    let l = length_take m s (omega (arith, within)) in
    not_number c (take m s) z (run_longest is_decimal (c ∷ s) (suc m) less (omega (arith, within))) (omega (arith, l, n, less))

number_true : (c : ℕ) (s : List ℕ) → is_decimal c ≡ true → is_number (take (number_length (c ∷ s)) (c ∷ s)) ≡ true
number_true c s h = elim (cases (c == 48)) [
  | inl z ↦ ap (λ k. is_number (take k (c ∷ s))) (number_zero c s z) ∙ is_zero_number c s h z
  | inr z ↦ rw z (is_decimal_number c s h z)
]

number_false : (c : ℕ) (s : List ℕ) (m : ℕ) → is_decimal c ≡ true → number_length (c ∷ s) < m → m ≤ length s + 1 → is_number (take m (c ∷ s)) ≡ false
number_false c s m h less within = elim (cases (c == 48)) [
  | inl z ↦ let n = number_zero c s z in no_zero_number c s m z (omega (arith, n, less)) within
  | inr z ↦ let n : number_length (c ∷ s) ≡ front_length is_decimal (c ∷ s) = rw z refl in no_decimal_number c s m h z (omega (arith, n, less)) within
]

at_digit : (n c : ℕ) (s : List ℕ) → is_decimal c ≡ true → lexeme_at n (c ∷ s) ≡ number_lexeme (take n (c ∷ s))
at_digit n c s h = rw (digit_letter c h, h) refl

yes_number : (w : List ℕ) → is_number w ≡ true → number_lexeme w ≡ Some (Lexeme.number (number_value w))
yes_number w h = rw h refl

nor_number : (w : List ℕ) → is_number w ≡ false → number_lexeme w ≡ None
nor_number w h = rw h refl

if_true : (b : Bool) (x y : Option LexFault) → b ≡ true → (if b then x else y) ≡ x
if_true b x y h = rw h refl

if_false : (b : Bool) (x y : Option LexFault) → b ≡ false → (if b then x else y) ≡ y
if_false b x y h = rw h refl

digit_fault : (c : ℕ) (s : List ℕ) → is_decimal c ≡ true → fault_at (c ∷ s) ≡ fault_if (is_bad_number (c ∷ s) (number_length (c ∷ s))) fault.BadNumber
digit_fault c s h = if_false (is_letter c) _ _ (digit_letter c h) ∙ if_true (is_decimal c) _ _ h

pub number_begins : (i : List ℕ) → begins is_decimal i ≡ true → blank_length i ≡ 0 → is_bad_number i (number_length i) ≡ false
    → Begins i (Lexeme.number (number_value (take (number_length i) i))) (number_length i)
number_begins [] h stop bad = absurd (never (sym h))
number_begins (c ∷ s) h stop bad = record {
  within = number_within c s;
  fits = at_digit (number_length (c ∷ s)) c s h ∙ yes_number (take (number_length (c ∷ s)) (c ∷ s)) (number_true c s h);
  longest = λ m less within. at_digit m c s h ∙ nor_number (take m (c ∷ s)) (number_false c s m h less (omega (arith, within)));
  no_blank = stop;
  no_fault = digit_fault c s h ∙ ap (λ b. fault_if b fault.BadNumber) bad;
}

pub number_faults : (i : List ℕ) → begins is_decimal i ≡ true → is_bad_number i (number_length i) ≡ true → fault_at i ≡ Some fault.BadNumber
number_faults [] h bad = absurd (never (sym h))
number_faults (c ∷ s) h bad = digit_fault c s h ∙ ap (λ b. fault_if b fault.BadNumber) bad
