-- The values of the fields of one name, the words of a list, and the number that digits write.
use Rattle.std.proofs.Common.{◌≡◌, ◌<◌, ◌≤◌, ◌+◌, ◌-◌, ◌*◌, ◌++◌, ℕ, zero, suc, List, [], ◌∷◌, length, take, drop, reverse, get_or, refl, sym, ap, ◌∙◌, subst, arith, true, false, cond, nat_lt}
use Rattle.std.proofs.lemmas.Bool.{lt-leb, and_parts}
use Rattle.std.proofs.lemmas.Bool.Decides.{nat_tests}
use Rattle.std.proofs.lemmas.List.{reverse-append, reverse-reverse, take_more, at_drop_more}
use Rattle.std.specs.Char.{digit_value, is_ascii_digit}
use Rattle.std.specs.List.{list_all}
use Rattle.std.specs.Prelude.{Ok, Err}
use Rattle.std.specs.Str.Parse.{digits_value, digits_value_after}
use Rattle.httparse.specs.Grammar.{is_ows, skip_ows}
use Rattle.httparse.specs.Spans.{IsWithin, span_bytes}
use Rattle.http_in.specs.declared.fields.Values.{Values}
use Rattle.http_in.specs.declared.fields.Values.TheVariants as counts
use Rattle.http_in.specs.Rules.{is_number, stated_length}

-- what was found so far, of all values and of those that are left
abbrev pub Found : Values → List ℕ → List (List ℕ) → List (List ℕ) → Type 0
Found counts.Missing head all left = all ≡ left
Found (counts.One span) head all left = IsWithin (length head) span × (all ≡ span_bytes head span ∷ left)
Found counts.More head all left = 1 < length all

-- the blanks at the end are cut off one by one
pub cut_one : (bytes : List ℕ) (n : ℕ) → n < length bytes → is_ows (get_or bytes n 0) ≡ true
    → reverse (skip_ows (reverse (take n bytes))) ≡ reverse (skip_ows (reverse (take (n + 1) bytes)))
cut_one bytes n within blank =
    sym
    (ap (λ xs. reverse (skip_ows (reverse xs))) (take_more bytes n 0 within)
    ∙ ap (λ xs. reverse (skip_ows xs)) (reverse-append (take n bytes) (get_or bytes n 0 ∷ []))
    ∙ ap (λ t. reverse (cond t (skip_ows (reverse (take n bytes))) (get_or bytes n 0 ∷ reverse (take n bytes)))) blank)

-- nothing is cut off behind a byte that isn't blank
pub cut_none : (bytes : List ℕ) (n : ℕ) → n < length bytes → is_ows (get_or bytes n 0) ≡ false
    → reverse (skip_ows (reverse (take (n + 1) bytes))) ≡ take (n + 1) bytes
cut_none bytes n within kept =
    ap (λ xs. reverse (skip_ows (reverse xs))) more
    ∙ ap (λ xs. reverse (skip_ows xs)) (reverse-append (take n bytes) (get_or bytes n 0 ∷ []))
    ∙ ap (λ t. reverse (cond t (skip_ows (reverse (take n bytes))) (get_or bytes n 0 ∷ reverse (take n bytes)))) kept
    ∙ ap reverse (sym (reverse-append (take n bytes) (get_or bytes n 0 ∷ []))) ∙ reverse-reverse (take n bytes ++ get_or bytes n 0 ∷ []) ∙ sym more
  where
    more : take (n + 1) bytes ≡ take n bytes ++ get_or bytes n 0 ∷ []
    more = take_more bytes n 0 within

-- more digits give no smaller number
pub digits_grow : (n : ℕ) (digits : List ℕ) → n ≤ digits_value_after 10 n digits
digits_grow n [] = omega arith
digits_grow n (d ∷ digits) = let later = digits_grow (n * 10 + digit_value d) digits in omega arith

-- digits whose number is over the limit
pub too_large : (value : List ℕ) → is_number value ≡ true → 1048576 < digits_value 10 value → Err 413 ≡ stated_length (value ∷ [])
too_large value number large =
    ap (λ t. cond t (Err 413) (Err 400)) (sym number)
    ∙ ap (λ t. cond (is_number value) (cond t (Ok (digits_value 10 value)) (Err 413)) (Err 400)) (sym (lt-leb (digits_value 10 value) 1048576 large))

-- a byte that is kept at the end
pub kept_end : (bytes : List ℕ) (n : ℕ) → 0 < n → n ≤ length bytes → is_ows (get_or bytes (n - 1) 0) ≡ false
    → take n bytes ≡ reverse (skip_ows (reverse (take n bytes)))
kept_end bytes n some within kept =
    subst (λ k. take k bytes ≡ reverse (skip_ows (reverse (take k bytes)))) (omega arith) (sym (cut_none bytes (n - 1) (omega arith) kept))

pub no_end : (bytes : List ℕ) (n : ℕ) → n ≡ 0 → take n bytes ≡ reverse (skip_ows (reverse (take n bytes)))
no_end bytes n none = subst (λ k. take k bytes ≡ reverse (skip_ows (reverse (take k bytes)))) (sym none) refl

-- each of the digits
digit_at : (value : List ℕ) (i : ℕ) → list_all is_ascii_digit value ≡ true → i < length value → is_ascii_digit (get_or value i 0) ≡ true
digit_at [] i h within = absurd (omega arith)
digit_at (d ∷ ds) zero h within = (and_parts (is_ascii_digit d) (list_all is_ascii_digit ds) h).0
digit_at (d ∷ ds) (suc i) h within = digit_at ds i (and_parts (is_ascii_digit d) (list_all is_ascii_digit ds) h).1 (omega arith)

digit_counts : (d : ℕ) → is_ascii_digit d ≡ true → digit_value d ≡ d - 48
digit_counts d h = grind (arith, nat_tests)

-- one digit more, from which on the number is over the limit
pub grows_over : (value : List ℕ) (i n : ℕ) → is_number value ≡ true → i < length value → digits_value 10 value ≡ digits_value_after 10 n (drop i value)
    → 1048576 < n * 10 + (get_or value i 0 - 48) → 1048576 < digits_value 10 value
grows_over value i n number within counted over =
    let d = get_or value i 0 in
    let digits = (and_parts (nat_lt 0 (length value)) (list_all is_ascii_digit value) number).1 in
    let is = digit_counts d (digit_at value i digits within) in
    let more = digits_grow (n * 10 + digit_value d) (drop (i + 1) value) in
    let step : digits_value 10 value ≡ digits_value_after 10 (n * 10 + digit_value d) (drop (i + 1) value) = counted ∙ at_drop_more (digits_value_after 10 n) value i 0 within in
    omega (arith, is, more, step, over)
