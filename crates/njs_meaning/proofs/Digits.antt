-- Digits that are read one by one.
use Rattle.std.proofs.Common.{◌≡◌, ℕ, ◌+◌, ◌*◌, ◌<◌, ◌≤◌, List, [], ◌∷◌, Option, Some, None, Bool, true, false, cond, ◌&&◌, nat_lt, nat_le, length, refl, ap, sym, arith}
use Rattle.std.proofs.Math.Nat.{mul-le-mul_left}
use Rattle.std.proofs.lemmas.Bool.Decides.{nat_tests}
use Rattle.std.specs.Char.{digit_value, is_digit}
use Rattle.std.specs.List.{list_all}
use Rattle.std.specs.Str.Parse.{digits_value_after}
use Rattle.njs_meaning.specs.Numbers.{max_safe, numeral}

-- the number that digits spell when they follow those of n, if it is safe
abbrev pub spelled_from : ℕ → ℕ → List ℕ → Option ℕ
spelled_from radix n digits =
    cond (list_all (λ c. is_digit c radix) digits && nat_le (digits_value_after radix n digits) max_safe) (Some (digits_value_after radix n digits)) None

pub spelled_first : (radix : ℕ) (digits : List ℕ) → 0 < length digits → spelled_from radix 0 digits ≡ numeral radix digits
spelled_first radix digits some =
    let test : nat_lt 0 (length digits) ≡ true = grind (arith, nat_tests) in
    ap (λ b. cond ((b && list_all (λ c. is_digit c radix) digits) && nat_le (digits_value_after radix 0 digits) max_safe) (Some (digits_value_after radix 0 digits)) None) (sym test)

pub no_digits : (radix : ℕ) (digits : List ℕ) → digits ≡ [] → numeral radix digits ≡ None
no_digits radix digits e = ap (numeral radix) e

pub spelled_other : (radix n c : ℕ) (s : List ℕ) → (digit_value c < radix → ⊥) → spelled_from radix n (c ∷ s) ≡ None
spelled_other radix n c s other =
    let test : nat_lt (digit_value c) radix ≡ false = grind (arith, nat_tests) in
    ap (λ b. cond ((b && list_all (λ c. is_digit c radix) s) && nat_le (digits_value_after radix n (c ∷ s)) max_safe) (Some (digits_value_after radix n (c ∷ s))) None) test

pub spelled_next : (radix n c : ℕ) (s : List ℕ) → digit_value c < radix → spelled_from radix n (c ∷ s) ≡ spelled_from radix (n * radix + digit_value c) s
spelled_next radix n c s digit =
    let test : nat_lt (digit_value c) radix ≡ true = grind (arith, nat_tests) in
    ap (λ b. cond ((b && list_all (λ c. is_digit c radix) s) && nat_le (digits_value_after radix n (c ∷ s)) max_safe) (Some (digits_value_after radix n (c ∷ s))) None) test

grows : (radix n : ℕ) (s : List ℕ) → 1 ≤ radix → n ≤ digits_value_after radix n s
grows radix n [] some = omega arith
grows radix n (c ∷ s) some =
    let rest : n * radix + digit_value c ≤ digits_value_after radix (n * radix + digit_value c) s = grows radix (n * radix + digit_value c) s some in
    let times : n * 1 ≤ n * radix = mul-le-mul_left n some in
    omega arith

large : (a : Bool) (m : ℕ) → max_safe < m → cond (a && nat_le m max_safe) (Some m) None ≡ None
large true m big = let test : nat_le m max_safe ≡ false = grind (arith, nat_tests) in ap (λ b. cond b (Some m) None) test
large false m big = refl

pub spelled_large : (radix n : ℕ) (s : List ℕ) → 1 ≤ radix → max_safe < n → spelled_from radix n s ≡ None
spelled_large radix n s some big =
    let more = grows radix n s some in
    large (list_all (λ c. is_digit c radix) s) (digits_value_after radix n s) (omega arith)

pub spelled_end : (radix n : ℕ) → n ≤ max_safe → spelled_from radix n [] ≡ Some n
spelled_end radix n small =
    let test : nat_le n max_safe ≡ true = grind (arith, nat_tests) in
    ap (λ b. cond b (Some n) None) test
