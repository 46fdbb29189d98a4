-- Numbers of the language, in lists of entries and added.
use Rattle.std.proofs.Common.{◌≡◌, ◌≤◌, ◌<◌, ℕ, ℤ, pos, negsuc, ◌+ℤ◌, ◌≤ℤ◌, Bool, true, false, cond, List, [], ◌∷◌, filter, Some, arith, subst, w64, to_z, of_z}
use Rattle.std.specs.Prelude.{IsTrue, unsigned_abs}
use Rattle.std.specs.List.{AllByRecursion}
use Rattle.std.proofs.lemmas.Int.{ints, to_z-of_z, fits_signed_from_abs}
use Rattle.std.proofs.lemmas.Bool.Decides.{nat_tests}
use Rattle.dict_model.specs.declared.operation.Kept.{Kept}
use Rattle.dict_model.specs.Operation.{is_number, IsValue}
use Rattle.dict_model.specs.Eviction.{has_key}
use Rattle.dict_model.specs.Zone.{found}
use Rattle.dict_model.proofs.Alls.{all_filter}

-- what is found in a list with a property has it
found_has : (P : Kept → Type 0) (key : List ℕ) (es : List Kept) (e : Kept) → AllByRecursion P es → found key es ≡ Some e → P e
found_has P key [] e all is = absurd (cc)
found_has P key (x ∷ es) e all is =
    elim (has_key key x) as (λ b. cond b (Some x) (found key es) ≡ Some e → P e) [
      | true ↦ λ same. let at : x ≡ e = cc in subst P at all.0
      | false ↦ λ later. found_has P key es e all.1 later
    ] is

-- what is found among entries of a type is of that type
pub value_found : (key : List ℕ) (test : Kept → Bool) (numeric : Bool) (es : List Kept) (e : Kept) → AllByRecursion (λ e. IsValue numeric e.value) es → found key (filter test es) ≡ Some e → IsValue numeric e.value
value_found key test numeric es e all is = found_has (λ e. IsValue numeric e.value) key (filter test es) e (all_filter (λ e. IsValue numeric e.value) test es all) is

abs_within : (a : ℤ) → IsTrue (is_number a) → unsigned_abs a ≤ 9007199254740991
abs_within a small = grind (arith, nat_tests)

pub low : (a : ℤ) → unsigned_abs a ≤ 9007199254740991 → negsuc 9007199254740990 ≤ℤ a
low (pos n) small = omega (arith, ints)
low (negsuc n) small = omega (arith, ints)

pub high : (a : ℤ) → unsigned_abs a ≤ 9007199254740991 → a ≤ℤ pos 9007199254740991
high (pos n) small = omega (arith, ints)
high (negsuc n) small = omega (arith, ints)

pub number_low : (a : ℤ) → IsTrue (is_number a) → negsuc 9007199254740990 ≤ℤ a
number_low a small = low a (abs_within a small)

pub number_high : (a : ℤ) → IsTrue (is_number a) → a ≤ℤ pos 9007199254740991
number_high a small = high a (abs_within a small)

-- numbers of the language and their sums are within 64 bits
abs_fits : (a : ℤ) → unsigned_abs a < 9223372036854775808 → to_z w64 (of_z w64 a) ≡ a
abs_fits a small = to_z-of_z w64 a (fits_signed_from_abs w64 a small)

pub number_fits : (a : ℤ) → IsTrue (is_number a) → to_z w64 (of_z w64 a) ≡ a
number_fits a small = let within = abs_within a small in abs_fits a (omega arith)

in_range : (a : ℤ) → negsuc 18014398509481981 ≤ℤ a → a ≤ℤ pos 18014398509481982 → to_z w64 (of_z w64 a) ≡ a
in_range a above below = omega (arith, ints)

pub sum_fits : (a b : ℤ) → IsTrue (is_number a) → IsTrue (is_number b) → to_z w64 (of_z w64 (a +ℤ b)) ≡ a +ℤ b
sum_fits a b first second =
    let first_low = number_low a first in
    let first_high = number_high a first in
    let second_low = number_low b second in
    let second_high = number_high b second in
    in_range (a +ℤ b) (omega (arith, ints)) (omega (arith, ints))
