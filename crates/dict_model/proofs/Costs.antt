-- Bounds of costs and of their sums.
use Rattle.std.proofs.Common.{◌+◌, ◌*◌, ◌≤◌, ℕ, Bool, true, false, cond, List, [], ◌∷◌, length, filter, encode_utf8_all, arith, length-append}
use Rattle.std.specs.Prelude.{encode_utf8}
use Rattle.std.proofs.lemmas.Str.{length-encode, len_utf8_bounds}
use Rattle.dict_model.specs.declared.operation.Kept.{Kept}
use Rattle.dict_model.specs.Eviction.{entry_cost, other_cost, total, others, has_key}

bytes_of_chars : (cs : List ℕ) → length (encode_utf8_all cs) ≤ 4 * length cs
bytes_of_chars [] = omega arith
bytes_of_chars (c ∷ cs) = omega (arith, length-append (encode_utf8 c) (encode_utf8_all cs), length-encode c, len_utf8_bounds c, bytes_of_chars cs)

-- a text has at most four bytes for each of its values
pub few_bytes : (cs : List ℕ) → length cs ≤ 1048576 → length (encode_utf8_all cs) ≤ 4194304
few_bytes cs few = omega (arith, bytes_of_chars cs)

other_cost_within : (key : List ℕ) (e : Kept) → other_cost key e ≤ entry_cost e
other_cost_within key e = elim (has_key key e) as (λ b. cond b 0 (entry_cost e) ≤ entry_cost e) [ true ↦ omega arith | false ↦ omega arith ]

-- what some of the entries cost is within what all cost
pub others_within : (key : List ℕ) (test : Kept → Bool) (es : List Kept) → others key (filter test es) ≤ total es
others_within key test [] = omega arith
others_within key test (e ∷ es) =
    elim (test e) as (λ b. others key (cond b (e ∷ filter test es) (filter test es)) ≤ entry_cost e + total es) [
      | true ↦ omega (arith, other_cost_within key e, others_within key test es)
      | false ↦ omega (arith, others_within key test es)
    ]

pub total_within : (test : Kept → Bool) (es : List Kept) → total (filter test es) ≤ total es
total_within test [] = omega arith
total_within test (e ∷ es) =
    elim (test e) as (λ b. total (cond b (e ∷ filter test es) (filter test es)) ≤ entry_cost e + total es) [
      | true ↦ omega (arith, total_within test es)
      | false ↦ omega (arith, total_within test es)
    ]

-- each entry costs something
pub length_within : (es : List Kept) → length es ≤ total es
length_within [] = omega arith
length_within (e ∷ es) = omega (arith, length_within es)
