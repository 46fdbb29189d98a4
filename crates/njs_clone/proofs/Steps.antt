-- A way along places that ends takes no more steps than there are places.
use Rattle.std.proofs.Common.{◌≡◌, ℕ, zero, suc, ◌+◌, ◌<◌, ◌≤◌, List, Option, Some, None, Bool, true, false, cond, nat_lt, refl, subst, length, slice_get, arith}
use Rattle.std.proofs.lemmas.Bool.{ltb-true, ltb-false}
use Rattle.std.proofs.lemmas.Option.{slice_get_past}
use Rattle.njs_value.specs.Ends.{Ends}

-- the way from a place ends within so many steps
abbrev pub EndsWithin : List (Option ℕ) → ℕ → ℕ → Type 0
EndsWithin ways zero at = slice_get ways at ≡ None
EndsWithin ways (suc n) at = (next : ℕ) → slice_get ways at ≡ Some (Some next) → EndsWithin ways n next

-- one where the first is less
abbrev counted : ℕ → ℕ → ℕ
counted a r = cond (nat_lt a r) 1 0

counted_more : (a r s : ℕ) → r ≤ s → counted a r ≤ counted a s
counted_more a r s more = by (nat_lt a r) (nat_lt a s) refl refl
  where
    by : (b c : Bool) → nat_lt a r ≡ b → nat_lt a s ≡ c → cond b 1 0 ≤ cond c 1 0
    by true true is is_not = omega arith
    by true false is is_not = let less : a < r = ltb-true a r is in let past : s ≤ a = ltb-false a s is_not in omega arith
    by false true is is_not = omega arith
    by false false is is_not = omega arith

counted_less : (a r s : ℕ) → r ≤ a → a < s → counted a r < counted a s
counted_less a r s past less = by (nat_lt a r) (nat_lt a s) refl refl
  where
    by : (b c : Bool) → nat_lt a r ≡ b → nat_lt a s ≡ c → cond b 1 0 < cond c 1 0
    by true c is is_not = let low : a < r = ltb-true a r is in absurd (omega arith)
    by false true is is_not = omega arith
    by false false is is_not = let high : s ≤ a = ltb-false a s is_not in absurd (omega arith)

module _ (rank : ℕ → ℕ) where
  -- how many of the first places have a lower rank
  abbrev lower : ℕ → ℕ → ℕ
  lower zero r = 0
  lower (suc k) r = counted (rank k) r + lower k r

  one_counted : (a r : ℕ) → counted a r ≤ 1
  one_counted a r = by (nat_lt a r)
    where
      by : (b : Bool) → cond b 1 0 ≤ 1
      by true = omega arith
      by false = omega arith

  lower_few : (k r : ℕ) → lower k r ≤ k
  lower_few zero r = omega arith
  lower_few (suc k) r = omega (arith, lower_few k r, one_counted (rank k) r)

  lower_more : (k r s : ℕ) → r ≤ s → lower k r ≤ lower k s
  lower_more zero r s more = omega arith
  lower_more (suc k) r s more = omega (arith, lower_more k r s more, counted_more (rank k) r s more)

  lower_less : (k place r s : ℕ) → place < k → r ≤ rank place → rank place < s → lower k r < lower k s
  lower_less zero place r s within past less = absurd (omega arith)
  lower_less (suc k) place r s within past less = by (nat_lt place k) refl (λ inside. lower_less k place r s inside past less)
    where
      by : (b : Bool) → nat_lt place k ≡ b → (place < k → lower k r < lower k s) → counted (rank k) r + lower k r < counted (rank k) s + lower k s
      by true is rest = omega (arith, rest (ltb-true place k is), counted_more (rank k) r s (omega arith))
      by false is rest =
          let last : k ≤ place = ltb-false place k is in
          let same : place ≡ k = omega arith in
          omega (arith, counted_less (rank k) r s (subst (λ q. r ≤ rank q) same past) (subst (λ q. rank q < s) same less), lower_more k r s (omega arith))

module _ (ways : List (Option ℕ)) (ends : Ends ways) where
  past_ends : (n at : ℕ) → slice_get ways at ≡ None → EndsWithin ways n at
  past_ends zero at none = none
  past_ends (suc n) at none = λ next found. let never : ⊥ = cc in absurd never

  ends_within : (n at : ℕ) → at < length ways → lower ends.rank (length ways) (ends.rank at) < n → EndsWithin ways n at
  ends_within zero at within few = absurd (omega arith)
  ends_within (suc n) at within few = λ next found. by next found (nat_lt next (length ways)) refl (ends_within n next)
    where
      by : (next : ℕ) → slice_get ways at ≡ Some (Some next) → (b : Bool) → nat_lt next (length ways) ≡ b
          → (next < length ways → lower ends.rank (length ways) (ends.rank next) < n → EndsWithin ways n next) → EndsWithin ways n next
      by next found true is rest =
          let inside : next < length ways = ltb-true next (length ways) is in
          let falls = ends.falls at next found in
          rest inside (omega (arith, lower_less ends.rank (length ways) next (ends.rank next) (ends.rank at) inside (omega arith) falls))
      by next found false is rest = past_ends n next (slice_get_past ways next (ltb-false next (length ways) is))

  -- from any place
  pub all_end : (at : ℕ) → EndsWithin ways (length ways) at
  all_end at = by (nat_lt at (length ways)) refl
    where
      by : (b : Bool) → nat_lt at (length ways) ≡ b → EndsWithin ways (length ways) at
      by true is =
          let inside : at < length ways = ltb-true at (length ways) is in
          ends_within (length ways) at inside
          (omega (arith, lower_less ends.rank (length ways) at (ends.rank at) (suc (ends.rank at)) inside (omega arith) (omega arith), lower_few ends.rank (length ways) (suc (ends.rank at))))
      by false is = past_ends (length ways) at (slice_get_past ways at (ltb-false at (length ways) is))
