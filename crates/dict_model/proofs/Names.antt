-- The first of a list.
use Rattle.std.proofs.Common.{◌≡◌, ◌≢◌, ◌-◌, ℕ, suc, zero, List, ◌∷◌, take, refl, arith, ap}

pub take_cons : (n : ℕ) (x : List ℕ) (xs : List (List ℕ)) → n ≢ 0 → take n (x ∷ xs) ≡ x ∷ take (n - 1) xs
take_cons zero x xs some = absurd (some refl)
take_cons (suc n) x xs some = ap (λ k. x ∷ take k xs) (omega arith)
