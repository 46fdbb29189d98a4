-- Sums over lists that lose or get their last element, and over lists whose elements rise together.
use Rattle.std.proofs.Common.{◌≡◌, ℕ, ◌+◌, List, [], ◌∷◌, ◌++◌, length, get_or, suc, ◌%◌, ◌<◌, refl, sym, ap, ◌∙◌, arith}
use Rattle.std.proofs.Math.Nat.{mod-add-mod, add-mod-mod}
use Rattle.std.specs.List.{sum_by}
use Rattle.std.proofs.lemmas.List.Sums.{sum_by-append}

pub sum_last : {A : Type 0} (g : A → ℕ) (old new : List A) (x : A) → old ≡ new ++ x ∷ [] → sum_by g old ≡ sum_by g new + g x
sum_last g old new x is = omega (arith, ap (sum_by g) is, sum_by-append g new (x ∷ []))

sum_head : {A : Type 0} (g : A → ℕ) (x : A) (xs : List A) → sum_by g (x ∷ xs) ≡ g x + sum_by g xs
sum_head g x xs = let parts : sum_by g (x ∷ xs) ≡ sum_by g (x ∷ []) + sum_by g xs = sum_by-append g (x ∷ []) xs in omega (arith, parts)

-- where each n rose by a, modulo m, their sum rose by the sum of these
pub sums_rise : {A : Type 0} (n a : A → ℕ) (m : ℕ) (xs ys : List A) → length ys ≡ length xs → ((i : ℕ) (d : A) → i < length xs → n (get_or ys i d) % m ≡ (n (get_or xs i d) + a (get_or ys i d)) % m)
    → sum_by n ys % m ≡ (sum_by n xs + sum_by a ys) % m
sums_rise n a m [] [] len each = refl
sums_rise n a m [] (y ∷ ys) len each = absurd (omega arith)
sums_rise n a m (x ∷ xs) [] len each = absurd (omega arith)
sums_rise n a m (x ∷ xs) (y ∷ ys) len each =
    let first : n y % m ≡ (n x + a y) % m = each 0 x (omega arith) in
    let rest = sums_rise n a m xs ys (omega arith) (λ i d lt. each (suc i) d (omega arith)) in
    let order : (n x + a y) + (sum_by n xs + sum_by a ys) ≡ sum_by n (x ∷ xs) + sum_by a (y ∷ ys) = omega (arith, sum_head n x xs, sum_head a y ys) in
    ap (λ k. k % m) (sum_head n y ys)
    ∙ sym (mod-add-mod (n y) m (sum_by n ys)) ∙ ap (λ k. (k + sum_by n ys) % m) first ∙ mod-add-mod (n x + a y) m (sum_by n ys)
    ∙ sym (add-mod-mod (n x + a y) (sum_by n ys) m) ∙ ap (λ k. ((n x + a y) + k) % m) rest ∙ add-mod-mod (n x + a y) (sum_by n xs + sum_by a ys) m ∙ ap (λ k. k % m) order
