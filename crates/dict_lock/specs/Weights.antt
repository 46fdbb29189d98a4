-- Lists of numbers are compared by weight: what holds for every f says how often each number stands there.
use Rattle.std.specs.Prelude.{ℕ, zero, suc, ◌+◌, List, [], ◌∷◌}

abbrev pub total : {A : Type 0} → (A → ℕ) → List A → ℕ
total f [] = 0
total f (x ∷ xs) = f x + total f xs

-- the weight of the numbers below n
abbrev pub below : (ℕ → ℕ) → ℕ → ℕ
below f zero = 0
below f (suc n) = below f n + f n

-- the weight of the n numbers from a on
abbrev pub run : (ℕ → ℕ) → ℕ → ℕ → ℕ
run f a zero = 0
run f a (suc n) = run f a n + f (a + n)
