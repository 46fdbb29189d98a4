-- Stacks whose top stands in two places.
use Rattle.std.specs.Prelude.{ℕ, List, ◌∷◌, ◌++◌, take, drop}

-- the top of a stack, also put under so many below it
abbrev pub tucked : {A : Type 0} → ℕ → A → List A → List A
tucked under top below = top ∷ take under below ++ top ∷ drop under below
