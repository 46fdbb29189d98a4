-- Numbers that are counted modulo 2^64.
use Rattle.std.specs.Prelude.{ℕ, ◌≡◌, ◌+◌, ◌%◌, ◌^◌}

-- the one number rose by as much as the other
abbrev pub RiseAlike : ℕ → ℕ → ℕ → ℕ → Type 0
RiseAlike old new other_old other_new = (new + other_old) % 2 ^ 64 ≡ (old + other_new) % 2 ^ 64
