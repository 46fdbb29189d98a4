-- The readings of a clock, where it tells them, and those that a list gives.
use Rattle.std.specs.Prelude.{ℕ, List, ◌++◌, ◌≡◌, ◌≤◌, ◌+◌, ◌-◌, ◌^◌, Option, Some, None, if◌then◌else◌, map, length, min, nat_lt, slice_index}
use Rattle.std.specs.List.{range_with_len}

-- readings that are told grow by these; they stop being told only where 2^64 - 1 of them are there, and then for good
abbrev pub Reads : Option (List ℕ) → Option (List ℕ) → List ℕ → Type 0
Reads None None readings = Unit {0}
Reads None (Some new) readings = ⊥
Reads (Some old) None readings = 2 ^ 64 - 1 ≤ length old + length readings
Reads (Some old) (Some new) readings = new ≡ old ++ readings

-- what a list gives at a place, from 0 on: past its end the last number, and 0 where there is none
abbrev pub reading_at : List ℕ → ℕ → ℕ
reading_at list place = slice_index list (min place (length list - 1))

-- the first readings of a list
abbrev pub first_readings : List ℕ → ℕ → List ℕ
first_readings list count = map (reading_at list) (range_with_len 0 count)

-- they are told where their count is below its last value
abbrev pub told_readings : List ℕ → ℕ → Option (List ℕ)
told_readings list count = if nat_lt count (2 ^ 64 - 1) then Some (first_readings list count) else None
