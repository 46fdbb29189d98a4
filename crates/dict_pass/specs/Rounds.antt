-- How the numbers of the passes are dealt at the opening.
use Rattle.std.specs.Prelude.{ℕ, ◌-◌, List, [], ◌∷◌, map, slice_index_or}
use Rattle.dict_lock.specs.Known.{ZoneName, Caller}
use Rattle.dict_pass.specs.Callers.{zone_of, dealer, passes_from}

-- the first pass, which has the numbers from `number` on, and the passes that were dealt the numbers before
abbrev pub round : List ZoneName → ℕ → ℕ → List (List Caller)
round zones count number = map (dealer number count) zones ∷ passes_from zones count 1 (number - 1)

abbrev pub zones_of_first : List (List Caller) → List ZoneName
zones_of_first passes = map zone_of (slice_index_or passes 0 [])
