-- Ways from place to place that end.
use Rattle.std.specs.Prelude.{ℕ, ◌≡◌, ◌<◌, List, Option, Some, slice_get}

-- each place leads to another or to none, and every way ends: a rank falls at each step
pub record Ends (ways : List (Option ℕ)) : Type 0 where
  pub rank : ℕ → ℕ
  pub falls : (place next : ℕ) → slice_get ways place ≡ Some (Some next) → rank next < rank place
