-- Which of an object's calls fail, by their numbers, which begin at 1.
use Rattle.std.specs.Prelude.{ℕ, List, ◌≡◌}
use Rattle.std.specs.List.{Contains}
use Rattle.njs_edge.specs.Causes.{next_count}
use Rattle.njs_edge.specs.declared.calls.Calls.{Calls}

-- the number of the next call is one of those that fail
abbrev pub IsFaultNext : Calls → Type 0
IsFaultNext calls = Contains calls.fails.items (next_count calls.count)

-- one more call was counted
abbrev pub CountsOne : Calls → Calls → Type 0
CountsOne old new = new ≡ record old { count = next_count old.count }

-- no call was counted, and those of these numbers are to fail
pub record NoneCounted (calls : Calls) (fails : List ℕ) : Type 0 where
  pub none : calls.count ≡ 0
  pub listed : calls.fails.items ≡ fails
