-- What a reader keeps.
use Rattle.std.specs.Prelude.{◌≡◌, ℕ, ◌<◌, ◌≤◌, Bool, true, false, List, ◌++◌, length, drop}
use Rattle.http_in.specs.declared.decide.Progress.{Progress}
use Rattle.http_in.specs.Deciding.{IsProgress}

-- A reader: the bytes that it has taken and not yet given out, how many requests it gave, and whether it is spent.
pub record Kept : Type 0 where
  pub held : List ℕ
  pub given : ℕ
  pub spent : Bool

-- what holds of its fields, as long as it isn't spent
pub record IsKept (bytes : List ℕ) (at : ℕ) (given : ℕ) (spent : Bool) (progress : Progress) : Type 0 where
  pub within : at ≤ length bytes
  pub few : spent ≡ false → given < 1000
  pub known : spent ≡ false → IsProgress given progress (drop at bytes)

-- a piece was added behind
pub record HasAdded (was now : Kept) (piece : List ℕ) : Type 0 where
  pub held : now.held ≡ was.held ++ piece
  pub given : now.given ≡ was.given
  pub spent : now.spent ≡ was.spent

-- nothing more is given
pub record IsSpent (was now : Kept) : Type 0 where
  pub given : now.given ≡ was.given
  pub spent : now.spent ≡ true
