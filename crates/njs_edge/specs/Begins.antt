-- What is told of an object that begins.
use Rattle.std.specs.Prelude.{List, [], ◌≡◌, Option, Some, None}

-- nothing has come yet, where what comes is told
abbrev pub BeginsEmpty : {X : Type 0} → Option (List X) → Type 0
BeginsEmpty None = Unit {0}
BeginsEmpty (Some xs) = xs ≡ []
