-- What a listener's answers say, and the addresses that it was asked to open, where it tells them.
use Rattle.std.specs.Prelude.{ℕ, ◌+◌, ◌%◌, ◌^◌, List, [], ◌∷◌, ◌++◌, ◌≡◌, Option, Some, None, Bool, true}
use Rattle.njs_edge.specs.declared.sink.Flushed.{Flushed}
use Rattle.njs_edge.specs.declared.sink.Flushed.TheVariants as flushed
use Rattle.njs_edge.specs.declared.listener.Accepted.{Accepted}
use Rattle.njs_edge.specs.declared.listener.Accepted.TheVariants.{Conn, Closed, Failed, NoMemory}

-- how many connections were handed out after an answer, modulo 2^64
abbrev pub number_after : {E : Type 0} → Accepted E → ℕ → ℕ
number_after (Conn conn) number = (number + 1) % 2 ^ 64
number_after Closed number = number
number_after Failed number = number
number_after NoMemory number = number

-- the answer says that no more will come
abbrev pub IsClosed : {E : Type 0} → Accepted E → Type 0
IsClosed (Conn conn) = ⊥
IsClosed Closed = Unit {0}
IsClosed Failed = ⊥
IsClosed NoMemory = ⊥

-- the answer says that the call failed
abbrev pub IsFailed : {E : Type 0} → Accepted E → Type 0
IsFailed (Conn conn) = ⊥
IsFailed Closed = ⊥
IsFailed Failed = Unit {0}
IsFailed NoMemory = ⊥

-- a listener is open once it was opened, and a call that fails doesn't change whether it is
abbrev pub open_after : Flushed → Bool → Bool
open_after flushed.Done was = true
open_after flushed.Failed was = was

-- addresses that are told grow by this one; they stop being told only where the call failed, and then for good
abbrev pub AsksToOpen : {X : Type 0} → Option (List X) → Option (List X) → X → Flushed → Type 0
AsksToOpen None None address answer = Unit {0}
AsksToOpen None (Some new) address answer = ⊥
AsksToOpen (Some old) None address answer = answer ≡ flushed.Failed
AsksToOpen (Some old) (Some new) address answer = new ≡ old ++ address ∷ []

-- the first of these connections, or that there is none, unless the call is to fail
abbrev pub GivesFirst : {E : Type 0} → List E → List E → Type 0 → Accepted E → Type 0
GivesFirst old new fails (Conn conn) = (old ≡ conn ∷ new) × (fails → ⊥)
GivesFirst old new fails Closed = (old ≡ []) × (new ≡ []) × (fails → ⊥)
GivesFirst old new fails Failed = (new ≡ old) × fails
GivesFirst old new fails NoMemory = ⊥
