-- A pass as the list of its callers, one for each zone.
use Rattle.std.specs.Prelude.{◌≡◌, ℕ, zero, suc, ◌+◌, ◌-◌, ◌≤◌, List, [], ◌∷◌, map, slice_get, slice_set, Some, true, Result, Ok, Err}
use Rattle.njs_text.specs.declared.memory.NoMemory.{NoMemory}
use Rattle.dict_model.specs.declared.operation.DictOp.{DictOp}
use Rattle.dict_model.specs.declared.operation.DictReply.{DictReply}
use Rattle.dict_model.specs.declared.operation.Entry.{Entry}
use Rattle.dict_model.specs.declared.operation.ZoneSpec.{ZoneSpec}
use Rattle.dict_model.specs.History.{Begins}
use Rattle.dict_lock.specs.declared.stop.SplitStop.{SplitStop}
use Rattle.dict_lock.specs.declared.stop.SplitStop.TheVariants as stops
use Rattle.dict_lock.specs.Views.{spare_from, calls_by, entry_by}
use Rattle.dict_lock.specs.Known.{ZoneName, Caller, IsCaller, IsReply, Stays, Commits}

abbrev pub zone_of : Caller → ZoneName
zone_of k = k.zone

abbrev pub spec_of : ZoneName → ZoneSpec
spec_of zone = zone.spec

-- what the zones of a pass were opened with
abbrev pub specs_of : List Caller → List ZoneSpec
specs_of pass = map spec_of (map zone_of pass)

-- the caller's own entries, in the order of the history
abbrev pub own_of : Caller → List Entry
own_of k = calls_by k.number k.seen

-- the zone is there, and its values are numbers
abbrev pub IsOfNumbers : List ZoneSpec → ℕ → Type 0
IsOfNumbers specs zone = (spec : ZoneSpec) × (slice_get specs zone ≡ Some spec) × (spec.numeric ≡ true)

-- two passes of the same zones
abbrev pub SameZones : List Caller → List Caller → Type 0
SameZones one other = map zone_of one ≡ map zone_of other

-- the same caller, which has seen no less
pub record ComesLater (old new : Caller) : Type 0 where
  pub zone : new.zone ≡ old.zone
  pub number : new.number ≡ old.number
  pub closed : new.closed ≡ old.closed
  pub seen : Begins old.seen new.seen
  pub made : old.made ≤ new.made

-- R holds of the callers of each zone
abbrev pub EachPair : (Caller → Caller → Type 0) → List Caller → List Caller → Type 0
EachPair R [] [] = Unit {0}
EachPair R (x ∷ xs) (y ∷ ys) = R x y × EachPair R xs ys
EachPair R _ _ = ⊥

abbrev pub EachTriple : (Caller → Caller → Caller → Type 0) → List Caller → List Caller → List Caller → Type 0
EachTriple R [] [] [] = Unit {0}
EachTriple R (x ∷ xs) (y ∷ ys) (z ∷ zs) = R x y z × EachTriple R xs ys zs
EachTriple R _ _ _ = ⊥

-- the caller of one zone changes, and no other does
pub record Changes (zone : ℕ) (R : Caller → Caller → Type 0) (old new : List Caller) : Type 0 where
  pub before : Caller
  pub was : slice_get old zone ≡ Some before
  pub after : Caller
  pub changed : new ≡ slice_set old zone after
  pub related : R before after

-- the history that was seen is legal, begins with what had been seen before and ends with the call's entry, which alone is new among the caller's own
pub record IsAnswered (op : DictOp) (reading : ℕ) (reply : DictReply) (old new : Caller) : Type 0 where
  pub commits : Commits (entry_by old.number op reading reply) old new
  pub caller : IsCaller new
  pub answers : IsReply old.zone.spec op reading reply

-- an answered call changes the caller of its zone, and one that finds no memory changes no history
abbrev pub Asks : List Caller → List Caller → ℕ → DictOp → ℕ → Result DictReply NoMemory → Type 0
Asks old new zone op reading (Ok reply) = Changes zone (IsAnswered op reading reply) old new
Asks old new zone op reading (Err want) = Changes zone Stays old new

-- what a caller of a zone knows
abbrev pub KnownAt : List Caller → ℕ → (Caller → Type 0) → Type 0
KnownAt pass zone P = (k : Caller) × (slice_get pass zone ≡ Some k) × P k

-- `Spent` is answered where a zone has handed out all its numbers
abbrev pub IsStopped : List Caller → SplitStop → Type 0
IsStopped pass stops.Spent = (zone : ℕ) × KnownAt pass zone (λ k. k.made ≡ 4294967295)
IsStopped pass stops.NoMemory = Unit {0}

-- the first caller of a zone that was opened with so many numbers, of which those from `number` on are still to be dealt
abbrev pub dealer : ℕ → ℕ → ZoneName → Caller
dealer number count zone = record { zone = zone; number = 0; seen = []; mine = []; closed = spare_from number (count - number); made = count }

-- a caller that has called nothing
abbrev pub opened : ℕ → ℕ → ZoneName → Caller
opened number count zone = record { zone = zone; number = number; seen = []; mine = []; closed = []; made = count }

-- so many passes over these zones, with the numbers from one on
abbrev pub passes_from : List ZoneName → ℕ → ℕ → ℕ → List (List Caller)
passes_from zones count number zero = []
passes_from zones count number (suc more) = map (opened number count) zones ∷ passes_from zones count (number + 1) more

-- zones that are opened anew, empty, and a pass for each number below the count
pub record IsOpened (specs : List ZoneSpec) (count : ℕ) (passes : List (List Caller)) : Type 0 where
  pub zones : List ZoneName
  pub over : map spec_of zones ≡ specs
  pub all : passes ≡ passes_from zones count 0 count
