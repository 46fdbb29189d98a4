-- What a contract sees of a zone and of a caller's seat.
use Rattle.std.specs.Prelude.{◌≡◌, ℕ, ◌+◌, ◌-◌, ◌<◌, ◌≤◌, List, [], ◌∷◌, ◌++◌, length, drop, max, slice_index_or, Option, Some, None}
use Rattle.atomic_table.specs.Seated.{TableId}
use Rattle.dict_model.specs.declared.operation.DictOp.{DictOp}
use Rattle.dict_model.specs.declared.operation.DictReply.{DictReply}
use Rattle.dict_model.specs.declared.operation.Entry.{Entry}
use Rattle.dict_model.specs.declared.operation.ZoneSpec.{ZoneSpec}
use Rattle.dict_model.specs.Zone.{State, IsValid, dict}
use Rattle.dict_model.specs.History.{Legal, Begins}
use Rattle.dict_lock.specs.declared.view.ZoneView.{ZoneView}
use Rattle.dict_lock.specs.Views.{longer, places_of, spare_from, AllMade, ClosedFit}

-- which zone it is, and what it was opened with
pub record ZoneName : Type 0 where
  pub table : TableId
  pub spec : ZoneSpec

-- a caller: its number, the history that it has seen, the places of its own entries there, the numbers that were closed into it, each with a bound, and how many numbers it knows to be handed out
pub record Caller : Type 0 where
  pub zone : ZoneName
  pub number : ℕ
  pub seen : List Entry
  pub mine : List ℕ
  pub closed : List (ℕ × ℕ)
  pub made : ℕ

-- what holds of each caller
pub record IsCaller (k : Caller) : Type 0 where
  pub legal : Legal k.zone.spec k.seen
  pub places : k.mine ≡ places_of k.number k.seen
  pub made : AllMade k.made k.seen
  pub few : k.made < 4294967296
  pub closed : ClosedFit k.seen (length k.seen) k.closed

abbrev pub number_of : Option ℕ → ℕ
number_of None = 0
number_of (Some n) = n

abbrev pub caller_of : TableId → ZoneView → Caller
caller_of table v = record { zone = record { table = table; spec = v.of }; number = number_of v.own; seen = v.seen; mine = v.mine; closed = v.closed; made = v.made }

-- the reply is the dictionary's from some valid state
abbrev pub IsReply : ZoneSpec → DictOp → ℕ → DictReply → Type 0
IsReply spec op reading reply = (s : State) × IsValid spec s × (reply ≡ (dict spec s op reading).0)

-- nothing but the number of callers that it knows has changed, which is no smaller
pub record Stays (k k' : Caller) : Type 0 where
  pub zone : k'.zone ≡ k.zone
  pub number : k'.number ≡ k.number
  pub seen : k'.seen ≡ k.seen
  pub mine : k'.mine ≡ k.mine
  pub closed : k'.closed ≡ k.closed
  pub made : k.made ≤ k'.made

-- the history begins with what it had seen and ends with the entry, which alone is new among its own
pub record Commits (e : Entry) (k k' : Caller) : Type 0 where
  pub zone : k'.zone ≡ k.zone
  pub number : k'.number ≡ k.number
  pub seen : (between : List Entry) × (k'.seen ≡ (k.seen ++ between) ++ e ∷ []) × (k'.mine ≡ k.mine ++ length (k.seen ++ between) ∷ [])
  pub closed : k'.closed ≡ k.closed
  pub made : k.made ≤ k'.made

-- the first caller of a zone, which has all numbers that it begins with
abbrev pub first_caller : ZoneName → ℕ → Caller
first_caller zone count = record { zone = zone; number = 0; seen = []; mine = []; closed = spare_from 1 (count - 1); made = count }

-- the first of the closed numbers is one that no caller has had
pub record HasSpare (closed : List (ℕ × ℕ)) : Type 0 where
  pub number : ℕ
  pub rest : List (ℕ × ℕ)
  pub is : closed ≡ (number, 0) ∷ rest

-- a new caller, which has seen the same
abbrev pub new_caller : Caller → ℕ → ℕ → Caller
new_caller k number made = record { zone = k.zone; number = number; seen = k.seen; mine = []; closed = []; made = made }

-- the first of the closed numbers is given away
abbrev pub first_closed : Caller → ℕ
first_closed k = (slice_index_or k.closed 0 (0, 0)).0

abbrev pub without_first : Caller → Caller
without_first k = record { zone = k.zone; number = k.number; seen = k.seen; mine = k.mine; closed = drop 1 k.closed; made = k.made }

-- a new caller with a number of its own, which is no smaller than all that were known, and the largest that now is
abbrev pub IsNewFrom : Caller → Caller → Caller → Type 0
IsNewFrom k k' new = (k.made ≤ new.number) × (new.number < 4294967295) × (k'.made ≡ new.number + 1) × (new ≡ new_caller k new.number (new.number + 1))

-- what is seen is the longer of what each had seen, and begins with both. Nothing else changes
pub record Learns (k other k' : Caller) : Type 0 where
  pub own : Begins k.seen k'.seen
  pub told : Begins other.seen k'.seen
  pub rest : k' ≡ record { zone = k.zone; number = k.number; seen = longer k.seen other.seen; mine = k.mine; closed = k.closed; made = max k.made other.made }

-- the same, and the closed caller's numbers are taken over, its own with the length of what it had seen
pub record Closes (other k k' : Caller) : Type 0 where
  pub own : Begins k.seen k'.seen
  pub told : Begins other.seen k'.seen
  pub rest : k' ≡ record { zone = k.zone; number = k.number; seen = longer k.seen other.seen; mine = k.mine; closed = (k.closed ++ (other.number, length other.seen) ∷ []) ++ other.closed; made = max k.made other.made }
