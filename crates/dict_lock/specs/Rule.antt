-- The rule of a zone's table: word 0 is the next ticket, word 1 the ticket that is served, word 2 the number of entries, and the slot has the state.
use Rattle.std.specs.Prelude.{◌≡◌, ◌≢◌, ◌⊎◌, ℕ, ◌+◌, ◌%◌, ◌<◌, ◌≤◌, List, [], ◌∷◌, length, max, Option, Some, None}
use mathlib.Core.Option.{some, none}
use lib.ListN.{get_elem?}
use Rattle.atomic_table.specs.Table.{State}
use Rattle.dict_model.specs.declared.operation.Entry.{Entry}
use Rattle.dict_model.specs.declared.operation.ZoneSpec.{ZoneSpec}
use Rattle.dict_model.specs.Zone.{State as DictState, IsValid}
use Rattle.dict_model.specs.History.{state_after, Legal, Begins}
use Rattle.dict_lock.specs.declared.view.Turn.{Turn}
use Rattle.dict_lock.specs.declared.view.Turn.TheVariants.{Idle, Waits, Holds}
use Rattle.dict_lock.specs.declared.view.ZoneView.{ZoneView}
use Rattle.dict_lock.specs.declared.view.Held.{Held}
use Rattle.dict_lock.specs.Weights.{total, below, run}
use Rattle.dict_lock.specs.Views.{IsQuiet, AllMade, ClosedFit, PlacesFit, owns, in_line, in_turn}

-- only a view with a caller's number has a ticket, and in a turn it names the longest history and the next number
abbrev pub TurnFits : List Entry → ℕ → ZoneView → Turn → Type 0
TurnFits log next v Idle = Unit {0}
TurnFits log next v Waits = v.own ≢ None
TurnFits log next v Holds = (v.own ≢ None) × (v.whole ≡ log) × (v.made ≡ next)

-- after what it has seen the history has no entry of its own
abbrev pub OwnFits : List Entry → List Entry → List ℕ → Option ℕ → Type 0
OwnFits log seen mine None = Unit {0}
OwnFits log seen mine (Some n) = IsQuiet n (length seen) log

pub record ViewFits (spec : ZoneSpec) (log : List Entry) (next : ℕ) (v : ZoneView) : Type 0 where
  pub of : v.own ≢ None → v.of ≡ spec
  pub seen : Begins v.seen log
  pub told : Begins v.told log
  pub places : PlacesFit v.seen v.mine v.own
  pub own : OwnFits log v.seen v.mine v.own
  pub closed : ClosedFit log (max (length v.seen) (length v.told)) v.closed
  pub made : v.made ≤ next
  pub seen_made : AllMade v.made v.seen
  pub told_made : AllMade v.made v.told
  pub turn : TurnFits log next v v.turn

-- some view has the whole history, or was told of it
abbrev pub IsKnown : List Entry → List ZoneView → Type 0
IsKnown log views = (j : ℕ) × (v : ZoneView) × (get_elem? views j ≡ some v) × ((v.seen ≡ log) ⊎ (v.told ≡ log))

-- the slot is out with the view whose ticket is served
abbrev pub IsOut : {Z : Type 0} → ℕ → State (Option (Held Z)) ZoneView → Type 0
IsOut served s = (s.homes ≡ none ∷ []) × ((f : ℕ → ℕ) → total (in_turn f) s.views ≡ f served)

module _ {Z : Type 0} (spec_of : Z → ZoneSpec) (state_of : Z → DictState) where
  -- the state is that after the history, and beside it stands the next caller's number
  pub record HeldFits (spec : ZoneSpec) (log : List Entry) (after : ℕ) (held : Held Z) : Type 0 where
    pub of : spec_of held.state ≡ spec
    pub state : state_of held.state ≡ state_after spec log
    pub valid : IsValid spec (state_of held.state)
    pub next : held.next ≡ after

  -- the slot is at home and full, and no view is in a turn
  abbrev pub IsHome : ZoneSpec → List Entry → ℕ → State (Option (Held Z)) ZoneView → Type 0
  IsHome spec log next s = (held : Held Z) × (s.homes ≡ some (Some held) ∷ []) × HeldFits spec log next held × ((f : ℕ → ℕ) → total (in_turn f) s.views ≡ 0)

  pub record Orderly (spec : ZoneSpec) (s : State (Option (Held Z)) ZoneView) : Type 0 where
    pub log : List Entry
    pub served : ℕ
    pub waiting : ℕ
    pub next : ℕ
    pub words : s.words ≡ (served + waiting) % 18446744073709551616 ∷ served % 18446744073709551616 ∷ length log % 18446744073709551616 ∷ []
    pub legal : Legal spec log
    pub log_made : AllMade next log
    pub few : next < 4294967296
    -- each ticket from the one that is served on is some view's, once
    pub line : (f : ℕ → ℕ) → total (in_line f) s.views ≡ run f served waiting
    -- each number below the next is some view's, once
    pub numbers : (f : ℕ → ℕ) → total (owns f) s.views ≡ below f next
    pub each : (j : ℕ) (v : ZoneView) → get_elem? s.views j ≡ some v → ViewFits spec log next v
    pub known : IsKnown log s.views
    pub slot : IsHome spec log next s ⊎ IsOut served s
