-- What a seat is between two steps.
use Rattle.std.specs.Prelude.{◌≡◌, ◌≢◌, ℕ, ◌<◌, ◌≤◌, List, [], ◌∷◌, None}
use Rattle.dict_model.specs.declared.operation.Entry.{Entry}
use Rattle.dict_model.specs.declared.operation.ZoneSpec.{ZoneSpec}
use Rattle.dict_model.specs.Zone.{State as DictState}
use Rattle.dict_model.specs.History.{Legal, Begins}
use Rattle.dict_lock.specs.declared.view.Turn.TheVariants.{Holds}
use Rattle.dict_lock.specs.declared.view.Held.{Held}
use Rattle.dict_lock.specs.Views.{waits, holds, AllMade, IsSettled}
use Rattle.dict_lock.specs.Plays.{Sat}
use Rattle.dict_lock.specs.Rule.{HeldFits}

-- it has a caller's number, holds no slot and no ticket
abbrev pub IsIdle : {Z : Type 0} → Sat Z → Type 0
IsIdle m = IsSettled m.0 × (m.0.own ≢ None) × (m.1 ≡ [])

-- it is in a turn, its slot is empty
abbrev pub IsInTurn : {Z : Type 0} → Sat Z → Type 0
IsInTurn m = (m.0.turn ≡ Holds) × (m.0.own ≢ None) × (m.1 ≡ (0, None) ∷ [])

module _ {Z : Type 0} (spec_of : Z → ZoneSpec) (state_of : Z → DictState) where
  -- it has come into a turn with the state after the longest history
  abbrev pub Enters : Sat Z → Held Z → Sat Z → Type 0
  Enters m held n = (ticket : ℕ) × (whole : List Entry) × (next : ℕ)
      × (n ≡ (holds (waits m.0 ticket) whole next, (0, None) ∷ [])) × HeldFits spec_of state_of m.0.of whole next held
      × Legal m.0.of whole × AllMade next whole × Begins m.0.seen whole × (m.0.made ≤ next) × (next < 4294967296)
