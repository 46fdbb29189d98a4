-- What each step on a zone's table tells: of the step, the seat before, the number found and the seat after.
use Rattle.std.specs.Prelude.{◌≡◌, ◌≢◌, ℕ, ◌%◌, ◌<◌, ◌≤◌, List, [], ◌∷◌, Option, Some}
use Rattle.atomic_table.specs.Table.{Me, Step}
use Rattle.dict_model.specs.declared.operation.Entry.{Entry}
use Rattle.dict_model.specs.declared.operation.ZoneSpec.{ZoneSpec}
use Rattle.dict_model.specs.Zone.{State as DictState}
use Rattle.dict_model.specs.History.{Legal, Begins}
use Rattle.dict_lock.specs.declared.view.ZoneView.{ZoneView}
use Rattle.dict_lock.specs.declared.view.Held.{Held}
use Rattle.dict_lock.specs.Views.{waits, holds, adds, rests, hears, AllMade, SeenWell}
use Rattle.dict_lock.specs.Rule.{HeldFits}

abbrev pub Sat : Type 0 → Type 0
Sat Z = Me (Option (Held Z)) ZoneView

module _ {Z : Type 0} where
  -- it has a ticket, which is the number found
  abbrev pub took : Step (Option (Held Z)) → Sat Z → ℕ → Sat Z → Type 0
  took st m r n = (n ≡ (waits m.0 n.0.ticket, m.1)) × (n.0.ticket % 18446744073709551616 ≡ r)

  abbrev pub added : Entry → Step (Option (Held Z)) → Sat Z → ℕ → Sat Z → Type 0
  added e st m r n = (n ≡ (adds m.0 e, m.1)) × SeenWell n.0

  abbrev pub passed : Step (Option (Held Z)) → Sat Z → ℕ → Sat Z → Type 0
  passed st m r n = n ≡ (rests m.0, [])

  abbrev pub heard : Step (Option (Held Z)) → Sat Z → ℕ → Sat Z → Type 0
  heard st m r n = (n ≡ (hears m.0, m.1)) × Begins m.0.seen n.0.seen × Begins m.0.told n.0.seen × SeenWell n.0

  module _ (spec_of : Z → ZoneSpec) (state_of : Z → DictState) where
    -- it is in a turn, holds the state after the longest history, and that history begins with what it had seen
    abbrev pub Entered : Sat Z → Sat Z → Type 0
    Entered m n = (whole : List Entry) × (next : ℕ) × (held : Held Z)
        × (n ≡ (holds m.0 whole next, (0, Some held) ∷ m.1)) × HeldFits spec_of state_of m.0.of whole next held
        × Legal m.0.of whole × AllMade next whole × Begins m.0.seen whole × (m.0.made ≤ next) × (next < 4294967296)

    abbrev pub looked : Step (Option (Held Z)) → Sat Z → ℕ → Sat Z → Type 0
    looked st m r n = (r ≡ m.0.ticket % 18446744073709551616 → Entered m n) × (r ≢ m.0.ticket % 18446744073709551616 → n ≡ m)
