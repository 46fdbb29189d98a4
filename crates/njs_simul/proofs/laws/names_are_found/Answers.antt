use Rattle.std.proofs.Common.{ℕ, List, Option}
use Rattle.njs_meaning.specs.declared.place.Place.{Place}
use Rattle.njs_meaning.specs.declared.place.Place.TheVariants.{Slot, Global, Nowhere}
use Rattle.njs_meaning.specs.PlainHeap.{PlainScope}
use Rattle.njs_meaning.specs.Places.{place_in}
use Rattle.njs_meaning.specs.Scopes.{Found, find}
use Rattle.njs_simul.specs.Found.{FoundAt}
use Rattle.njs_simul.proofs.Slots.{AtPlace, found_at_place}
use Rattle.njs_simul.proofs.laws.names_are_found.Goals as goal

found_at : (name : List ℕ) (scopes : List PlainScope) (at : ℕ) (place : Place) (found : Option Found) → AtPlace name scopes at place found → FoundAt name scopes at place found
found_at name scopes at (Slot up slot assignable) found h = record { variable = h.variable; is = h.is; value = h.value; assigns = h.assigns; puts = h.puts }
found_at name scopes at (Global slot assignable) found h = record { variable = h.variable; is = h.is; value = h.value; assigns = h.assigns; puts = h.puts }
found_at name scopes at Nowhere found h = h

pub returns : goal.returns
returns c = λ around name scopes at scoped. found_at name scopes at.0 (place_in name around) (find name scopes at) (found_at_place around name scopes at scoped)
