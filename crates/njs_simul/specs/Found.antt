-- Where a name is found stands what its place says (ECMA-262 5.1 §10.2.2.1).
use Rattle.std.specs.Prelude.{◌≡◌, ℕ, List, Bool, Option, Some, None}
use Rattle.njs_value.specs.declared.ScopeId.{ScopeId}
use Rattle.njs_meaning.specs.declared.place.Place.{Place}
use Rattle.njs_meaning.specs.declared.place.Place.TheVariants.{Slot, Global, Nowhere}
use Rattle.njs_meaning.specs.Values.{PlainValue}
use Rattle.njs_meaning.specs.PlainHeap.{PlainScope, Variable}
use Rattle.njs_meaning.specs.Places.{Around, place_in}
use Rattle.njs_meaning.specs.Scopes.{Found, find, with_variable}
use Rattle.njs_simul.specs.Step.{ancestor, value_at, with_value_at}
use Rattle.njs_simul.specs.Fits.{Scoped}

-- a variable of the scope with this number was found: it has the value that stands in the slot, can be assigned where the place
-- says so, and a value that is put to the name goes to the slot
pub record FoundInSlot (name : List ℕ) (scopes : List PlainScope) (at slot : ℕ) (assignable : Bool) (found : Option Found) : Type 0 where
  pub variable : Variable
  pub is : found ≡ Some (record { scope = at; variable = variable })
  pub value : value_at scopes at slot ≡ variable.value
  pub assigns : variable.assignable ≡ assignable
  pub puts : (v : PlainValue) → with_variable name v scopes at ≡ with_value_at scopes at slot v

-- what was found from the scope with this number outwards stands at the place
abbrev pub FoundAt : List ℕ → List PlainScope → ℕ → Place → Option Found → Type 0
FoundAt name scopes at (Slot up slot assignable) found = FoundInSlot name scopes (ancestor up scopes at) slot assignable found
FoundAt name scopes at (Global slot assignable) found = FoundInSlot name scopes 0 slot assignable found
FoundAt name scopes at Nowhere found = found ≡ None

abbrev pub NamesAreFound : Type 0
NamesAreFound =
    (around : Around) (name : List ℕ) (scopes : List PlainScope) (at : ScopeId) → Scoped around scopes at.0
    → FoundAt name scopes at.0 (place_in name around) (find name scopes at)
