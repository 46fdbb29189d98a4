-- What a host promises of the built-in functions that it answers, and the machines that fit a program.
use Rattle.std.specs.Prelude.{◌≡◌, ℕ, ◌<◌, ◌≤◌, List, [], ◌∷◌, length, Option, Some, None, slice_get, Bool}
use Rattle.std.specs.Option.{option_and_then}
use Rattle.njs_value.specs.declared.Row.{Row}
use Rattle.njs_shared.specs.declared.object.Inner.{Inner}
use Rattle.njs_shared.specs.declared.object.Inner.TheVariants as inner
use Rattle.njs_shared.specs.declared.object.Scope.{Scope}
use Rattle.njs_shared.specs.Heap.{Heap, HeapObject}
use Rattle.njs_code.specs.declared.code.Code.{Code}
use Rattle.njs_meaning.specs.Values.{PlainValue}
use Rattle.njs_meaning.specs.State.{State, Outcome}
use Rattle.njs_meaning.specs.Errors.{first_count}
use Rattle.njs_meaning.specs.Running.{Calls}
use Rattle.njs_interp.specs.Sits.{SlotsFrom}

-- what a host answers to the rows: the last argument tells whether the call came by `new`
abbrev pub Answers : Type 0
Answers = Calls → Row → PlainValue → List PlainValue → Bool → State → Outcome PlainValue

-- the slots of the scopes behind a function's own
abbrev pub behind_own : List ℕ → Option (List ℕ)
behind_own [] = None
behind_own (own ∷ around) = Some around

-- the slots that each function of each module counts on in the scopes around it
abbrev pub counts_of : List Code → ℕ → ℕ → Option (List ℕ)
counts_of codes unit number =
    option_and_then (λ code. option_and_then (λ f. behind_own f.slots) (slice_get code.functions number)) (slice_get codes unit)

-- what an object is beside its properties, in a machine for a program: a function of a script is there, and stands in scopes with
-- the slots that it counts on
abbrev pub FitsPart : (rows : Row → Type 0) → (zones : ℕ) → (ℕ → ℕ → Option (List ℕ)) → List Scope → Inner → Type 0
FitsPart rows zones counts scopes inner.Plain = Unit {0}
FitsPart rows zones counts scopes (inner.Script unit number scope) =
    (slots : List ℕ) × (counts unit number ≡ Some slots) × SlotsFrom slots scopes scope.0
FitsPart rows zones counts scopes (inner.BuiltIn row) = rows row
FitsPart rows zones counts scopes (inner.Bound target this args) = Unit {0}
FitsPart rows zones counts scopes (inner.ZoneNumber zone) = zone < zones

-- a machine that fits: the objects that every run begins with are there, and every object fits
pub record FitsProgram (rows : Row → Type 0) (zones : ℕ) (counts : ℕ → ℕ → Option (List ℕ)) (h : Heap) : Type 0 where
  pub first : first_count ≤ length h.objects
  pub each : (at : ℕ) (object : HeapObject) → slice_get h.objects at ≡ Some object → FitsPart rows zones counts h.scopes object.inner
