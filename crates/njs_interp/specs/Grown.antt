-- Heaps that keep what code counts on.
use Rattle.std.specs.Prelude.{◌≡◌, ℕ, ◌≤◌, List, ◌++◌, length, Option, Some, slice_get}
use Rattle.njs_shared.specs.declared.object.Scope.{Scope}
use Rattle.njs_shared.specs.Heap.{Heap, HeapObject}
use Rattle.njs_shared.specs.declared.object.Inner.{Inner}
use Rattle.njs_shared.specs.declared.object.Inner.TheVariants as inner
use Rattle.njs_convert.specs.Tells.{IsOrdinary}
use Rattle.njs_interp.specs.Sits.{SlotsFrom}

-- a scope with the same scope around it and as many slots
pub record SameShape (scope : Scope) (scopes : List Scope) (at : ℕ) : Type 0 where
  pub now : Scope
  pub there : slice_get scopes at ≡ Some now
  pub parent : now.parent ≡ scope.parent
  pub slots : length now.slots ≡ length scope.slots

-- an object that is the same beside its properties
pub record SameInner (object : HeapObject) (objects : List HeapObject) (at : ℕ) : Type 0 where
  pub now : HeapObject
  pub there : slice_get objects at ≡ Some now
  pub inner : now.inner ≡ object.inner

-- every scope keeps its slots and the scope around it, every object what it is beside its properties, and every text itself
pub record Widens (old new : Heap) : Type 0 where
  pub scopes : (at : ℕ) (scope : Scope) → slice_get old.scopes at ≡ Some scope → SameShape scope new.scopes at
  pub objects : (at : ℕ) (object : HeapObject) → slice_get old.objects at ≡ Some object → SameInner object new.objects at
  pub more : List (List ℕ)
  pub texts : new.texts ≡ old.texts ++ more

-- further objects are no functions of scripts, no built-ins and no dictionaries
pub record Grown (old new : Heap) : Type 0 where
  pub widens : Widens old new
  pub fresh : (at : ℕ) (object : HeapObject) → slice_get new.objects at ≡ Some object → length old.objects ≤ at → IsOrdinary object.inner

-- a further object is ordinary, or a function that stands in scopes with the slots that it counts on
abbrev pub FitsFurther : (ℕ → ℕ → Option (List ℕ)) → List Scope → Inner → Type 0
FitsFurther counts scopes inner.Plain = Unit {0}
FitsFurther counts scopes (inner.Script unit number scope) = (slots : List ℕ) × (counts unit number ≡ Some slots) × SlotsFrom slots scopes scope.0
FitsFurther counts scopes (inner.BuiltIn row) = ⊥
FitsFurther counts scopes (inner.Bound target this args) = Unit {0}
FitsFurther counts scopes (inner.ZoneNumber zone) = ⊥

pub record FunctionsFit (counts : ℕ → ℕ → Option (List ℕ)) (old new : Heap) : Type 0 where
  pub fresh : (at : ℕ) (object : HeapObject) → slice_get new.objects at ≡ Some object → length old.objects ≤ at → FitsFurther counts new.scopes object.inner
