-- Heaps in which every number of an object, a scope or a text is a place, and every number is safe.
use Rattle.std.specs.Prelude.{ℕ, ◌<◌, List}
use Rattle.std.specs.List.{AllByRecursion}
use Rattle.std.specs.Option.{ForSome}
use Rattle.njs_value.specs.Number.{IsSafe}
use Rattle.njs_value.specs.Object.{Object}
use Rattle.njs_value.specs.declared.Value.{Value}
use Rattle.njs_value.specs.declared.Value.TheVariants.{Undefined, Null, Bool, Num, Str, Obj}
use Rattle.njs_props.specs.declared.map.Property.{Property}
use Rattle.njs_shared.specs.declared.object.Inner.{Inner}
use Rattle.njs_shared.specs.declared.object.Inner.TheVariants.{Plain, Script, BuiltIn, Bound, ZoneNumber}
use Rattle.njs_shared.specs.declared.object.Scope.{Scope}
use Rattle.njs_shared.specs.Heap.{Heap, HeapObject, Sizes, sizes}

-- the text or the object is one of a heap with these sizes, and the number is within plus or minus 2^53 - 1
abbrev pub FitsValue : Sizes → Value → Type 0
FitsValue n Undefined = Unit {0}
FitsValue n Null = Unit {0}
FitsValue n (Bool b) = Unit {0}
FitsValue n (Num i) = IsSafe i
FitsValue n (Str t) = t.0 < n.texts
FitsValue n (Obj o) = o.0 < n.objects

-- the same of what an object is beside its properties
abbrev pub FitsInner : Sizes → Inner → Type 0
FitsInner n Plain = Unit {0}
FitsInner n (Script unit code scope) = scope.0 < n.scopes
FitsInner n (BuiltIn row) = Unit {0}
FitsInner n (Bound target this args) = (target.0 < n.objects) × FitsValue n this × AllByRecursion (FitsValue n) args
FitsInner n (ZoneNumber zone) = Unit {0}

-- the same of properties
abbrev pub FitsProperties : Sizes → List (List ℕ × Property Value) → Type 0
FitsProperties n props = AllByRecursion (λ e. FitsValue n e.1.value) props

-- the same of an object
pub record FitsObject (n : Sizes) (object : HeapObject) : Type 0 where
  pub prototype : ForSome object.prototype (λ up. up.0 < n.objects)
  pub props : FitsProperties n object.props
  pub inner : FitsInner n object.inner

-- the same of a scope
pub record FitsScope (n : Sizes) (scope : Scope) : Type 0 where
  pub parent : ForSome scope.parent (λ up. up.0 < n.scopes)
  pub slots : AllByRecursion (FitsValue n) scope.slots

-- the same of a heap
pub record FitsHeap (heap : Heap) : Type 0 where
  pub objects : AllByRecursion (FitsObject (sizes heap)) heap.objects
  pub scopes : AllByRecursion (FitsScope (sizes heap)) heap.scopes
