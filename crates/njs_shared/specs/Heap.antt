-- A heap with numbered texts: lists of objects, scopes and texts (ECMA-262 5.1 §8.6, §10.2).
use Rattle.std.specs.Prelude.{ℕ, List, length}
use Rattle.njs_value.specs.declared.Value.{Value}
use Rattle.njs_value.specs.Object.{Object}
use Rattle.njs_props.specs.declared.map.Property.{Property}
use Rattle.njs_shared.specs.declared.object.Inner.{Inner}
use Rattle.njs_shared.specs.declared.object.Scope.{Scope}

-- an object whose values hold the numbers of texts
abbrev pub HeapObject : Type 0
HeapObject = Object (Property Value) Inner

pub record Heap : Type 0 where
  pub objects : List (Object (Property Value) Inner)
  pub scopes : List Scope
  pub texts : List (List ℕ)

-- how many objects, scopes and texts there are
pub record Sizes : Type 0 where
  pub objects : ℕ
  pub scopes : ℕ
  pub texts : ℕ

abbrev pub sizes : Heap → Sizes
sizes heap = record { objects = length heap.objects; scopes = length heap.scopes; texts = length heap.texts }
