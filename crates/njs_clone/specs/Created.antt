-- Objects that come with their properties.
use Rattle.std.specs.Prelude.{ℕ, List, [], ◌∷◌, ◌++◌, Option, true}
use Rattle.njs_value.specs.declared.Class.{Class}
use Rattle.njs_value.specs.declared.ObjId.{ObjId}
use Rattle.njs_value.specs.declared.Value.{Value}
use Rattle.njs_props.specs.declared.map.Property.{Property}
use Rattle.njs_shared.specs.declared.object.Inner.{Inner}
use Rattle.njs_shared.specs.Heap.{HeapObject}

-- an object with these properties, which takes new ones
abbrev pub object_of : Class → Option ObjId → List (List ℕ × Property Value) → Inner → HeapObject
object_of class prototype props inner = record { class = class; prototype = prototype; extensible = true; props = props; inner = inner }

-- the objects with such a one behind them
abbrev pub with_object_of : Class → Option ObjId → List (List ℕ × Property Value) → Inner → List HeapObject → List HeapObject
with_object_of class prototype props inner objects = objects ++ object_of class prototype props inner ∷ []
