-- The objects of requests: their prototype with its methods, and the request itself.
use Rattle.std.specs.Prelude.{ℕ, pos, List, [], ◌∷◌, ◌++◌, length, Some, true, codes}
use Rattle.njs_value.specs.declared.Class.TheVariants as class
use Rattle.njs_value.specs.declared.ObjId.{ObjId}
use Rattle.njs_value.specs.declared.Row.{Row}
use Rattle.njs_value.specs.declared.Value.{Value}
use Rattle.njs_value.specs.declared.Value.TheVariants as value
use Rattle.njs_props.specs.declared.map.Property.{Property}
use Rattle.njs_props.specs.Names.{length_name}
use Rattle.njs_meaning.specs.declared.prototypes.Prototype.TheVariants as prototype
use Rattle.njs_meaning.specs.Values.{ObjectAt, length_value}
use Rattle.njs_meaning.specs.PlainHeap.{PlainObject, Plain, BuiltIn}
use Rattle.njs_meaning.specs.Errors.{hidden}
use Rattle.njs_meaning.specs.Functions.{object_with, no_flags}
use Rattle.njs_request.specs.Rows.{return_row}

-- a built-in function: it has a `length`, the number of its parameters that can't be left out, and no `prototype` (ECMA-262 5.1
-- §15)
abbrev pub built_in : Row → ℕ → PlainObject
built_in row params =
    object_with class.Function prototype.Function ((length_name, record { value = length_value params; flags = no_flags }) ∷ []) (BuiltIn row)

-- the prototype of requests, where the function `return` has this number
abbrev pub request_prototype : ℕ → PlainObject
request_prototype function =
    object_with class.Object prototype.Object ((codes "return", record { value = ObjectAt function; flags = hidden }) ∷ []) Plain

-- the objects with the methods of requests and then their prototype behind them
abbrev pub with_prototype : List PlainObject → List PlainObject
with_prototype objects = (objects ++ built_in return_row 1 ∷ []) ++ request_prototype (length objects) ∷ []

-- a request, below a prototype
abbrev pub request : ObjId → PlainObject
request up = record { class = class.Request; prototype = Some up; extensible = true; props = []; inner = Plain }

-- the objects with a request behind them
abbrev pub with_request : ObjId → List PlainObject → List PlainObject
with_request up objects = objects ++ request up ∷ []

-- the properties of both, as a heap holds them
abbrev pub length_props : ℕ → List (List ℕ × Property Value)
length_props params = (length_name, record { value = value.Num (pos params); flags = no_flags }) ∷ []

abbrev pub prototype_props : ObjId → List (List ℕ × Property Value)
prototype_props function = (codes "return", record { value = value.Obj function; flags = hidden }) ∷ []
