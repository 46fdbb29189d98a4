-- The heap that every run begins with: the prototypes of the language's objects (ECMA-262 5.1 §15), and the outermost scope
-- with the global names.
use Rattle.std.specs.Prelude.{◌≡◌, ℕ, List, [], ◌∷◌, ◌++◌, map, length, Option, Some, None, Bool, true, false, codes, slice_get}
use Rattle.std.specs.Option.{option_map}
use Rattle.njs_value.specs.declared.Class.{Class}
use Rattle.njs_value.specs.declared.Class.TheVariants as class
use Rattle.njs_value.specs.declared.ObjId.{ObjId}
use Rattle.njs_value.specs.declared.ScopeId.{ScopeId}
use Rattle.njs_props.specs.declared.map.Property.{Property}
use Rattle.njs_shared.specs.declared.object.Scope.{Scope}
use Rattle.njs_shared.specs.Heap.{Heap}
use Rattle.njs_clone.specs.Content.{content}
use Rattle.njs_clone.specs.StandsFor.{plain_objects}
use Rattle.njs_meaning.specs.declared.prototypes.Prototype.{Prototype}
use Rattle.njs_meaning.specs.declared.prototypes.Prototype.TheVariants as prototype
use Rattle.njs_meaning.specs.Primitives.{Undefined, Characters}
use Rattle.njs_meaning.specs.Values.{PlainValue, Simple, length_value}
use Rattle.njs_meaning.specs.PlainHeap.{PlainHeap, PlainObject, PlainScope, Variable, Plain}
use Rattle.njs_meaning.specs.Objects.{first_props}
use Rattle.njs_meaning.specs.Errors.{place_of, first_count, hidden}

-- ---- objects

-- the number of a prototype, as an object's own prototype
abbrev pub object_of : Prototype → ObjId
object_of p = record { 0 = place_of p }

-- an object of this class and with this prototype, which takes new properties
abbrev pub prototype_object : Class → Option Prototype → List (List ℕ × Property PlainValue) → PlainObject
prototype_object class up props = record {
  class = class;
  prototype = option_map object_of up;
  extensible = true;
  props = props;
  inner = Plain;
}

-- a text as a property of a prototype: writable and configurable, and not enumerable (§15)
abbrev pub text_property : List ℕ → List ℕ → List ℕ × Property PlainValue
text_property name text = (name, record { value = Simple (Characters text); flags = hidden })

-- the prototype of the errors with a name (§15.11.4, §15.11.7.7)
abbrev pub error_prototype : Prototype → List ℕ → PlainObject
error_prototype up name = prototype_object class.Error (Some up) (text_property (codes "name") name ∷ text_property (codes "message") [] ∷ [])

-- each prototype
abbrev pub first_object : Prototype → PlainObject
first_object prototype.Object = prototype_object class.Object None []
first_object prototype.Function = prototype_object class.Object (Some prototype.Object) []
first_object prototype.Array = prototype_object class.Array (Some prototype.Object) (first_props length_value class.Array)
first_object prototype.String = prototype_object class.Object (Some prototype.Object) []
first_object prototype.Number = prototype_object class.Object (Some prototype.Object) []
first_object prototype.Boolean = prototype_object class.Object (Some prototype.Object) []
first_object prototype.Error = error_prototype prototype.Object (codes "Error")
first_object prototype.TypeError = error_prototype prototype.Error (codes "TypeError")
first_object prototype.RangeError = error_prototype prototype.Error (codes "RangeError")
first_object prototype.ReferenceError = error_prototype prototype.Error (codes "ReferenceError")
first_object prototype.SyntaxError = error_prototype prototype.Error (codes "SyntaxError")
first_object prototype.UriError = error_prototype prototype.Error (codes "URIError")
first_object prototype.SharedMemoryError = error_prototype prototype.Error (codes "SharedMemoryError")

-- the prototypes in the order of their places
abbrev pub prototypes : List Prototype
prototypes =
    prototype.Object ∷ prototype.Function ∷ prototype.Array ∷ prototype.String ∷ prototype.Number ∷ prototype.Boolean ∷ prototype.Error
    ∷ prototype.TypeError ∷ prototype.RangeError ∷ prototype.ReferenceError ∷ prototype.SyntaxError ∷ prototype.UriError ∷ prototype.SharedMemoryError ∷ []

abbrev pub first_objects : List PlainObject
first_objects = map first_object prototypes

-- each prototype stands at its place, and nothing else is there
pub record HavePlaces (objects : List PlainObject) : Type 0 where
  pub at : (p : Prototype) → slice_get objects (place_of p) ≡ Some (first_object p)
  pub count : length objects ≡ first_count

-- ---- the outermost scope

-- the global names (§15.1)
abbrev pub global_variables : List Variable
global_variables = record { name = codes "undefined"; value = Simple Undefined; assignable = false } ∷ []

-- a further name of the outermost scope, with whether it can be assigned
abbrev pub further_variable : List ℕ × Bool → Variable
further_variable n = record { name = n.0; value = Simple Undefined; assignable = n.1 }

abbrev pub first_scope : List (List ℕ × Bool) → PlainScope
first_scope further = record { parent = None; variables = global_variables ++ map further_variable further }

-- ---- the whole, with these further names

abbrev pub first_heap : List (List ℕ × Bool) → PlainHeap
first_heap further = record { objects = first_objects; scopes = first_scope further ∷ [] }

-- a scope by content, and one whose variables are read without their names
abbrev pub slots_of : List (List ℕ) → Scope → Option ScopeId × List PlainValue
slots_of texts s = (s.parent, map (content texts) s.slots)

abbrev pub nameless : PlainScope → Option ScopeId × List PlainValue
nameless s = (s.parent, map (λ v. v.value) s.variables)

-- a heap with numbered texts and slots stands for a plain heap: the same objects and scopes, place by place and slot by slot
pub record StandsFor (heap : Heap) (plain : PlainHeap) : Type 0 where
  pub objects : plain_objects heap ≡ plain.objects
  pub scopes : map (slots_of heap.texts) heap.scopes ≡ map nameless plain.scopes
