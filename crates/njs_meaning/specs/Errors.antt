-- The prototypes of the first heap, and the errors that are thrown (ECMA-262 5.1 §15.11).
use Rattle.std.specs.Prelude.{ℕ, List, [], ◌∷◌, ◌++◌, length, take, Option, Some, None, true, false, codes}
use Rattle.njs_value.specs.declared.Cause.{Cause}
use Rattle.njs_value.specs.declared.Cause.TheVariants as cause
use Rattle.njs_value.specs.declared.Class.TheVariants as class
use Rattle.njs_value.specs.declared.Flags.{Flags}
use Rattle.njs_value.specs.declared.TextId.{TextId}
use Rattle.njs_meaning.specs.declared.prototypes.Prototype.{Prototype}
use Rattle.njs_meaning.specs.declared.prototypes.Prototype.TheVariants as prototype
use Rattle.njs_meaning.specs.Primitives.{Characters}
use Rattle.njs_meaning.specs.Values.{Simple, ObjectAt}
use Rattle.njs_meaning.specs.PlainHeap.{PlainObject, Plain}
use Rattle.njs_meaning.specs.State.{State, Outcome, Throws}

-- the number of a prototype in the first heap
abbrev pub place_of : Prototype → ℕ
place_of prototype.Object = 0
place_of prototype.Function = 1
place_of prototype.Array = 2
place_of prototype.String = 3
place_of prototype.Number = 4
place_of prototype.Boolean = 5
place_of prototype.Error = 6
place_of prototype.TypeError = 7
place_of prototype.RangeError = 8
place_of prototype.ReferenceError = 9
place_of prototype.SyntaxError = 10
place_of prototype.UriError = 11
place_of prototype.SharedMemoryError = 12

-- how many objects the first heap has
abbrev pub first_count : ℕ
first_count = 13

-- the prototype of an error's objects
abbrev pub prototype_of : Cause → Prototype
prototype_of (cause.NotDefined name) = prototype.ReferenceError
prototype_of cause.NotFunction = prototype.TypeError
prototype_of cause.NotConstructor = prototype.TypeError
prototype_of cause.NullBase = prototype.TypeError
prototype_of cause.NotObject = prototype.TypeError
prototype_of cause.ReadOnly = prototype.TypeError
prototype_of cause.NotExtensible = prototype.TypeError
prototype_of cause.NotConfigurable = prototype.TypeError
prototype_of cause.WrongReceiver = prototype.TypeError
prototype_of cause.WrongArgument = prototype.TypeError
prototype_of cause.NoPrimitive = prototype.TypeError
prototype_of cause.Circular = prototype.TypeError
prototype_of cause.EmptyReduce = prototype.TypeError
prototype_of cause.ResponseState = prototype.TypeError
prototype_of cause.BadField = prototype.TypeError
prototype_of cause.OutOfRange = prototype.RangeError
prototype_of cause.Fraction = prototype.RangeError
prototype_of cause.DivideByZero = prototype.RangeError
prototype_of cause.NotNumber = prototype.RangeError
prototype_of cause.CallDepth = prototype.RangeError
prototype_of cause.TextTooLong = prototype.RangeError
prototype_of cause.BadLength = prototype.RangeError
prototype_of cause.BadArgument = prototype.RangeError
prototype_of cause.TooNested = prototype.RangeError
prototype_of cause.BadJson = prototype.SyntaxError
prototype_of cause.BadUri = prototype.UriError
prototype_of cause.NoRoom = prototype.SharedMemoryError

-- the name that a cause holds
abbrev pub name_of : Cause → Option TextId
name_of (cause.NotDefined name) = Some name
name_of _ = None

-- the message of a name that stands for nothing; of a long name the front is taken
abbrev pub named_message : List ℕ → List ℕ
named_message name = (codes "\"" ++ take 1048000 name) ++ codes "\" is not defined"

-- the message of an error, where a name has this content
abbrev pub message_of : (TextId → List ℕ) → Cause → List ℕ
message_of content (cause.NotDefined name) = named_message (content name)
message_of content cause.NotFunction = codes "not a function"
message_of content cause.NotConstructor = codes "not a constructor"
message_of content cause.NullBase = codes "no properties"
message_of content cause.NotObject = codes "not an object"
message_of content cause.ReadOnly = codes "read-only"
message_of content cause.NotExtensible = codes "not extensible"
message_of content cause.NotConfigurable = codes "not configurable"
message_of content cause.WrongReceiver = codes "wrong receiver"
message_of content cause.WrongArgument = codes "wrong argument"
message_of content cause.NoPrimitive = codes "no primitive value"
message_of content cause.Circular = codes "circular"
message_of content cause.EmptyReduce = codes "empty"
message_of content cause.ResponseState = codes "response state"
message_of content cause.BadField = codes "header field"
message_of content cause.OutOfRange = codes "out of range"
message_of content cause.Fraction = codes "fraction"
message_of content cause.DivideByZero = codes "division by zero"
message_of content cause.NotNumber = codes "not a number"
message_of content cause.CallDepth = codes "call depth"
message_of content cause.TextTooLong = codes "text too long"
message_of content cause.BadLength = codes "array length"
message_of content cause.BadArgument = codes "argument range"
message_of content cause.TooNested = codes "nesting"
message_of content cause.BadJson = codes "bad JSON"
message_of content cause.BadUri = codes "bad URI"
message_of content cause.NoRoom = codes "no room"

-- writable and configurable (§15)
abbrev pub hidden : Flags
hidden = record { writable = true; enumerable = false; configurable = true }

-- a new error with a message (§15.11.2)
abbrev pub error_with : Prototype → List ℕ → PlainObject
error_with up message = record {
  class = class.Error;
  prototype = Some (record { 0 = place_of up });
  extensible = true;
  props = (codes "message", record { value = Simple (Characters message); flags = hidden }) ∷ [];
  inner = Plain;
}

-- an error of a cause is thrown
abbrev pub throw_with : {A : Type 0} → (TextId → List ℕ) → Cause → State → Outcome A
throw_with content cause s =
    Throws (ObjectAt (length s.objects)) (record s { objects = s.objects ++ error_with (prototype_of cause) (message_of content cause) ∷ [] })

-- the same of a cause that holds no name
abbrev pub throw : {A : Type 0} → Cause → State → Outcome A
throw cause s = throw_with (λ name. []) cause s
