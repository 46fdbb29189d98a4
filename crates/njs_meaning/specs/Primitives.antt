-- The values that are no objects, texts by their content (ECMA-262 5.1 §8.1 to §8.5).
use Rattle.std.specs.Prelude.{ℤ, List, ℕ, Bool}
use Rattle.njs_value.specs.Number.{IsSafe}

pub data Primitive : Type 0 where
  Undefined : Primitive
  Null : Primitive
  Truth : Bool → Primitive
  Number : ℤ → Primitive
  Characters : List ℕ → Primitive

-- a value whose number, where it is one, is safe
abbrev pub IsSafeValue : Primitive → Type 0
IsSafeValue Undefined = Unit {0}
IsSafeValue Null = Unit {0}
IsSafeValue (Truth b) = Unit {0}
IsSafeValue (Number n) = IsSafe n
IsSafeValue (Characters t) = Unit {0}
