-- Values by content (ECMA-262 5.1 §8), and the lengths of arrays that they give (§15.4.5.1).
use Rattle.std.specs.Prelude.{ℕ, ℤ, pos, negsuc, Bool, false, ◌==◌, nat_lt, Option, Some, None, if◌then◌else◌}
use Rattle.std.specs.Option.{option_and_then, option_map_or}
use Rattle.njs_meaning.specs.Primitives.{Primitive, Number}
use Rattle.njs_meaning.specs.Numbers.{number_of}
use Rattle.njs_meaning.specs.Operators.{is_identical}

-- a value that is no object, or an object by its number
pub data PlainValue : Type 0 where
  Simple : Primitive → PlainValue
  ObjectAt : ℕ → PlainValue

-- whether two values are the same (§9.12): texts by content, and objects by number
abbrev pub is_same : PlainValue → PlainValue → Bool
is_same (Simple a) (Simple b) = is_identical a b
is_same (ObjectAt a) (ObjectAt b) = a == b
is_same a b = false

-- a number from 0 to 2^32 - 1 is a length of an array (§15.4.2.2)
abbrev pub length_from : ℤ → Option ℕ
length_from (pos n) = if nat_lt n 4294967296 then Some n else None
length_from (negsuc n) = None

-- the length that a value gives an array: that of its number. An object gives none
abbrev pub given_length : PlainValue → Option ℕ
given_length (Simple p) = option_and_then length_from (number_of p)
given_length (ObjectAt o) = None

-- the length that an array has by the value of its `length`, which is always a number
abbrev pub stored_length : PlainValue → ℕ
stored_length (Simple (Number n)) = option_map_or (λ length. length) (length_from n) 0
stored_length v = 0

-- a length as a value
abbrev pub length_value : ℕ → PlainValue
length_value n = Simple (Number (pos n))
