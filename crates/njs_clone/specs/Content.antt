-- Values with numbered texts, read by content.
use Rattle.std.specs.Prelude.{ℕ, pos, List, [], slice_index_or, Option, Some, None, Bool}
use Rattle.std.specs.Option.{option_map_or}
use Rattle.njs_value.specs.declared.Value.{Value}
use Rattle.njs_value.specs.declared.Value.TheVariants as value
use Rattle.njs_meaning.specs.Primitives.{Undefined, Null, Truth, Number, Characters}
use Rattle.njs_meaning.specs.Values.{PlainValue, Simple, ObjectAt, is_same, length_from, given_length}

-- a value by content, where the texts are these
abbrev pub content : List (List ℕ) → Value → PlainValue
content texts value.Undefined = Simple Undefined
content texts value.Null = Simple Null
content texts (value.Bool b) = Simple (Truth b)
content texts (value.Num n) = Simple (Number n)
content texts (value.Str t) = Simple (Characters (slice_index_or texts t.0 []))
content texts (value.Obj o) = ObjectAt o.0

-- whether two values are the same
abbrev pub same_value : List (List ℕ) → Value → Value → Bool
same_value texts a b = is_same (content texts a) (content texts b)

-- the length that a value gives an array
abbrev pub given : List (List ℕ) → Value → Option ℕ
given texts v = given_length (content texts v)

-- the length that an array has by the value of its `length`, which is always a number
abbrev pub stored : Value → ℕ
stored value.Undefined = 0
stored value.Null = 0
stored (value.Bool b) = 0
stored (value.Num n) = option_map_or (λ length. length) (length_from n) 0
stored (value.Str t) = 0
stored (value.Obj o) = 0

-- a length as a value
abbrev pub written : ℕ → Value
written n = value.Num (pos n)
