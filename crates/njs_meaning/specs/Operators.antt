-- The operators over values that are no objects (ECMA-262 5.1 §11.4 to §11.10): a value or the cause of an error.
use Rattle.std.specs.Prelude.{ℕ, ◌-◌, ◌*◌, ◌^◌, ◌/◌, ◌%◌, List, ◌++◌, Bool, true, false, not, ◌&&◌, ◌||◌, nat_le, if◌then◌else◌, Option, Some, Result, Ok, Err, ℤ, pos, ◌+ℤ◌, ◌-ℤ◌, ◌*ℤ◌, neg_ℤ, int_div, int_rem, bit_and, bit_or, bit_xor, length, codes, bytes_eq}
use Rattle.std.specs.Cmp.Lexicographic.{slice_cmp}
use Rattle.std.specs.Int.{int_div_euclid}
use Rattle.std.specs.Option.{option_map, option_map_or, option_and_then}
use Rattle.std.specs.declared.cmp.Ordering.{Ordering}
use Rattle.std.specs.Ordering.{nat_cmp, int_cmp, int_eq, is_lt, is_gt, is_le, is_ge}
use Rattle.njs_tree.specs.declared.tree.BinaryOp.{BinaryOp}
use Rattle.njs_tree.specs.declared.tree.BinaryOp.TheVariants as binary
use Rattle.njs_tree.specs.declared.tree.UnaryOp.{UnaryOp}
use Rattle.njs_tree.specs.declared.tree.UnaryOp.TheVariants as unary
use Rattle.njs_value.specs.declared.Cause.{Cause}
use Rattle.njs_value.specs.declared.Cause.TheVariants.{NotFunction, NotObject, OutOfRange, Fraction, DivideByZero, NotNumber, TextTooLong}
use Rattle.njs_meaning.specs.Primitives.{Primitive, Undefined, Null, Truth, Number, Characters}
use Rattle.njs_meaning.specs.Numbers.{is_safe, boolean_of, number_of, text_of, unsigned_32, signed, signed_32}

-- a value or a cause
abbrev pub Answer : Type 0
Answer = Result Primitive Cause

-- a number that is to be safe
abbrev pub safe : ℤ → Answer
safe n = if is_safe n then Ok (Number n) else Err OutOfRange

-- the numbers of two values, where both have one
abbrev pub numbers_of : Primitive → Primitive → Option (ℤ × ℤ)
numbers_of left right = option_and_then (λ a. option_map (λ b. (a, b)) (number_of right)) (number_of left)

-- what a function of numbers gives
abbrev pub on_number : (ℤ → Answer) → Primitive → Answer
on_number f value = option_map_or f (number_of value) (Err NotNumber)

abbrev pub on_numbers : (ℤ → ℤ → Answer) → Primitive → Primitive → Answer
on_numbers f left right = option_map_or (λ p. f p.0 p.1) (numbers_of left right) (Err NotNumber)

-- ---- `+` (§11.6.1)

abbrev pub is_text : Primitive → Bool
is_text (Characters t) = true
is_text _ = false

-- two texts, one after the other
abbrev pub joined : List ℕ → List ℕ → Answer
joined a b = if nat_le (length (a ++ b)) 1048576 then Ok (Characters (a ++ b)) else Err TextTooLong

-- texts are joined where one of the values is a text, else numbers are added
abbrev pub sum : Primitive → Primitive → Answer
sum left right =
    if is_text left || is_text right then joined (text_of left) (text_of right)
    else on_numbers (λ a b. safe (a +ℤ b)) left right

-- ---- numbers

-- `/` (§11.5.2), where the quotient is whole
abbrev pub quotient : ℤ → ℤ → Answer
quotient a b =
    if int_eq b (pos 0) then Err DivideByZero
    else if int_eq (int_rem a b) (pos 0) then Ok (Number (int_div a b))
    else Err Fraction

-- `%` (§11.5.3): it has the sign of the dividend
abbrev pub remainder : ℤ → ℤ → Answer
remainder a b = if int_eq b (pos 0) then Err DivideByZero else Ok (Number (int_rem a b))

-- `&`, `^` and `|` (§11.10): a function of the bits of both
abbrev pub on_bits : (ℕ → ℕ → ℕ) → ℤ → ℤ → Answer
on_bits f a b = Ok (Number (signed (f (unsigned_32 a) (unsigned_32 b))))

-- how far a shift goes (§11.7): modulo 32
abbrev pub shift_count : ℤ → ℕ
shift_count n = unsigned_32 n % 32

-- `<<` (§11.7.1)
abbrev pub shifted_left : ℤ → ℤ → ℤ
shifted_left a b = signed (unsigned_32 a * 2 ^ shift_count b % 2 ^ 32)

-- `>>` (§11.7.2): the sign is kept
abbrev pub shifted_right : ℤ → ℤ → ℤ
shifted_right a b = int_div_euclid (signed_32 a) (pos (2 ^ shift_count b))

-- `>>>` (§11.7.3): zeros come in
abbrev pub shifted_right_unsigned : ℤ → ℤ → ℤ
shifted_right_unsigned a b = pos (unsigned_32 a / 2 ^ shift_count b)

-- ---- comparisons

-- how two values stand (§11.8.5): texts by their scalar values, else the numbers, if both have one
abbrev pub order_of : Primitive → Primitive → Option Ordering
order_of (Characters a) (Characters b) = Some (slice_cmp nat_cmp a b)
order_of left right = option_map (λ p. int_cmp p.0 p.1) (numbers_of left right)

-- a relation holds where they stand so
abbrev pub relation : (Ordering → Bool) → Primitive → Primitive → Answer
relation test left right = Ok (Truth (option_map_or test (order_of left right) false))

-- `===` (§11.9.6): of one type, and the same
abbrev pub is_identical : Primitive → Primitive → Bool
is_identical Undefined Undefined = true
is_identical Null Null = true
is_identical (Truth a) (Truth b) = if a then b else not b
is_identical (Number a) (Number b) = int_eq a b
is_identical (Characters a) (Characters b) = bytes_eq a b
is_identical _ _ = false

-- undefined and null
abbrev pub is_nothing : Primitive → Bool
is_nothing Undefined = true
is_nothing Null = true
is_nothing _ = false

-- the numbers are there and the same
abbrev pub has_same_number : Primitive → Primitive → Bool
has_same_number left right = option_map_or (λ p. int_eq p.0 p.1) (numbers_of left right) false

-- `==` (§11.9.3): undefined and null equal each other alone, texts are compared with texts, and all else by numbers
abbrev pub is_equal : Primitive → Primitive → Bool
is_equal (Characters a) (Characters b) = bytes_eq a b
is_equal left right =
    if is_nothing left || is_nothing right then is_nothing left && is_nothing right else has_same_number left right

-- ---- the tables

-- `typeof` (§11.4.3)
abbrev pub type_name : Primitive → List ℕ
type_name Undefined = codes "undefined"
type_name Null = codes "object"
type_name (Truth b) = codes "boolean"
type_name (Number n) = codes "number"
type_name (Characters t) = codes "string"

-- the operators of two values. `instanceof` wants a function on the right and `in` an object, and no value here is one
abbrev pub binary_of : BinaryOp → Primitive → Primitive → Answer
binary_of binary.BitOr left right = on_numbers (on_bits bit_or) left right
binary_of binary.BitXor left right = on_numbers (on_bits bit_xor) left right
binary_of binary.BitAnd left right = on_numbers (on_bits bit_and) left right
binary_of binary.Eq left right = Ok (Truth (is_equal left right))
binary_of binary.Ne left right = Ok (Truth (not (is_equal left right)))
binary_of binary.StrictEq left right = Ok (Truth (is_identical left right))
binary_of binary.StrictNe left right = Ok (Truth (not (is_identical left right)))
binary_of binary.Lt left right = relation is_lt left right
binary_of binary.Gt left right = relation is_gt left right
binary_of binary.Le left right = relation is_le left right
binary_of binary.Ge left right = relation is_ge left right
binary_of binary.InstanceOf left right = Err NotFunction
binary_of binary.In left right = Err NotObject
binary_of binary.Shl left right = on_numbers (λ a b. Ok (Number (shifted_left a b))) left right
binary_of binary.Shr left right = on_numbers (λ a b. Ok (Number (shifted_right a b))) left right
binary_of binary.UShr left right = on_numbers (λ a b. Ok (Number (shifted_right_unsigned a b))) left right
binary_of binary.Add left right = sum left right
binary_of binary.Sub left right = on_numbers (λ a b. safe (a -ℤ b)) left right
binary_of binary.Mul left right = on_numbers (λ a b. safe (a *ℤ b)) left right
binary_of binary.Div left right = on_numbers quotient left right
binary_of binary.Rem left right = on_numbers remainder left right

-- the operators of one value. `delete` of a value that is no member of an object gives true
abbrev pub unary_of : UnaryOp → Primitive → Answer
unary_of unary.Delete value = Ok (Truth true)
unary_of unary.Void value = Ok Undefined
unary_of unary.TypeOf value = Ok (Characters (type_name value))
unary_of unary.Plus value = on_number (λ n. Ok (Number n)) value
unary_of unary.Minus value = on_number (λ n. Ok (Number (neg_ℤ n))) value
unary_of unary.BitNot value = on_number (λ n. Ok (Number (signed (2 ^ 32 - 1 - unsigned_32 n)))) value
unary_of unary.Not value = Ok (Truth (not (boolean_of value)))
