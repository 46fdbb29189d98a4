-- What values stand for as truth values, numbers and texts (ECMA-262 5.1 §9), for values that are no objects.
use Rattle.std.specs.Prelude.{ℕ, ◌==◌, List, [], ◌∷◌, Bool, false, ◌&&◌, ◌||◌, nat_lt, nat_le, if◌then◌else◌, Option, Some, None, ℤ, pos, ◌-ℤ◌, neg_ℤ, unsigned_abs, length, reverse, drop, codes}
use Rattle.std.specs.Char.{is_digit}
use Rattle.std.specs.Fmt.{signed_decimal}
use Rattle.std.specs.Int.{int_rem_euclid}
use Rattle.std.specs.List.{list_all}
use Rattle.std.specs.Option.{option_map}
use Rattle.std.specs.Str.Parse.{digits_value}
use Rattle.njs_tree.specs.Characters.{is_white, begins}
use Rattle.njs_meaning.specs.Primitives.{Primitive, Undefined, Null, Truth, Number, Characters}

-- the largest number, 2^53 - 1 (§8.5)
abbrev pub max_safe : ℕ
max_safe = 9007199254740991

-- a number within plus or minus 2^53 - 1
abbrev pub is_safe : ℤ → Bool
is_safe n = nat_le (unsigned_abs n) max_safe

-- ---- texts to numbers (§9.3.1)

-- a text from its first character on that is neither white space nor a line end
abbrev pub without_front : List ℕ → List ℕ
without_front [] = []
without_front (c ∷ s) = if is_white c then without_front s else c ∷ s

-- a text without the white space and line ends at its two ends
abbrev pub trimmed : List ℕ → List ℕ
trimmed text = reverse (without_front (reverse (without_front text)))

-- one or more digits, and nothing else
abbrev pub is_numeral : ℕ → List ℕ → Bool
is_numeral radix digits = nat_lt 0 (length digits) && list_all (λ c. is_digit c radix) digits

-- the number that digits spell, if it is safe
abbrev pub numeral : ℕ → List ℕ → Option ℕ
numeral radix digits =
    if is_numeral radix digits && nat_le (digits_value radix digits) max_safe then Some (digits_value radix digits) else None

-- `x` and `X`
abbrev pub is_x : ℕ → Bool
is_x c = c == 120 || c == 88

-- nothing, a sign and decimal digits, `0x` and hexadecimal digits, or decimal digits
abbrev pub literal : List ℕ → Option ℤ
literal [] = Some (pos 0)
literal (c ∷ s) =
    if c == 43 then option_map pos (numeral 10 s)
    else if c == 45 then option_map (λ n. neg_ℤ (pos n)) (numeral 10 s)
    else if c == 48 && begins is_x s then option_map pos (numeral 16 (drop 1 s))
    else option_map pos (numeral 10 (c ∷ s))

-- the number of a text, if it has one
abbrev pub number_of_text : List ℕ → Option ℤ
number_of_text text = literal (trimmed text)

-- ---- values to truth values, numbers and texts

-- ToBoolean (§9.2)
abbrev pub boolean_of : Primitive → Bool
boolean_of Undefined = false
boolean_of Null = false
boolean_of (Truth b) = b
boolean_of (Number n) = nat_lt 0 (unsigned_abs n)
boolean_of (Characters t) = nat_lt 0 (length t)

-- ToNumber (§9.3): some values have no number
abbrev pub number_of : Primitive → Option ℤ
number_of Undefined = None
number_of Null = Some (pos 0)
number_of (Truth b) = Some (pos (if b then 1 else 0))
number_of (Number n) = Some n
number_of (Characters t) = number_of_text t

-- ToString (§9.8): a number in decimal digits, with `-` before a negative one
abbrev pub text_of : Primitive → List ℕ
text_of Undefined = codes "undefined"
text_of Null = codes "null"
text_of (Truth b) = if b then codes "true" else codes "false"
text_of (Number n) = signed_decimal n
text_of (Characters t) = t

-- ---- numbers in 32 bits

-- ToUint32 (§9.6): modulo 2^32
abbrev pub unsigned_32 : ℤ → ℕ
unsigned_32 n = unsigned_abs (int_rem_euclid n (pos 4294967296))

-- the signed number with these 32 bits: from 2^31 on it is negative
abbrev pub signed : ℕ → ℤ
signed k = if nat_lt k 2147483648 then pos k else pos k -ℤ pos 4294967296

-- ToInt32 (§9.5)
abbrev pub signed_32 : ℤ → ℤ
signed_32 n = signed (unsigned_32 n)
