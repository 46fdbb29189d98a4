-- The input elements of a text (ECMA-262 5.1 §7): white space and comments, words, numbers, strings and marks. A text is a list of
-- scalar values.
use Rattle.std.specs.Prelude.{ℕ, zero, suc, ◌+◌, ◌-◌, ◌*◌, ◌^◌, List, [], ◌∷◌, ◌++◌, take, drop, Bool, true, false, not, ◌&&◌, ◌||◌, nat_lt, ◌==◌, if◌then◌else◌, Option, Some, None, Result, Ok, Err, option_map}
use Rattle.std.specs.List.{list_all}
use Rattle.std.specs.Char.{is_digit, digit_value}
use Rattle.std.specs.Char.Utf16.{is_high_surrogate, is_low_surrogate, surrogate_pair_char}
use Rattle.std.specs.Str.Parse.{digits_value}
use Rattle.njs_tree.specs.declared.token.LexFault.{LexFault}
use Rattle.njs_tree.specs.declared.token.LexFault.TheVariants as fault
use Rattle.njs_tree.specs.declared.token.Mark.{Mark}
use Rattle.njs_tree.specs.Characters.{is_line_end, is_white, is_letter, is_part, begins}
use Rattle.njs_tree.specs.Names.{is_word}
use Rattle.njs_tree.specs.Lexemes.{Lexeme, word, mark_of}

-- a decimal digit, and a hexadecimal one
abbrev pub is_decimal : ℕ → Bool
is_decimal c = is_digit c 10

abbrev pub is_hex : ℕ → Bool
is_hex c = is_digit c 16

-- `"` and `'`
abbrev pub is_quote : ℕ → Bool
is_quote c = c == 34 || c == 39

-- how many characters at the front pass a test
abbrev pub front_length : (ℕ → Bool) → List ℕ → ℕ
front_length test [] = 0
front_length test (c ∷ s) = if test c then front_length test s + 1 else 0

-- ---- white space and comments (§7.2, §7.3, §7.4)

-- the length up to the line end
abbrev pub line_length : List ℕ → ℕ
line_length text = front_length (λ c. not (is_line_end c)) text

-- the length up to and with the next `*/`
abbrev pub block_length : List ℕ → Option ℕ
block_length [] = None
block_length (c ∷ s) = if c == 42 && begins (λ d. d == 47) s then Some 2 else option_map (λ n. n + 1) (block_length s)

abbrev pub closed_length : Option ℕ → ℕ
closed_length None = 0
closed_length (Some n) = n + 2

-- after a `/`: the length of the comment with it, or 0 where none is closed here
abbrev pub comment_length : List ℕ → ℕ
comment_length [] = 0
comment_length (c ∷ s) = if c == 47 then line_length s + 2 else if c == 42 then closed_length (block_length s) else 0

-- the length of the white space, line end or comment that begins the text, or 0
abbrev pub blank_length : List ℕ → ℕ
blank_length [] = 0
blank_length (c ∷ s) = if is_white c then 1 else if c == 47 then comment_length s else 0

abbrev pub is_missing : Option ℕ → Bool
is_missing None = true
is_missing (Some n) = false

-- after a `/`: whether a comment begins that no `*/` closes
abbrev pub opens_comment : List ℕ → Bool
opens_comment [] = false
opens_comment (c ∷ s) = c == 42 && is_missing (block_length s)

-- ---- numbers (§7.8.3, whole ones alone)

-- after a 0: `x` or `X` and a hexadecimal digit
abbrev pub is_hex_start : List ℕ → Bool
is_hex_start [] = false
is_hex_start (x ∷ s) = (x == 120 || x == 88) && begins is_hex s

-- a whole text that is a number: `0`, or a digit 1 to 9 and further ones, or `0x` and hexadecimal digits
abbrev pub is_number : List ℕ → Bool
is_number [] = false
is_number (c ∷ []) = is_decimal c
is_number (c ∷ d ∷ s) = if c == 48 then is_hex_start (d ∷ s) && list_all is_hex s else list_all is_decimal (c ∷ d ∷ s)

-- and its value
abbrev pub number_value : List ℕ → ℕ
number_value [] = 0
number_value (c ∷ s) = if c == 48 then digits_value 16 (drop 1 s) else digits_value 10 (c ∷ s)

-- after a 0, the length of the number with it
abbrev pub zero_length : List ℕ → ℕ
zero_length s = if is_hex_start s then front_length is_hex (drop 1 s) + 2 else 1

-- the length of the longest number that begins the text
abbrev pub number_length : List ℕ → ℕ
number_length [] = 0
number_length (c ∷ s) = if c == 48 then zero_length s else front_length is_decimal (c ∷ s)

abbrev pub max_number : ℕ
max_number = 2 ^ 53 - 1

-- what may not follow a number: a letter or digit, also the `x` of a `0x` without digits, and a point
abbrev pub spoils_number : ℕ → Bool
spoils_number c = is_part c || c == 46

abbrev pub is_bad_number : List ℕ → ℕ → Bool
is_bad_number text n = begins spoils_number (drop n text) || nat_lt max_number (number_value (take n text))

-- ---- strings (§7.8.4)

-- what the character after a backslash stands for
abbrev pub escaped : ℕ → ℕ
escaped c = if c == 98 then 8 else if c == 116 then 9 else if c == 110 then 10 else if c == 118 then 11 else if c == 102 then 12 else if c == 114 then 13 else c

-- the value of so many hexadecimal digits, after those of a value
abbrev pub hex_from : ℕ → ℕ → List ℕ → Option ℕ
hex_from value zero text = Some value
hex_from value (suc n) [] = None
hex_from value (suc n) (c ∷ s) = if is_hex c then hex_from (value * 16 + digit_value c) n s else None

abbrev pub hex_value : ℕ → List ℕ → Option ℕ
hex_value n text = hex_from 0 n text

-- An escape is given by what it stands for, and its length without the backslash.
abbrev pub hex_escape : Option ℕ → Option (List ℕ × ℕ)
hex_escape None = None
hex_escape (Some value) = Some (value ∷ [], 3)

abbrev pub pair_escape : ℕ → Option ℕ → Option (List ℕ × ℕ)
pair_escape high None = None
pair_escape high (Some low) = if is_low_surrogate low then Some (surrogate_pair_char high low ∷ [], 11) else None

-- the code unit of a `\u` and four digits
abbrev pub second_unit : List ℕ → Option ℕ
second_unit [] = None
second_unit (c ∷ s) = if c == 92 && begins (λ d. d == 117) s then hex_value 4 (drop 1 s) else None

-- a high surrogate and a low one at once after it are one character, and neither stands alone
abbrev pub unit_escape : Option ℕ → List ℕ → Option (List ℕ × ℕ)
unit_escape None after = None
unit_escape (Some unit) after =
    if is_high_surrogate unit then pair_escape unit (second_unit after) else if is_low_surrogate unit then None else Some (unit ∷ [], 5)

-- the escape that begins a text after its backslash
abbrev pub escape_at : List ℕ → Option (List ℕ × ℕ)
escape_at [] = None
escape_at (c ∷ s) =
    if c == 117 then unit_escape (hex_value 4 s) (drop 4 s)
    else if c == 120 then hex_escape (hex_value 2 s)
    else if c == 48 then (if begins is_decimal s then None else Some (0 ∷ [], 1))
    else if is_decimal c then None
    else if is_line_end c then Some ([], if c == 13 && begins (λ d. d == 10) s then 2 else 1)
    else Some (escaped c ∷ [], 1)

-- one character more, which stands for these
abbrev pub one_more : List ℕ → Result (List ℕ × ℕ) LexFault → Result (List ℕ × ℕ) LexFault
one_more stands (Err f) = Err f
one_more stands (Ok found) = Ok (stands ++ found.0, found.1 + 1)

abbrev pub after_escape : Option (List ℕ × ℕ) → List ℕ → (ℕ → Result (List ℕ × ℕ) LexFault) → Result (List ℕ × ℕ) LexFault
after_escape None [] rest = Err fault.OpenText
after_escape None (c ∷ s) rest = Err fault.BadEscape
after_escape (Some escape) text rest = one_more escape.0 (rest escape.1)

-- After the opening quote, past so many characters of an escape: what the string stands for, and its length with the closing quote;
-- or the first fault. A line end or the end of the text inside is `OpenText`.
abbrev pub string_from : ℕ → List ℕ → ℕ → Result (List ℕ × ℕ) LexFault
string_from quote [] skip = Err fault.OpenText
string_from quote (c ∷ s) (suc skip) = one_more [] (string_from quote s skip)
string_from quote (c ∷ s) zero =
    if c == quote then Ok ([], 1)
    else if is_line_end c then Err fault.OpenText
    else if c == 92 then after_escape (escape_at s) s (string_from quote s)
    else one_more (c ∷ []) (string_from quote s 0)

-- ---- tokens and faults

abbrev pub string_of_length : ℕ → Result (List ℕ × ℕ) LexFault → Option Lexeme
string_of_length n (Err f) = None
string_of_length n (Ok found) = if found.1 + 1 == n then Some (Lexeme.string found.0) else None

abbrev pub word_lexeme : List ℕ → Option Lexeme
word_lexeme slice = if is_word slice then Some (word slice) else None

abbrev pub number_lexeme : List ℕ → Option Lexeme
number_lexeme slice = if is_number slice then Some (Lexeme.number (number_value slice)) else None

abbrev pub mark_lexeme : List ℕ → Option Lexeme
mark_lexeme slice = option_map Lexeme.mark (mark_of slice)

-- what the first n characters of the text are, if they are a word, a number, a string or a mark
abbrev pub lexeme_at : ℕ → List ℕ → Option Lexeme
lexeme_at n [] = None
lexeme_at n (c ∷ s) =
    if is_letter c then word_lexeme (take n (c ∷ s))
    else if is_decimal c then number_lexeme (take n (c ∷ s))
    else if is_quote c then string_of_length n (string_from c s 0)
    else mark_lexeme (take n (c ∷ s))

abbrev pub string_fault : Result (List ℕ × ℕ) LexFault → Option LexFault
string_fault (Ok found) = None
string_fault (Err f) = Some f

abbrev pub fault_if : Bool → LexFault → Option LexFault
fault_if test f = if test then Some f else None

-- a character that begins no token
abbrev pub byte_fault : Option Mark → Option LexFault
byte_fault None = Some fault.BadByte
byte_fault (Some m) = None

-- the fault at a place where a token should begin, or none
abbrev pub fault_at : List ℕ → Option LexFault
fault_at [] = None
fault_at (c ∷ s) =
    if is_letter c then None
    else if is_decimal c then fault_if (is_bad_number (c ∷ s) (number_length (c ∷ s))) fault.BadNumber
    else if is_quote c then string_fault (string_from c s 0)
    else if c == 46 then fault_if (begins is_decimal s) fault.BadNumber
    else if c == 47 then fault_if (opens_comment s) fault.OpenComment
    else byte_fault (mark_of (c ∷ []))
