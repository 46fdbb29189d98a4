-- What the steps over a text answer. A text is its characters.
use Rattle.std.specs.Prelude.{◌≡◌, ℕ, ◌+◌, ◌^◌, min, ◌≤◌, Bool, ◌&&◌, ◌==◌, if◌then◌else◌, List, [], ◌∷◌, length, take, drop, Option, Some, None, Ok, bytes_eq}
use Rattle.std.specs.Char.{is_digit, digit_value}
use Rattle.std.specs.Char.Utf16.{is_low_surrogate}
use Rattle.std.specs.Str.Parse.{digits_value}
use Rattle.njs_tree.specs.declared.token.LexFault.{LexFault}
use Rattle.njs_tree.specs.declared.token.LexFault.TheVariants as fault
use Rattle.njs_tree.specs.declared.token.Kind.{Kind}
use Rattle.njs_tree.specs.declared.token.Mark.{Mark}
use Rattle.njs_tree.specs.Lexemes.{Lexeme, mark_text}
use Rattle.njs_tree.specs.Characters.{begins, line_ends}
use Rattle.njs_tree.specs.Lexical.{blank_length, front_length, escape_at, string_from}
use Rattle.njs_tree.specs.TokenList.{Blanks, IsNext, kind_of}

-- of a text so many characters were passed over, in which so many lines ended
pub record IsPast (i : List ℕ) (n : ℕ) (r : List ℕ) (ended : ℕ) : Type 0 where
  pub rest : r ≡ drop n i
  pub within : n ≤ length i
  pub lines : ended + line_ends r ≡ line_ends i
  pub few : ended + length r ≤ length i

-- a `*`, and then a `/`
abbrev pub closes : ℕ → List ℕ → Bool
closes c s = c == 42 && begins (λ d. d == 47) s

-- all white space and comments were passed over
pub record IsPastBlanks (i r : List ℕ) (ended : ℕ) : Type 0 where
  pub blanks : Blanks i r
  pub stops : blank_length r ≡ 0
  pub lines : ended + line_ends r ≡ line_ends i
  pub few : ended + length r ≤ length i

-- the value of the digit that begins a text
abbrev pub digit_at : ℕ → List ℕ → Option ℕ
digit_at radix [] = None
digit_at radix (c ∷ s) = if is_digit c radix then Some (digit_value c) else None

abbrev pub digits_length : ℕ → List ℕ → ℕ
digits_length radix i = front_length (λ c. is_digit c radix) i

-- the longest run of digits, with its value up to 2^53
pub record ReadsDigits (radix : ℕ) (i r : List ℕ) (value : ℕ) : Type 0 where
  pub rest : r ≡ drop (digits_length radix i) i
  pub value_is : value ≡ min (digits_value radix (take (digits_length radix i) i)) (2 ^ 53)

-- ---- strings

abbrev pub length_of : Option (List ℕ × ℕ) → Option ℕ
length_of None = None
length_of (Some escape) = Some escape.1

abbrev pub pair_length : Option ℕ → Option ℕ
pair_length None = None
pair_length (Some low) = if is_low_surrogate low then Some 11 else None

abbrev pub plain_length : ℕ → List ℕ → ℕ
plain_length c after = if c == 13 && begins (λ d. d == 10) after then 2 else 1

-- why no escape follows a backslash
abbrev pub escape_fault : List ℕ → LexFault
escape_fault [] = fault.OpenText
escape_fault (c ∷ s) = fault.BadEscape

-- the length of what belongs to a character inside of a string after it
abbrev pub inside_length : ℕ → List ℕ → Option ℕ
inside_length c after = if c == 92 then length_of (escape_at after) else Some 0

-- a string ends in a text where another is what follows
abbrev pub EndsString : ℕ → List ℕ → List ℕ → Type 0
EndsString quote i r = (value : List ℕ) × (n : ℕ) × (string_from quote i 0 ≡ Ok (value, n)) × (r ≡ drop n i) × (n ≤ length i)

-- ---- marks

-- the text begins with these characters
abbrev pub begins_text : List ℕ → List ℕ → Bool
begins_text text i = bytes_eq (take (length text) i) text

-- the first mark of a list that begins the text
abbrev pub first_begun : List Mark → List ℕ → Option Mark
first_begun [] i = None
first_begun (m ∷ ms) i = if begins_text (mark_text m) i then Some m else first_begun ms i

-- ---- tokens

-- the text begins with a token of this kind, or ends, and then follows the rest
abbrev pub Cuts : List ℕ → Kind → List ℕ → Type 0
Cuts i kind r = (x : Lexeme) × (n : ℕ) × IsNext i x n × (kind ≡ kind_of x) × (r ≡ drop n i)
