-- The tokens of a text: at each place the longest that fits, with white space and comments before, between and after them
-- (ECMA-262 5.1 §7).
use Rattle.std.specs.Prelude.{◌≡◌, ℕ, ◌+◌, ◌-◌, ◌^◌, min, ◌<◌, ◌≤◌, nat_lt, List, [], ◌∷◌, length, drop, Option, Some, None, Result, Ok, Err, map, slice_range}
use Rattle.std.specs.Str.{chars, encode_utf8_all}
use Rattle.njs_tree.specs.declared.token.Token.{Token}
use Rattle.njs_tree.specs.declared.token.Kind.{Kind}
use Rattle.njs_tree.specs.declared.token.Kind.TheVariants as kind
use Rattle.njs_tree.specs.declared.token.LexFault.{LexFault}
use Rattle.njs_tree.specs.Characters.{line_ends, line_at}
use Rattle.njs_tree.specs.Lexemes.{Lexeme, Symbol, word}
use Rattle.njs_tree.specs.Lexical.{blank_length, lexeme_at, fault_at, number_value, string_from}

-- white space and comments from the first text to the second, which is its end
pub data Blanks : List ℕ → List ℕ → Type 0 where
  here : (i : List ℕ) → Blanks i i
  blank : (i r : List ℕ) → 0 < blank_length i → Blanks (drop (blank_length i) i) r → Blanks i r

-- the text begins with the token of so many characters: it is one, no longer one is, and no comment and no fault stands here
pub record Begins (i : List ℕ) (x : Lexeme) (n : ℕ) : Type 0 where
  pub within : n ≤ length i
  pub fits : lexeme_at n i ≡ Some x
  pub longest : (m : ℕ) → n < m → m ≤ length i → lexeme_at m i ≡ None
  pub no_blank : blank_length i ≡ 0
  pub no_fault : fault_at i ≡ None

abbrev pub kind_of : Lexeme → Kind
kind_of (Lexeme.name text) = kind.Word
kind_of (Lexeme.reserved k) = kind.Word
kind_of (Lexeme.number n) = kind.Number
kind_of (Lexeme.string text) = kind.Str
kind_of (Lexeme.mark m) = kind.Mark m
kind_of Lexeme.over = kind.End

-- the byte of the text at which a rest of it begins
abbrev pub place_of : List ℕ → List ℕ → ℕ
place_of text rest = length (encode_utf8_all text) - length (encode_utf8_all rest)

-- the token of so many characters that begins a rest of the text, where white space and comments begin at an earlier rest
abbrev pub token_of : List ℕ → List ℕ → List ℕ → ℕ → Lexeme → ℕ → Token
token_of text blanks rest line x n =
    record { kind = kind_of x; from = place_of text rest; to = place_of text (drop n rest); line = line; after_break = nat_lt (line_ends rest) (line_ends blanks) }

-- a token, or the end of the text
abbrev pub IsNext : List ℕ → Lexeme → ℕ → Type 0
IsNext [] x n = (x ≡ Lexeme.over) × (n ≡ 0)
IsNext (c ∷ s) x n = Begins (c ∷ s) x n

-- the line after some more, which stands still at the greatest u32
abbrev pub line_after : ℕ → ℕ → ℕ
line_after line more = min (line + more) (2 ^ 32 - 1)

-- What may be answered for the next token from a rest of the text on, which begins on this line.
abbrev pub NextFrom : List ℕ → List ℕ → ℕ → Result Token LexFault → Type 0
NextFrom text i line (Ok t) =
    (j : List ℕ) × (x : Lexeme) × (n : ℕ) × Blanks i j × IsNext j x n × (t ≡ token_of text i j (line_after line (line_ends i - line_ends j)) x n)
NextFrom text i line (Err f) = (j : List ℕ) × Blanks i j × (blank_length j ≡ 0) × (fault_at j ≡ Some f)

-- The tokens from a rest of the text on, the last of them of kind `End`, or those up to the first fault.
pub data TokensFrom (text : List ℕ) : List ℕ → List Token → Option LexFault → Type 0 where
  over : (i : List ℕ) → Blanks i [] → TokensFrom text i (token_of text i [] (line_at text []) Lexeme.over 0 ∷ []) None
  fault : (i j : List ℕ) (f : LexFault) → Blanks i j → blank_length j ≡ 0 → fault_at j ≡ Some f → TokensFrom text i [] (Some f)
  more : (i j : List ℕ) (x : Lexeme) (n : ℕ) (ts : List Token) (f : Option LexFault) → Blanks i j → Begins j x n → TokensFrom text (drop n j) ts f
      → TokensFrom text i (token_of text i j (line_at text j) x n ∷ ts) f

-- these are the tokens of the text
abbrev pub Tokens : List ℕ → List Token → Type 0
Tokens text tokens = TokensFrom text text tokens None

-- a text has one list of tokens at most
abbrev pub OneList : Type 0
OneList = (text : List ℕ) (ts us : List Token) → Tokens text ts → Tokens text us → ts ≡ us

-- ---- what the tokens stand for

-- the text from a byte on, and between two
abbrev pub text_from : List ℕ → ℕ → List ℕ
text_from text from = chars (drop from (encode_utf8_all text))

abbrev pub text_between : List ℕ → ℕ → ℕ → List ℕ
text_between text from to = chars (slice_range (encode_utf8_all text) from to)

abbrev pub stood_for : Result (List ℕ × ℕ) LexFault → List ℕ
stood_for (Ok found) = found.0
stood_for (Err f) = []

-- what a string stands for that begins with its opening quote
abbrev pub string_value : List ℕ → List ℕ
string_value [] = []
string_value (c ∷ s) = stood_for (string_from c s 0)

abbrev pub lexeme_by : Kind → List ℕ → Token → Lexeme
lexeme_by kind.Word text t = word (text_between text t.from t.to)
lexeme_by kind.Number text t = Lexeme.number (number_value (text_between text t.from t.to))
lexeme_by kind.Str text t = Lexeme.string (string_value (text_from text t.from))
lexeme_by (kind.Mark m) text t = Lexeme.mark m
lexeme_by kind.End text t = Lexeme.over

-- the symbols that the tokens of a text are to the grammar
abbrev pub symbol_of : List ℕ → Token → Symbol
symbol_of text t = record { lexeme = lexeme_by t.kind text t; line = t.line; after_break = t.after_break }

abbrev pub symbols_of : List ℕ → List Token → List Symbol
symbols_of text tokens = map (symbol_of text) tokens
