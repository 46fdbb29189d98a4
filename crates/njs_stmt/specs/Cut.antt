-- How a text is cut into its tokens.
use Rattle.std.specs.Prelude.{◌≡◌, ℕ, ◌+◌, ◌≤◌, ◌<◌, Bool, true, false, List, length, drop, Option, Some, None}
use Rattle.std.specs.Str.{encode_utf8_all, IsCharBoundary}
use Rattle.njs_tree.specs.declared.token.Token.{Token}
use Rattle.njs_tree.specs.declared.token.Kind.{Kind}
use Rattle.njs_tree.specs.declared.token.Kind.TheVariants as kind
use Rattle.njs_tree.specs.declared.token.LexFault.{LexFault}
use Rattle.njs_tree.specs.Characters.{IsLine, line_at, line_ends}
use Rattle.njs_tree.specs.TokenList.{Tokens, TokensFrom, place_of}

-- more bytes than a script may have
abbrev pub IsTooLong : List ℕ → Type 0
IsTooLong text = 1048576 < length (encode_utf8_all text)

abbrev pub is_end : Kind → Bool
is_end kind.End = true
is_end _ = false

-- the second text is what is left of the first
abbrev pub IsRest : List ℕ → List ℕ → Type 0
IsRest i r = (n : ℕ) × (n ≤ length i) × (r ≡ drop n i)

-- the token stands between two rests of the text, on the line of the first
pub record StandsIn (text : List ℕ) (t : Token) : Type 0 where
  pub before : ℕ
  pub size : ℕ
  pub within : size ≤ length (drop before text)
  pub from_is : t.from ≡ place_of text (drop before text)
  pub to_is : t.to ≡ place_of text (drop size (drop before text))
  pub line_is : t.line ≡ line_at text (drop before text)

-- These are the tokens of the text; or those up to the first fault, with a line of the text.
abbrev pub IsCut : List ℕ → List Token → Option ℕ → Type 0
IsCut text tokens None = Tokens text tokens
IsCut text tokens (Some line) = (f : LexFault) × TokensFrom text text tokens (Some f) × IsLine line text

-- how many lines end with the first character
abbrev pub FirstEnd : List ℕ → ℕ → Type 0
FirstEnd i n = (n + line_ends (drop 1 i) ≡ line_ends i) × (n ≤ 1)

-- the token stands between two places of the text at which characters begin, and its line is one of the text
abbrev pub Placed : List ℕ → Token → Type 0
Placed text t = (t.from ≤ t.to) × IsCharBoundary (encode_utf8_all text) t.from × IsCharBoundary (encode_utf8_all text) t.to × IsLine t.line text
