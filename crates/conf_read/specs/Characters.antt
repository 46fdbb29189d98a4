-- The kinds of characters of a configuration, by their scalar values, and its lines.
use Rattle.std.specs.Prelude.{ℕ, ◌+◌, List, [], ◌∷◌, Bool, true, false, ◌||◌, not, ◌==◌, if◌then◌else◌}

-- space, tab, CR and LF
abbrev pub is_blank : ℕ → Bool
is_blank c = c == 32 || c == 9 || c == 13 || c == 10

-- `;`, `{` and `}`
abbrev pub is_mark : ℕ → Bool
is_mark c = c == 59 || c == 123 || c == 125

-- `"` and `'`
abbrev pub is_quote : ℕ → Bool
is_quote c = c == 34 || c == 39

-- what a word goes on with
abbrev pub is_part : ℕ → Bool
is_part c = not (is_blank c || is_mark c)

-- what a word begins with: neither a blank nor a mark nor a quote nor `#`
abbrev pub begins_word : ℕ → Bool
begins_word c = not (is_blank c || is_mark c || is_quote c || c == 35)

-- whether the first character passes a test
abbrev pub begins : (ℕ → Bool) → List ℕ → Bool
begins test [] = false
begins test (c ∷ s) = test c

-- the line behind a character of a line: a line ends with a line feed
abbrev pub line_after : ℕ → ℕ → ℕ
line_after c line = if c == 10 then line + 1 else line

abbrev pub is_empty : List ℕ → Bool
is_empty [] = true
is_empty (c ∷ s) = false

-- the last line: how many lines there are, of which the last may lack its line feed
abbrev pub last_line : List ℕ → ℕ
last_line [] = 0
last_line (c ∷ s) = (if c == 10 || is_empty s then 1 else 0) + last_line s
