-- The kinds of characters, by their scalar values, and the lines of a text.
use Rattle.std.specs.Prelude.{ℕ, ◌+◌, ◌-◌, ◌≤◌, List, [], ◌∷◌, Bool, false, ◌&&◌, ◌||◌, not, nat_le, ◌==◌, if◌then◌else◌}

-- LF, CR, U+2028 and U+2029 (ECMA-262 5.1 §7.3)
abbrev pub is_line_end : ℕ → Bool
is_line_end c = c == 10 || c == 13 || c == 0x2028 || c == 0x2029

-- TAB, VT, FF, SP, U+00A0 and U+FEFF (ECMA-262 5.1 §7.2), and the line ends
abbrev pub is_white : ℕ → Bool
is_white c = c == 9 || c == 11 || c == 12 || c == 32 || c == 0xA0 || c == 0xFEFF || is_line_end c

-- a to z, A to Z, `$` and `_`
abbrev pub is_letter : ℕ → Bool
is_letter c = nat_le 97 c && nat_le c 122 || nat_le 65 c && nat_le c 90 || c == 36 || c == 95

-- a letter or a digit
abbrev pub is_part : ℕ → Bool
is_part c = is_letter c || nat_le 48 c && nat_le c 57

-- whether the first character passes a test
abbrev pub begins : (ℕ → Bool) → List ℕ → Bool
begins test [] = false
begins test (c ∷ s) = test c

-- whether a line ends with a character that some text follows: of CR LF it ends with the LF
abbrev pub ends_line : ℕ → List ℕ → Bool
ends_line c after = is_line_end c && not (c == 13 && begins (λ d. d == 10) after)

-- how many lines end in a text
abbrev pub line_ends : List ℕ → ℕ
line_ends [] = 0
line_ends (c ∷ s) = (if ends_line c s then 1 else 0) + line_ends s

-- the line on which the rest of a text begins, counted from 1
abbrev pub line_at : List ℕ → List ℕ → ℕ
line_at text rest = line_ends text + 1 - line_ends rest

-- a line of the text
abbrev pub IsLine : ℕ → List ℕ → Type 0
IsLine line text = (1 ≤ line) × (line ≤ line_ends text + 1)
