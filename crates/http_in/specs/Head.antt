-- Where the head of a request begins and ends (RFC 9112 §2.1, §2.2). A line ends with LF, and a CR before that LF belongs to the line's end.
use Rattle.std.specs.Prelude.{ℕ, ◌+◌, ◌-◌, ◌==◌, Bool, false, ◌||◌, ◌&&◌, List, [], ◌∷◌, length, take, Option, None, Some, option_map, is_some, if◌then◌else◌}
use Rattle.httparse.specs.Ascii.{line_feed, carriage_return}

-- the most bytes of a head, with the empty lines before it
abbrev pub max_head : ℕ
max_head = 16384

abbrev pub starts_with_lf : List ℕ → Bool
starts_with_lf [] = false
starts_with_lf (b ∷ bs) = b == line_feed

-- what stands behind the empty lines at the front, which are passed over (§2.2)
abbrev pub behind_empty_lines : List ℕ → List ℕ
behind_empty_lines [] = []
behind_empty_lines (b ∷ bs) = if b == line_feed || (b == carriage_return && starts_with_lf bs) then behind_empty_lines bs else b ∷ bs

-- how long the empty line at the front is, where one stands there whole
abbrev pub empty_line : List ℕ → Option ℕ
empty_line [] = None
empty_line (b ∷ bs) = if b == line_feed then Some 1 else if b == carriage_return && starts_with_lf bs then Some 2 else None

-- how long the head is: up to and including the first empty line behind another line (§2.1)
abbrev pub head_len : List ℕ → Option ℕ
head_len [] = None
head_len (b ∷ bs) = option_map (λ n. 1 + n) (if b == line_feed && is_some (empty_line bs) then empty_line bs else head_len bs)

-- from the first byte of the head on, of the first 16,384 bytes
unfoldable pub from_head : List ℕ → List ℕ
from_head bytes = behind_empty_lines (take max_head bytes)

-- where the head begins, of the first 16,384 bytes
unfoldable pub head_start : List ℕ → ℕ
head_start bytes = length (take max_head bytes) - length (from_head bytes)
