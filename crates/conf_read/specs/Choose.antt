-- Which location of a configuration serves a path.
use Rattle.std.specs.Prelude.{ℕ, ◌+◌, List, [], ◌∷◌, length, Bool, ◌&&◌, not, ◌==◌, if◌then◌else◌, Option, Some, None, bytes_eq, encode_utf8_all, max, eqb}
use Rattle.std.specs.List.{starts_with, position}
use Rattle.conf_read.specs.declared.conf.Location.{Location}

-- an exact location with this path
abbrev pub is_exact : List ℕ → Location → Bool
is_exact path l = l.exact && bytes_eq l.path path

-- a prefix location with a path that this one begins with
abbrev pub is_prefix : List ℕ → Location → Bool
is_prefix path l = not l.exact && starts_with eqb (encode_utf8_all path) (encode_utf8_all l.path)

-- one more than the length of the path of a prefix location that fits; 0 for any other
abbrev pub reach : List ℕ → Location → ℕ
reach path l = if is_prefix path l then length l.path + 1 else 0

abbrev pub longest : List ℕ → List Location → ℕ
longest path [] = 0
longest path (l ∷ ls) = max (reach path l) (longest path ls)

abbrev pub or_prefix : Option ℕ → List Location → List ℕ → Option ℕ
or_prefix (Some place) ls path = Some place
or_prefix None ls path = if longest path ls == 0 then None else position (λ l. reach path l == longest path ls) ls

-- the place of the exact location with this path, else of the prefix location with the longest path, of equal ones the first
abbrev pub choice : List Location → List ℕ → Option ℕ
choice ls path = or_prefix (position (is_exact path) ls) ls path
