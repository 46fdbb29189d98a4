-- Messages: lines, an empty line and a content (RFC 9112 §2.1).
use Rattle.std.specs.Prelude.{◌≡◌, ◌≢◌, ◌<◌, ℕ, List, [], ◌∷◌, ◌++◌, length, All, flat_map}

-- the end of a line
unfoldable pub crlf : List ℕ
crlf = 13 ∷ 10 ∷ []

-- a line and its end
unfoldable pub ended : List ℕ → List ℕ
ended line = line ++ crlf

-- the bytes of these lines, each with its end
unfoldable pub ended_lines : List (List ℕ) → List ℕ
ended_lines lines = flat_map ended lines

-- the bytes of a message: the lines of its head, an empty line and the content
unfoldable pub message : List (List ℕ) → List ℕ → List ℕ
message lines content = ended_lines lines ++ crlf ++ content

-- no CR and no LF
abbrev pub HasNoLineEnd : List ℕ → Type 0
HasNoLineEnd bytes = All (λ b. (b ≢ 13) × (b ≢ 10)) bytes

-- a line of a head
unfoldable pub IsLine : List ℕ → Type 0
IsLine line = (0 < length line) × HasNoLineEnd line

-- the bytes can be read as these lines of a head and this content
pub record ReadsAs (bytes : List ℕ) (lines : List (List ℕ)) (content : List ℕ) : Type 0 where
  pub lines_whole : All IsLine lines
  pub spelled : bytes ≡ message lines content

-- no bytes can be read as two messages
abbrev pub HasOneReading : Type 0
HasOneReading = (bytes : List ℕ) (lines others : List (List ℕ)) (content other : List ℕ) → ReadsAs bytes lines content → ReadsAs bytes others other
    → (lines ≡ others) × (content ≡ other)
