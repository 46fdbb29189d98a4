-- What the parts of a string stand for.
use Rattle.std.specs.Prelude.{◌≡◌, ℕ, false, ◌==◌, List, [], ◌∷◌, ◌++◌, Option, Some, None, Ok}
use Rattle.njs_tree.specs.Lexical.{string_from}

-- an escape stands for one character, or for none
abbrev pub listed : Option ℕ → List ℕ
listed None = []
listed (Some c) = c ∷ []

-- by what it stands for and its length without the backslash
abbrev pub escape_of : Option ℕ × ℕ → Option (List ℕ × ℕ)
escape_of e = Some (listed e.0, e.1)

-- A character inside of a string and what follows it: what it stands for with the escape that it may begin, and the rest of the string.
abbrev pub IsPart : ℕ → List ℕ → Option ℕ → List ℕ → Type 0
IsPart c after stands rest =
    (quote : ℕ) → (c == quote) ≡ false → (value : List ℕ) (n : ℕ) → string_from quote rest 0 ≡ Ok (value, n)
    → (m : ℕ) × (string_from quote (c ∷ after) 0 ≡ Ok (listed stands ++ value, m))
