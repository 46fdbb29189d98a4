-- Fields by their names, and the lists in their values (RFC 9110 §5.1, §5.6.1).
use Rattle.std.specs.Prelude.{ℕ, ◌==◌, Bool, List, [], ◌∷◌, if◌then◌else◌}
use Rattle.std.specs.List.{list_any, slice_split}
use Rattle.std.specs.Str.{str_eq_ignore_ascii_case}
use Rattle.httparse.specs.Ascii.{comma}
use Rattle.httparse.specs.Grammar.{trim_ows}

-- the values of the fields of a name, which is compared without regard to ASCII case (RFC 9110 §5.1)
abbrev pub values : List ℕ → List (List ℕ × List ℕ) → List (List ℕ)
values name [] = []
values name (f ∷ fs) = if str_eq_ignore_ascii_case f.0 name then f.1 ∷ values name fs else values name fs

-- the parts between the commas
abbrev pub between_commas : List ℕ → List (List ℕ)
between_commas list = slice_split (λ b. b == comma) list

-- the list names the word, with spaces and tabs around it, in any case of its letters (RFC 9110 §5.6.1)
unfoldable pub names_word : List ℕ → List ℕ → Bool
names_word word list = list_any (λ part. str_eq_ignore_ascii_case (trim_ows part) word) (between_commas list)

-- a field `Connection` lists the option (RFC 9110 §7.6.1)
abbrev pub has_option : List ℕ → List (List ℕ) → Bool
has_option word connections = list_any (names_word word) connections
