-- Words, and those that are names.
use Rattle.std.specs.Prelude.{ℕ, List, Bool, ◌&&◌, ◌||◌, not, is_some, bytes_eq, codes}
use Rattle.std.specs.List.{list_all}
use Rattle.njs_tree.specs.Characters.{is_letter, is_part, begins}
use Rattle.njs_tree.specs.Lexemes.{keyword_of}

-- a letter, and then letters and digits
abbrev pub is_word : List ℕ → Bool
is_word text = begins is_letter text && list_all is_part text

-- a word of ECMA-262 5.1 §7.6.1, those of strict mode among them
abbrev pub is_reserved : List ℕ → Bool
is_reserved text = is_some (keyword_of text)

-- a word that isn't reserved
abbrev pub is_name : List ℕ → Bool
is_name text = is_word text && not (is_reserved text)

-- the names that strict mode lets nobody bind (ECMA-262 5.1 §13.1)
abbrev pub is_protected : List ℕ → Bool
is_protected text = bytes_eq text (codes "eval") || bytes_eq text (codes "arguments")
