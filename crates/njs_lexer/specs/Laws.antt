-- What the tokens of a text are to the grammar.
use Rattle.std.specs.Prelude.{◌≡◌, ℕ, nat_lt, List, drop, true}
use Rattle.std.specs.Str.{all_scalars}
use Rattle.njs_tree.specs.Characters.{line_ends}
use Rattle.njs_tree.specs.Lexemes.{Lexeme}
use Rattle.njs_tree.specs.TokenList.{IsNext, token_of, symbol_of}

-- the token that begins a rest of a text stands for the lexeme that it was cut as
abbrev pub TokensMean : Type 0
TokensMean = (text blanks : List ℕ) (k line n : ℕ) (x : Lexeme) → all_scalars text ≡ true → IsNext (drop k text) x n
    → symbol_of text (token_of text blanks (drop k text) line x n) ≡ record { lexeme = x; line = line; after_break = nat_lt (line_ends (drop k text)) (line_ends blanks) }
