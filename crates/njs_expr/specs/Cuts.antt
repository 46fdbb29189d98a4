-- What the tokens of a text are to the cursor.
use Rattle.std.specs.Prelude.{◌≡◌, ℕ, List, [], ◌∷◌, drop}
use Rattle.njs_tree.specs.declared.token.Token.{Token}
use Rattle.njs_tree.specs.Characters.{line_at}
use Rattle.njs_tree.specs.Lexemes.{Lexeme}
use Rattle.njs_tree.specs.TokenList.{IsNext, token_of}

-- the token was cut from the text
pub record IsOf (text : List ℕ) (t : Token) : Type 0 where
  pub before : ℕ
  pub size : ℕ
  pub blanks : List ℕ
  pub lexeme : Lexeme
  pub cut : IsNext (drop before text) lexeme size
  pub is : t ≡ token_of text blanks (drop before text) (line_at text (drop before text)) lexeme size

abbrev pub AreOf : List ℕ → List Token → Type 0
AreOf text [] = Unit {0}
AreOf text (t ∷ ts) = IsOf text t × AreOf text ts
