-- How deep the brackets of a text nest.
use Rattle.std.specs.Prelude.{◌≡◌, ℕ, ◌+◌, ◌-◌, nat_lt, List, [], ◌∷◌, Option, Some, None, if◌then◌else◌}
use Rattle.njs_tree.specs.declared.token.Token.{Token}
use Rattle.njs_tree.specs.declared.token.Kind.{Kind}
use Rattle.njs_tree.specs.declared.token.Kind.TheVariants as kind
use Rattle.njs_tree.specs.declared.token.Mark.TheVariants as mark
use Rattle.njs_tree.specs.declared.token.LexFault.{LexFault}
use Rattle.njs_tree.specs.TokenList.{TokensFrom}

abbrev pub max_level : ℕ
max_level = 200

-- the level after a token: an opening bracket raises it by one, and a closing one of any kind lowers it by one where it isn't 0
abbrev pub level_after : ℕ → Kind → ℕ
level_after level (kind.Mark mark.LeftParen) = level + 1
level_after level (kind.Mark mark.LeftBracket) = level + 1
level_after level (kind.Mark mark.LeftBrace) = level + 1
level_after level (kind.Mark mark.RightParen) = level - 1
level_after level (kind.Mark mark.RightBracket) = level - 1
level_after level (kind.Mark mark.RightBrace) = level - 1
level_after level _ = level

-- the line of the first bracket that opens a level too many
abbrev pub too_deep : ℕ → List Token → Option ℕ
too_deep level [] = None
too_deep level (t ∷ ts) = if nat_lt max_level (level_after level t.kind) then Some t.line else too_deep (level_after level t.kind) ts

-- brackets nest too deep in the tokens up to the first fault, and this is the line
abbrev pub IsTooDeep : ℕ → List ℕ → Type 0
IsTooDeep line text = (tokens : List Token) × (f : Option LexFault) × TokensFrom text text tokens f × (too_deep 0 tokens ≡ Some line)
