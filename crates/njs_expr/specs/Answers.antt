-- What is answered of a place among the tokens of a text.
use Rattle.std.specs.Prelude.{◌≡◌, ℕ, ◌≤◌, ◌<◌, Bool, List, length, drop, Result, Ok, Err}
use Rattle.njs_tree.specs.declared.token.Token.{Token}
use Rattle.njs_tree.specs.declared.tree.Expr.{Expr}
use Rattle.njs_tree.specs.declared.tree.Stmt.{Stmt}
use Rattle.njs_tree.specs.Characters.{IsLine}
use Rattle.njs_tree.specs.Lexemes.{Symbol}
use Rattle.njs_tree.specs.TokenList.{Tokens, symbols_of}
use Rattle.njs_tree.specs.Grammar.{IsExpression, IsWholeItem}
use Rattle.njs_expr.specs.declared.stop.ParseStop.{ParseStop}
use Rattle.njs_expr.specs.declared.stop.ParseStop.TheVariants as stop

-- An expression that begins at a place and the place behind it; or a line of the text, where none begins there.
abbrev pub ExpressionAt : Bool → Bool → List ℕ → List Token → ℕ → Result (Expr × ℕ) ParseStop → Type 0
ExpressionAt with_in with_comma text tokens at (Ok p) =
    IsExpression with_in with_comma p.0 (drop at (symbols_of text tokens)) (drop p.1 (symbols_of text tokens)) × (at < p.1) × (p.1 ≤ length tokens)
ExpressionAt with_in with_comma text tokens at (Err (stop.Refused line)) =
    ((tree : Expr) (r : List Symbol) → IsExpression with_in with_comma tree (drop at (symbols_of text tokens)) r → ⊥) × IsLine line text
ExpressionAt with_in with_comma text tokens at (Err stop.NoMemory) = Unit {0}

-- A statement or the declaration of a function that begins at a place and the place behind it; or a line of the text, where none begins there.
abbrev pub ItemAt : List ℕ → List Token → ℕ → Result (Stmt × ℕ) ParseStop → Type 0
ItemAt text tokens at (Ok p) = IsWholeItem p.0 (drop at (symbols_of text tokens)) (drop p.1 (symbols_of text tokens)) × (at < p.1) × (p.1 ≤ length tokens)
ItemAt text tokens at (Err (stop.Refused line)) = ((s : Stmt) (r : List Symbol) → IsWholeItem s (drop at (symbols_of text tokens)) r → ⊥) × IsLine line text
ItemAt text tokens at (Err stop.NoMemory) = Unit {0}

-- why reading stopped, with a line of each text of which these are the tokens
abbrev pub IsPlaced : ParseStop → List Token → ParseStop → Type 0
IsPlaced (stop.Refused before) tokens (stop.Refused line) = (text : List ℕ) → Tokens text tokens → IsLine line text
IsPlaced stop.NoMemory tokens stop.NoMemory = Unit {0}
IsPlaced _ tokens _ = ⊥
