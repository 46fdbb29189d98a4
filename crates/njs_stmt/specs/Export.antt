-- What `export default` exports.
use Rattle.std.specs.Prelude.{◌≡◌, ℕ, ◌≤◌, ◌<◌, Bool, true, false, List, length, drop, Some, Result, Ok, Err}
use Rattle.njs_tree.specs.declared.token.Token.{Token}
use Rattle.njs_tree.specs.declared.token.Mark.TheVariants as mark
use Rattle.njs_tree.specs.declared.token.Keyword.TheVariants as keyword
use Rattle.njs_tree.specs.declared.tree.Expr.{Expr}
use Rattle.njs_tree.specs.declared.tree.Item.{Item}
use Rattle.njs_tree.specs.Characters.{IsLine}
use Rattle.njs_tree.specs.Lexemes.{Lexeme, Symbol}
use Rattle.njs_tree.specs.Symbols.{lexeme_of}
use Rattle.njs_tree.specs.TokenList.{symbols_of}
use Rattle.njs_tree.specs.Grammar.{IsExpression}
use Rattle.njs_expr.specs.declared.stop.ParseStop.{ParseStop}
use Rattle.njs_expr.specs.declared.stop.ParseStop.TheVariants as stop
use Rattle.njs_expr.specs.Readers.{next_of, sees, semicolon, tail}
use Rattle.njs_stmt.specs.Script.{Finishes}

-- a value without commas, and its semicolon
pub record IsValue (a : Expr) (i r : List Symbol) : Type 0 where
  pub past : List Symbol
  pub value : IsExpression true false a i past
  pub no_comma : sees mark.Comma (next_of past) ≡ false
  pub closed : semicolon past ≡ Some (tt, r)

-- behind `export` and a word, this is the value of no export
abbrev pub NoValue : List Symbol → Type 0
NoValue value = (exported : Bool) (i : List Symbol) → lexeme_of i ≡ Lexeme.reserved keyword.Export → tail (tail i) ≡ value → (xs : List Item) → Finishes exported xs i → ⊥

-- a value from a place on and the place behind its semicolon, or a line of the text where none is
abbrev pub ReadsValue : List ℕ → List Token → ℕ → Result (Expr × ℕ) ParseStop → Type 0
ReadsValue text tokens place (Ok p) = IsValue p.0 (drop place (symbols_of text tokens)) (drop p.1 (symbols_of text tokens)) × (place < p.1) × (p.1 ≤ length tokens)
ReadsValue text tokens place (Err (stop.Refused line)) = IsLine line text × NoValue (drop place (symbols_of text tokens))
ReadsValue text tokens place (Err stop.NoMemory) = Unit {0}
