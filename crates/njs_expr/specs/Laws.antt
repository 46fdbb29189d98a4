-- There is one way to read an expression or an item.
use Rattle.std.specs.Prelude.{◌≡◌, Bool, List}
use Rattle.njs_tree.specs.declared.tree.Expr.{Expr}
use Rattle.njs_tree.specs.declared.tree.Stmt.{Stmt}
use Rattle.njs_tree.specs.Lexemes.{Symbol}
use Rattle.njs_tree.specs.Grammar.{IsExpression, IsWholeItem}

abbrev pub OneExpression : Type 0
OneExpression =
    (with_in with_comma : Bool) (a b : Expr) (i r q : List Symbol) → IsExpression with_in with_comma a i r → IsExpression with_in with_comma b i q → (a ≡ b) × (r ≡ q)

abbrev pub OneItem : Type 0
OneItem = (a b : Stmt) (i r q : List Symbol) → IsWholeItem a i r → IsWholeItem b i q → (a ≡ b) × (r ≡ q)
