-- Reading by descent: expressions and statements in one another.
use Rattle.std.specs.Prelude.{ℕ, zero, suc, ◌+◌, Bool, true, ◌||◌, ◌==◌, if◌then◌else◌, length, Some, None}
use Rattle.njs_tree.specs.declared.token.Keyword.TheVariants as keyword
use Rattle.njs_tree.specs.Symbols.{breaks, update_of}
use Rattle.njs_tree.specs.Grammar.{max_depth, least_of, updates_here}
use Rattle.njs_expr.specs.Readers.{Reader, and_then, refuse, like, next_of, sees_word, Grown, Stood}
use Rattle.njs_expr.specs.Expressions.{level_of}
use Rattle.njs_expr.specs.Statements.{one_statement}

-- nested no deeper than the first number
unfoldable mutual
  pub expr : ℕ → Bool → ℕ → ℕ → Reader Grown
  expr zero with_in least room = refuse
  expr (suc fuel) with_in least room = if room == 0 then refuse else level_of (expr fuel) (stmt fuel) with_in least room

  pub stmt : ℕ → Bool → ℕ → Reader Stood
  stmt zero declares room = refuse
  stmt (suc fuel) declares room = if room == 0 then refuse else one_statement (expr fuel) (stmt fuel) declares room

-- no `++` and no `--` may follow an expression on its line
unfoldable pub unless_updated : Grown → Reader Grown
unless_updated a = λ i. if updates_here (update_of (like (next_of i))) (breaks i) then None else Some (a, i)

-- no `else` and no `finally` may follow an item
unfoldable pub unless_carried : Stood → Reader Stood
unless_carried s = λ i. if sees_word keyword.Else (next_of i) || sees_word keyword.Finally (next_of i) then None else Some (s, i)

-- an expression, and with commas where the second test holds
unfoldable pub whole_expression : Bool → Bool → Reader Grown
whole_expression with_in with_comma = λ i. and_then (expr (length i) with_in (least_of with_comma) max_depth i) unless_updated

-- a statement, or the declaration of a function
unfoldable pub whole_item : Reader Stood
whole_item = λ i. and_then (stmt (length i + 1) true max_depth i) unless_carried
