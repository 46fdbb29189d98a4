-- The heads of a `for`, and the statement behind them, from their parts on (ECMA-262 5.1 §12.6.3, §12.6.4).
use Rattle.std.specs.Prelude.{ℕ, ◌-◌, max, Bool, false, Option}
use Rattle.njs_tree.specs.declared.token.Mark.TheVariants as mark
use Rattle.njs_tree.specs.declared.tree.Expr.{Expr}
use Rattle.njs_tree.specs.declared.tree.ForFirst.{ForFirst}
use Rattle.njs_tree.specs.declared.tree.ForInHead.{ForInHead}
use Rattle.njs_tree.specs.declared.tree.StmtNode.TheVariants as step
use Rattle.njs_expr.specs.Readers.{Reader, ◌>>=◌, ◌>>◌, expect, Grown, Stood, stood}
use Rattle.njs_expr.specs.Statements.{optional}

-- from the statement on, with the first part, the test and the update
unfoldable pub for_body : (Bool → ℕ → Reader Stood) → ℕ → ℕ → Option ForFirst → ℕ → Option Expr × ℕ → Option Expr × ℕ → Reader Stood
for_body stmt room line f below a b = do
  s ← stmt false (room - 1)
  stood room line (step.For f a.0 b.0 s.0) (max below (max a.1 (max b.1 s.1)))

-- from the update on
unfoldable pub for_update : (Bool → ℕ → ℕ → Reader Grown) → (Bool → ℕ → Reader Stood) → ℕ → ℕ → Option ForFirst → ℕ → Option Expr × ℕ → Reader Stood
for_update expr stmt room line f below a = do
  b ← optional expr (room - 1) mark.RightParen
  for_body stmt room line f below a b

-- from the statement on, with what stands before the `in` and behind it (§12.6.4)
unfoldable pub for_in_body : (Bool → ℕ → Reader Stood) → ℕ → ℕ → ForInHead → ℕ → Grown → Reader Stood
for_in_body stmt room line h below a = do
  s ← stmt false (room - 1)
  stood room line (step.ForIn h a.0 s.0) (max below (max a.1 s.1))

-- from the closing parenthesis on
unfoldable pub for_in_close : (Bool → ℕ → Reader Stood) → ℕ → ℕ → ForInHead → ℕ → Grown → Reader Stood
for_in_close stmt room line h below a = do
  expect mark.RightParen
  for_in_body stmt room line h below a
