use Rattle.std.proofs.Common.{arith}
use Rattle.njs_expr.proofs.Knot.{expr_refused, stmt_refused}
use Rattle.njs_expr.proofs.Nesting.{either_way, expr_built, stmt_built}
use Rattle.njs_expr.proofs.descent.+descent.Goals as goal

pub expr-returns-then-fuel-eq0 : goal.expr-returns-then-fuel-eq0
expr-returns-then-fuel-eq0 g t c =
    rw c.refuse.ensures (expr_refused c.args.fuel c.args.with_in c.args.least c.args.room c.args.cursor.now (either_way c.then-fuel-eq0.either))

pub stmt-returns-then-fuel-eq0 : goal.stmt-returns-then-fuel-eq0
stmt-returns-then-fuel-eq0 g t c =
    rw c.refuse.ensures (stmt_refused c.args.fuel c.args.declares c.args.room c.args.cursor.now (either_way c.then-fuel-eq0.either))

pub expr-returns : goal.expr-returns
expr-returns g t c = expr_built _ c.args.fuel c.args.with_in c.args.least c.args.room c.args.cursor.now _ _ _ (omega arith) (omega arith) c.level.ensures c.expression_from.ensures

pub stmt-returns : goal.stmt-returns
stmt-returns g t c = stmt_built _ c.args.fuel c.args.declares c.args.room c.args.cursor.now _ _ _ (omega arith) (omega arith) c.one_statement.ensures c.statement_from.ensures
