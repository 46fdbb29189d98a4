use Rattle.std.proofs.Common.{Option, sym, subst}
use Rattle.njs_tree.specs.declared.tree.Expr.{Expr}
use Rattle.njs_gen_expr.proofs.Drafts.{bare}
use Rattle.njs_gen_stmt.specs.Statements.{optional, optional_uses}
use Rattle.njs_gen_expr.specs.Parts.{Passed}
use Rattle.njs_gen_stmt.proofs.switch.pass_test.Goals as goal

pub returns-in-None-clause-passed : goal.returns-in-None-clause-passed
returns-in-None-clause-passed c =
    subst (λ (o : Option Expr). Passed (optional o) (optional_uses o) c.args.w.now c.args.w.now) (sym c.in-None.is)
    (λ names first start n ops front h. bare c.args.w.now ops n front first h)

pub returns-in-Some-clause-passed : goal.returns-in-Some-clause-passed
returns-in-Some-clause-passed c =
    subst (λ (o : Option Expr). Passed (optional o) (optional_uses o) c.args.w.now c.pass_expression.new.w) (sym c.in-Some.is) c.pass_expression.ensures.passed
