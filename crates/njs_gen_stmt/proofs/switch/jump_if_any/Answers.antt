use Rattle.std.proofs.Common.{suc, ◌+◌, ◌++◌, Option, sym, ap, subst, arith}
use Rattle.njs_tree.specs.declared.tree.Expr.{Expr}
use Rattle.njs_code.specs.declared.op.Kind.TheVariants as kind
use Rattle.njs_simul.specs.Emission.{value_size, deeper, op}
use Rattle.njs_simul.specs.Compiled.{expression}
use Rattle.njs_scope.specs.Uses as uses
use Rattle.njs_gen_expr.specs.Trees as code
use Rattle.njs_gen_expr.specs.Written.{draft}
use Rattle.njs_gen_expr.specs.Parts.{Wrote}
use Rattle.njs_gen_expr.proofs.Drafts.{recount}
use Rattle.njs_gen_stmt.specs.Sized.{aside_size}
use Rattle.njs_gen_stmt.specs.Statements.{tested, optional, optional_uses}
use Rattle.njs_gen_stmt.proofs.Optionals.{nothing_written}
use Rattle.njs_gen_stmt.proofs.switch.jump_if_any.Goals as goal

pub returns-in-None-clause-written : goal.returns-in-None-clause-written
returns-in-None-clause-written c b is =
    subst (λ (o : Option Expr). Wrote aside_size (tested b) (optional o) (optional_uses o) c.args.here c.args.w.now c.args.w.now) (sym c.in-None.is)
    (λ at first start n ops front s h. nothing_written c.args.w.now ops n front first h)

pub returns-in-Some-clause-written : goal.returns-in-Some-clause-written
returns-in-Some-clause-written c b is =
    let e = c.in-Some.e in
    subst (λ (o : Option Expr). Wrote aside_size (tested b) (optional o) (optional_uses o) c.args.here c.args.w.now c.value.new.w) (sym c.in-Some.is)
    (λ at first start n ops front s h.
    let size = value_size ((code.expression e).means first) in
    let h1 = c.write.ensures.written (kind.JumpSame b) (deeper 2 at) (draft ops n (front ++ ((uses.expression e).means start).places at.names) (first + (code.expression e).size)) (λ g. ap (λ to. kind.JumpSame to) (is g)) (c.deeper.ensures at s) h in
    recount c.value.new.w _ (size + suc n) _ front first (omega arith)
    (c.value.ensures.written (deeper 1 at) first start (suc n) (op (kind.JumpSame b) (deeper 2 at) ops) front (c.deeper-in-Some.ensures at s) h1))
