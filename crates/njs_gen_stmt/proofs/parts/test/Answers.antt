use Rattle.std.proofs.Common.{suc, ◌+◌, ◌++◌, ap, arith}
use Rattle.njs_code.specs.declared.op.Kind.TheVariants as kind
use Rattle.njs_simul.specs.Emission.{value_size, deeper, op}
use Rattle.njs_simul.specs.Compiled.{expression}
use Rattle.njs_scope.specs.Uses as uses
use Rattle.njs_gen_expr.specs.Trees as code
use Rattle.njs_gen_expr.specs.Written.{draft}
use Rattle.njs_gen_expr.proofs.Drafts.{recount}
use Rattle.njs_gen_stmt.specs.Statements.{first}
use Rattle.njs_gen_stmt.proofs.parts.test.Goals as goal

pub returns-clause-written : goal.returns-clause-written
returns-clause-written c p is at first start n ops front s h =
    let size = value_size ((code.expression c.args.e.now).means first) in
    let h1 = c.write.ensures.written (kind.JumpFalse p) (deeper 1 at) (draft ops n (front ++ ((uses.expression c.args.e.now).means start).places at.names) (first + (code.expression c.args.e.now).size)) (λ g. ap (λ to. kind.JumpFalse to) (is g)) (c.deeper.ensures at s) h in
    recount c.value.new.w _ (size + suc n) _ front first (omega arith) (c.value.ensures.written at first start (suc n) (op (kind.JumpFalse p) (deeper 1 at) ops) front s h1)
