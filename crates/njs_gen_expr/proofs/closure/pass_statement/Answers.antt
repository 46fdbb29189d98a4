use Rattle.std.proofs.Common.{◌+◌, ◌++◌, refl, arith}
use Rattle.njs_scope.specs.Uses as uses
use Rattle.njs_gen_expr.specs.Trees as code
use Rattle.njs_gen_expr.specs.Written.{draft}
use Rattle.njs_gen_expr.proofs.closure.pass_statement.Goals as goal

pub returns-clause-passed : goal.returns-clause-passed
returns-clause-passed c names first start n ops front h =
    let tail = ((uses.statement c.args.s.now).means start).places names in
    let size = (code.statement c.args.s.now).size in
    c.pass.ensures.passed (draft ops n (front ++ tail) (first + size)) front tail first size refl refl (omega (arith, c.in_statement.ensures start names)) (omega (arith, c.in_statement-2.ensures)) h
