use Rattle.std.proofs.Common.{◌+◌, ◌++◌, refl, arith}
use Rattle.njs_scope.specs.Uses as uses
use Rattle.njs_gen_expr.specs.Trees as code
use Rattle.njs_gen_expr.specs.Written.{draft}
use Rattle.njs_gen_expr.proofs.closure.pass_expression.Goals as goal

pub returns-clause-passed : goal.returns-clause-passed
returns-clause-passed c names first start n ops front h =
    let tail = ((uses.expression c.args.e.now).means start).places names in
    let size = (code.expression c.args.e.now).size in
    c.pass.ensures.passed (draft ops n (front ++ tail) (first + size)) front tail first size refl refl (omega (arith, c.uses_in.ensures start names)) (omega (arith, c.in_expression.ensures)) h
