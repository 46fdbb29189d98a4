use Rattle.std.proofs.Common.{◌+◌, ◌++◌, refl, arith}
use Rattle.njs_scope.specs.Uses as uses
use Rattle.njs_gen_expr.specs.Trees.{function}
use Rattle.njs_gen_expr.specs.Written.{draft}
use Rattle.njs_gen_expr.proofs.closure.pass_function.Goals as goal

pub returns-clause-passed : goal.returns-clause-passed
returns-clause-passed c names first start n ops front h =
    let tail = ((uses.function c.args.f.now).means start).uses.places names in
    let size = (function c.args.f.now).size in
    c.pass.ensures.passed (draft ops n (front ++ tail) (first + size)) front tail first size refl refl (omega (arith, c.uses_in_function.ensures start names)) (omega (arith, c.functions_in.ensures)) h
