use Rattle.std.proofs.Common.{◌+◌, ◌++◌, map, refl, arith}
use Rattle.njs_meaning.specs.Parts.{each}
use Rattle.njs_scope.specs.Uses as uses
use Rattle.njs_gen_expr.specs.Trees as code
use Rattle.njs_gen_expr.specs.Written.{draft}
use Rattle.njs_gen_expr.proofs.closure.pass_statements.Goals as goal

pub returns-clause-passed : goal.returns-clause-passed
returns-clause-passed c names first start n ops front h =
    let tail = ((uses.all_of (map uses.statement c.args.list.now)).means start).places names in
    let size = (each (map code.statement c.args.list.now)).size in
    c.pass.ensures.passed (draft ops n (front ++ tail) (first + size)) front tail first size refl refl (omega (arith, c.in_statements.ensures start names)) (omega (arith, c.in_statements-2.ensures)) h
