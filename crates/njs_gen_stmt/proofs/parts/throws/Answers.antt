use Rattle.std.proofs.Common.{suc, ◌+◌, ◌++◌, refl, arith}
use Rattle.njs_code.specs.declared.op.Kind.TheVariants as kind
use Rattle.njs_simul.specs.Emission.{value, value_size, deeper, op}
use Rattle.njs_simul.specs.Compiled.{expression}
use Rattle.njs_scope.specs.Uses as uses
use Rattle.njs_gen_expr.specs.Trees as code
use Rattle.njs_gen_expr.specs.Written.{draft}
use Rattle.njs_gen_expr.proofs.Drafts.{recount}
use Rattle.njs_gen_stmt.specs.Statements.{first}
use Rattle.njs_gen_stmt.proofs.parts.throws.Goals as goal

pub returns-clause-written : goal.returns-clause-written
returns-clause-written c ls at first start n ops front s h =
    let v = (code.expression c.args.e.now).means first in
    let last = op kind.Throw (deeper 1 at) ops in
    let h1 = c.write.ensures.written kind.Throw (deeper 1 at) (draft ops n (front ++ ((uses.expression c.args.e.now).means start).places at.names) (first + (code.expression c.args.e.now).size)) (λ g. refl) (c.deeper.ensures at s) h in
    let h2 = c.value.ensures.written at first start (suc n) last front s h1 in
    recount c.write-2.new.self _ (suc (value_size v + suc n)) _ front first (omega arith) (c.write-2.ensures.written kind.Charge at (draft (value v at last) (value_size v + suc n) front first) (λ g. refl) s h2)
