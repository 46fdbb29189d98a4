use Rattle.std.proofs.Common.{suc, ◌+◌, refl, arith}
use Rattle.njs_code.specs.declared.op.Kind.TheVariants as kind
use Rattle.njs_simul.specs.EmissionOfStatements as step
use Rattle.njs_simul.specs.Compiled.{expression}
use Rattle.njs_gen_expr.specs.Trees as code
use Rattle.njs_gen_expr.specs.Written.{draft}
use Rattle.njs_gen_expr.proofs.Drafts.{recount}
use Rattle.njs_gen_stmt.specs.Statements.{first}
use Rattle.njs_gen_stmt.proofs.parts.expression.Goals as goal

pub returns-clause-written : goal.returns-clause-written
returns-clause-written c ls at first start n ops front s h =
    let h1 = c.evaluate.ensures.written at first start n ops front s h in
    recount c.write.new.self _ (suc ((step.evaluate ((code.expression c.args.e.now).means first)).size + n)) _ front first (omega arith) (c.write.ensures.written kind.Charge at (draft ((step.evaluate ((code.expression c.args.e.now).means first)).emit at ops) ((step.evaluate ((code.expression c.args.e.now).means first)).size + n) front first) (λ g. refl) s h1)
