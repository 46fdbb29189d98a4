use Rattle.std.proofs.Common.{suc, ◌+◌, refl, arith}
use Rattle.njs_code.specs.declared.op.Kind.TheVariants as kind
use Rattle.njs_simul.specs.EmissionOfStatements as step
use Rattle.njs_gen_expr.specs.Written.{draft}
use Rattle.njs_gen_expr.proofs.Drafts.{recount}
use Rattle.njs_gen_stmt.specs.Statements.{declared_in, first}
use Rattle.njs_gen_stmt.proofs.parts.variables.Goals as goal

pub returns-clause-written : goal.returns-clause-written
returns-clause-written c ls at first start n ops front s h =
    let h1 = c.declare.ensures.written at first start n ops front s h in
    recount c.write.new.self _ (suc (step.declare_size ((declared_in c.args.list.now).means first) + n)) _ front first (omega arith) (c.write.ensures.written kind.Charge at (draft (step.declare ((declared_in c.args.list.now).means first) at ops) (step.declare_size ((declared_in c.args.list.now).means first) + n) front first) (λ g. refl) s h1)
