use Rattle.std.proofs.Common.{suc, ◌+◌, None, refl, arith}
use Rattle.njs_code.specs.declared.op.Kind.TheVariants as kind
use Rattle.njs_simul.specs.EmissionOfStatements as step
use Rattle.njs_gen_expr.specs.Written.{Draft}
use Rattle.njs_gen_expr.proofs.Drafts.{recount}
use Rattle.njs_gen_stmt.proofs.function.declare_function.Goals as goal

pub returns-clause-written : goal.returns-clause-written
returns-clause-written c at d inside s h =
    let bound : Draft = record d { ops = step.bind c.args.d.now.name at d.ops; count = 2 + d.count } in
    let h1 = c.bind_own.ensures.written at d inside s h in
    recount c.write.new.self _ (suc (2 + d.count)) _ d.places d.functions (omega arith)
    (c.write.ensures.written (kind.Closure c.args.d.now.number c.args.d.now.params None) at bound (λ g. refl) s h1)
