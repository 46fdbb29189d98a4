use Rattle.std.proofs.Common.{suc, refl}
use Rattle.njs_code.specs.declared.op.Kind.TheVariants as kind
use Rattle.njs_simul.specs.Emission as emit
use Rattle.njs_simul.specs.Emission.{value, value_size, deeper, op, address}
use Rattle.njs_gen_expr.specs.Written.{Draft}
use Rattle.njs_gen_expr.specs.References.{form_of}
use Rattle.njs_gen_stmt.proofs.parts.assign_next.Goals as goal

pub returns-clause-written : goal.returns-clause-written
returns-clause-written c at d p s h =
    let form = form_of c.args.r.now in
    let bound : Draft = record d { ops = emit.assign_to form at (op kind.Drop (deeper 1 at) d.ops); count = suc (suc d.count) } in
    let h1 = c.bind.ensures.written at d p s h in
    c.write.ensures.written kind.NextName (deeper (emit.width form) at) bound (λ g. refl) (c.over.ensures at s) h1
