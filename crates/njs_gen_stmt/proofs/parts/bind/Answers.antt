use Rattle.std.proofs.Common.{suc, refl}
use Rattle.njs_code.specs.declared.op.Kind.TheVariants as kind
use Rattle.njs_simul.specs.Emission.{deeper, op}
use Rattle.njs_gen_expr.specs.Written.{Draft}
use Rattle.njs_gen_stmt.proofs.parts.bind.Goals as goal

pub returns-clause-written : goal.returns-clause-written
returns-clause-written c at d p s h =
    let dropped : Draft = record d { ops = op kind.Drop (deeper 1 at) d.ops; count = suc d.count } in
    let h1 = c.write.ensures.written kind.Drop (deeper 1 at) d (λ g. refl) (c.deeper.ensures at s) h in
    c.assign_to.ensures.written at dropped (λ g. p (c.write.ensures.stays g)) s h1
