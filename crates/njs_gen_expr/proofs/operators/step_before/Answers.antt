use Rattle.std.proofs.Common.{suc, refl}
use Rattle.njs_code.specs.declared.op.Kind.TheVariants as kind
use Rattle.njs_simul.specs.Emission as emit
use Rattle.njs_simul.specs.Emission.{op, deeper, width}
use Rattle.njs_gen_expr.specs.Written.{Draft}
use Rattle.njs_gen_expr.specs.References.{form_of}
use Rattle.njs_gen_expr.proofs.operators.step_before.Goals as goal

pub returns-clause-written : goal.returns-clause-written
returns-clause-written c at d p s h =
    let form = form_of c.args.r.now in
    let last = emit.assign_to form at d.ops in
    let assigned : Draft = record d { ops = last; count = suc d.count } in
    let stepped : Draft = record d { ops = op (kind.Step c.args.op) (deeper (suc (width form)) at) last; count = suc (suc d.count) } in
    let h1 = c.assign_to.ensures.written at d p s h in
    let h2 = c.write.ensures.written (kind.Step c.args.op) (deeper (suc (width form)) at) assigned (λ g. refl) (c.over.ensures at s) h1 in
    c.write-2.ensures.written kind.ToNumber (deeper (suc (width form)) at) stepped (λ g. refl) (c.over-2.ensures at s) h2
