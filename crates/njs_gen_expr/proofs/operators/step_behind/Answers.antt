use Rattle.std.proofs.Common.{suc, refl, ap}
use Rattle.njs_code.specs.declared.op.Kind.TheVariants as kind
use Rattle.njs_simul.specs.Emission as emit
use Rattle.njs_simul.specs.Emission.{op, deeper, width}
use Rattle.njs_gen_expr.specs.Written.{Draft}
use Rattle.njs_gen_expr.specs.References.{form_of}
use Rattle.njs_gen_expr.proofs.operators.step_behind.Goals as goal

pub returns-clause-written : goal.returns-clause-written
returns-clause-written c at d p s h =
    let form = form_of c.args.r.now in
    let dropped : Draft = record d { ops = op kind.Drop (deeper 2 at) d.ops; count = suc d.count } in
    let last = emit.assign_to form (deeper 1 at) (op kind.Drop (deeper 2 at) d.ops) in
    let assigned : Draft = record d { ops = last; count = suc (suc d.count) } in
    let step = op (kind.Step c.args.op) (deeper (suc (suc (width form))) at) last in
    let stepped : Draft = record d { ops = step; count = suc (suc (suc d.count)) } in
    let tuck = op (kind.Tuck (width form)) (deeper (suc (width form)) at) step in
    let tucked : Draft = record d { ops = tuck; count = suc (suc (suc (suc d.count))) } in
    let h0 = c.write.ensures.written kind.Drop (deeper 2 at) d (λ g. refl) (c.deeper.ensures at s) h in
    let h1 = c.assign_to.ensures.written (deeper 1 at) dropped (λ g. p (c.write.ensures.stays g)) (c.deeper-2.ensures at s) h0 in
    let h2 = c.write-2.ensures.written (kind.Step c.args.op) (deeper (suc (suc (width form))) at) assigned (λ g. refl) (c.over.ensures at s) h1 in
    let h3 = c.write-3.ensures.written (kind.Tuck (width form)) (deeper (suc (width form)) at) stepped (λ g. ap (λ n. kind.Tuck n) c.width.ensures) (c.over-2.ensures at s) h2 in
    c.write-4.ensures.written kind.ToNumber (deeper (suc (width form)) at) tucked (λ g. refl) (c.over-3.ensures at s) h3
