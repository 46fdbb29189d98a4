use Rattle.std.proofs.Common.{suc, refl, ap}
use Rattle.njs_code.specs.declared.op.Kind.TheVariants as kind
use Rattle.njs_simul.specs.Emission.{op, deeper}
use Rattle.njs_gen_expr.specs.Written.{Draft}
use Rattle.njs_gen_expr.proofs.operators.key.Goals as goal

pub returns-clause-written : goal.returns-clause-written
returns-clause-written c at d s h =
    let text = c.args.name.now in
    let after : Draft = record d { ops = op (kind.Str text) (deeper 1 at) d.ops; count = suc d.count } in
    let h1 = c.write.ensures.written (kind.Str text) (deeper 1 at) d (λ g. ap (λ text. kind.Str text) (c.copy-copy.ensures.copied g)) (c.deeper.ensures at s) (c.copy-copy.ensures.holds d h) in
    c.write-2.ensures.written kind.Base (deeper 1 at) after (λ g. refl) (c.deeper-2.ensures at s) h1
