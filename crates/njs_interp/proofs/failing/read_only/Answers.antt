use Rattle.std.proofs.Common.{refl}
use Rattle.njs_value.specs.declared.Cause.TheVariants.{ReadOnly}
use Rattle.njs_interp.proofs.Kept.{OnHeap-refl}
use Rattle.njs_interp.proofs.Standing.{thrown-tells}
use Rattle.njs_interp.proofs.failing.read_only.Goals as goal

pub returns-clause-told : goal.returns-clause-told
returns-clause-told g c = record {
  by = λ s stands.
      thrown-tells c.args.machine.now c.throw.new.machine ReadOnly s s c.sizes-sizes.ensures.fits (OnHeap-refl c.args.machine.now s stands) refl c.throw.ensures.extends c.throw.result c.throw.ensures.throws;
}
