use Rattle.njs_interp.proofs.Failures.{named-tells}
use Rattle.njs_interp.proofs.failing.throw_named.Goals as goal

pub returns-clause-told : goal.returns-clause-told
returns-clause-told g c = record {
  by = λ s stands.
      named-tells c.args.machine.now c.throw.new.machine c.args.name s c.sizes-sizes.ensures.fits stands c.throw.ensures.extends c.throw.result c.throw.ensures.throws;
}
