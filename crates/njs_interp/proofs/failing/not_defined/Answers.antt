use Rattle.std.proofs.Common.{Err, subst}
use Rattle.njs_meaning.specs.Running.{throw_not_defined}
use Rattle.njs_interp.specs.Outcomes.{MeansOnHeap}
use Rattle.njs_interp.proofs.Extending.{extends-gained, extends-trans, means-gained}
use Rattle.njs_interp.proofs.Failures.{named-stopped}
use Rattle.njs_interp.proofs.failing.not_defined.Goals as goal

pub returns-in-Err-clause-told : goal.returns-in-Err-clause-told
returns-in-Err-clause-told g c = named-stopped c.args.machine.now c.add_name.new.machine c.args.name.now

pub returns-in-Err-clause-extends : goal.returns-in-Err-clause-extends
returns-in-Err-clause-extends g c = extends-gained c.args.machine.now c.add_name.new.machine c.in-Err.ensures.texts

pub returns-clause-told : goal.returns-clause-told
returns-clause-told g c =
    let h = c.args.machine.now in
    let k = c.add_name.new.machine in
    let l = c.throw_named.new.machine in
    means-gained h k l (Err c.throw_named.result) (throw_not_defined c.args.name.now) c.sizes-sizes.ensures.fits c.in-Ok.ensures.texts
    (subst (λ text. MeansOnHeap k l (Err c.throw_named.result) (throw_not_defined text)) c.in-Ok.ensures.name c.throw_named.ensures.told)

pub returns-clause-extends : goal.returns-clause-extends
returns-clause-extends g c =
    extends-trans c.args.machine.now c.add_name.new.machine c.throw_named.new.machine (extends-gained c.args.machine.now c.add_name.new.machine c.in-Ok.ensures.texts) c.throw_named.ensures.extends
