use Rattle.njs_interp.proofs.Standing.{extends-nothing}
use Rattle.njs_interp.proofs.Stepped.{number-means, stays-means}
use Rattle.njs_interp.proofs.operators.updates.stepped_from.Goals as goal

pub returns-in-Num-clause-told : goal.returns-in-Num-clause-told
returns-in-Num-clause-told g c = number-means c.args.machine.now c.stepped.new.machine c.stepped.result c.args.op c.args.value c.in-Num.is c.stepped.ensures.told

pub returns-in_default-clause-told : goal.returns-in_default-clause-told
returns-in_default-clause-told g c = stays-means c.args.machine.now c.args.op c.args.value c.in_default.not-Num

pub returns-in_default-clause-extends : goal.returns-in_default-clause-extends
returns-in_default-clause-extends g c = extends-nothing c.args.machine.now
