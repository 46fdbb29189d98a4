use Rattle.njs_convert.proofs.Grown.{Extends-refl}
use Rattle.njs_interp.proofs.Alone.{gained_extends}
use Rattle.njs_interp.proofs.operators.plain.answered.Goals as goal

pub returns-in-Ok-value_of-clause-extends : goal.returns-in-Ok-value_of-clause-extends
returns-in-Ok-value_of-clause-extends g c = gained_extends c.args.machine.now c.value_of.new.machine c.in-Ok-value_of.ensures.texts

pub returns-in-Err-clause-extends : goal.returns-in-Err-clause-extends
returns-in-Err-clause-extends g c = gained_extends c.args.machine.now c.value_of.new.machine c.in-Err.ensures.texts

pub returns-in-Err-NoMemory-clause-extends : goal.returns-in-Err-NoMemory-clause-extends
returns-in-Err-NoMemory-clause-extends g c = Extends-refl c.args.machine.now
