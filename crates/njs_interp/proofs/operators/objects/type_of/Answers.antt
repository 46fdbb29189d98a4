use Rattle.njs_interp.proofs.Alone.{gained_extends}
use Rattle.njs_interp.proofs.operators.objects.type_of.Goals as goal

pub returns-in-Ok-clause-extends : goal.returns-in-Ok-clause-extends
returns-in-Ok-clause-extends g c = gained_extends c.args.machine.now c.text_value.new.machine c.in-Ok.ensures.texts

pub returns-in-Err-clause-extends : goal.returns-in-Err-clause-extends
returns-in-Err-clause-extends g c = gained_extends c.args.machine.now c.text_value.new.machine c.in-Err.ensures.texts
