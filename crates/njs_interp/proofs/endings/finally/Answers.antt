use Rattle.njs_interp.proofs.Jumped.{waits}
use Rattle.njs_interp.proofs.endings.finally.Goals as goal

pub returns-in-Ok-clause-leaves : goal.returns-in-Ok-clause-leaves
returns-in-Ok-clause-leaves c = waits c.args.at.now.function.now c.args.at.now.op.now c.args.machine.now c.args.stacks.now c.push.new.self c.requires.kind c.in-Ok.ensures.ok c.requires.ready.sits
