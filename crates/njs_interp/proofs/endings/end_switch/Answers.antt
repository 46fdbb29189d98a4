use Rattle.njs_interp.proofs.Moves.{end_switch_takes, end_switch_gives}
use Rattle.njs_interp.proofs.Jumped.{untouched}
use Rattle.njs_interp.proofs.endings.end_switch.Goals as goal

pub returns-clause-leaves : goal.returns-clause-leaves
returns-clause-leaves c = untouched c.args.at.now.function.now c.args.at.now.op.now c.args.machine.now c.args.stacks.now (end_switch_takes _ c.requires.kind) (end_switch_gives _ c.requires.kind) c.requires.ready.sits
