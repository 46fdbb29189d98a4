use Rattle.njs_interp.proofs.Moves.{end_body_takes, end_body_gives}
use Rattle.njs_interp.proofs.Jumped.{untouched}
use Rattle.njs_interp.proofs.endings.end_body.Goals as goal

pub returns-clause-leaves : goal.returns-clause-leaves
returns-clause-leaves c = untouched c.args.at.now.function.now c.args.at.now.op.now c.args.machine.now c.args.stacks.now (end_body_takes c.args.labels.now c.args.past _ c.requires.kind) (end_body_gives c.args.labels.now c.args.past _ c.requires.kind) c.requires.ready.sits
