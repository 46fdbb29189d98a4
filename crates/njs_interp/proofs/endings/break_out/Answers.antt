use Rattle.njs_interp.proofs.Moves.{break_takes}
use Rattle.njs_interp.proofs.Kept.{taken-none}
use Rattle.njs_interp.proofs.endings.break_out.Goals as goal

pub returns-clause-leaves : goal.returns-clause-leaves
returns-clause-leaves c = (taken-none c.args.at.now.function.now c.args.at.now.op.now c.args.machine.now c.args.stacks.now (break_takes c.args.label.now _ c.requires.kind) c.requires.ready.sits, tt)
