use Rattle.njs_interp.proofs.Moves.{jump_takes, jump_at_jump}
use Rattle.njs_interp.proofs.Kept.{taken-none}
use Rattle.njs_interp.proofs.Jumped.{left-at_jump}
use Rattle.njs_interp.proofs.jumps.jump.Goals as goal

pub returns-clause-leaves : goal.returns-clause-leaves
returns-clause-leaves c = left-at_jump c.args.at.now.function.now c.args.at.now.op.now c.args.machine.now c.args.stacks.now (jump_at_jump c.args.to _ c.requires.kind) (taken-none c.args.at.now.function.now c.args.at.now.op.now c.args.machine.now c.args.stacks.now (jump_takes c.args.to _ c.requires.kind) c.requires.ready.sits)
