use Rattle.njs_interp.proofs.Moves.{jump_logical_takes, jump_logical_gives, jump_logical_at_jump}
use Rattle.njs_interp.proofs.Kept.{given-none}
use Rattle.njs_interp.proofs.Jumped.{stays-at_jump}
use Rattle.njs_interp.proofs.jumps.jump_logical.Goals as goal

pub returns-then-leaves_out-clause-leaves : goal.returns-then-leaves_out-clause-leaves
returns-then-leaves_out-clause-leaves c = stays-at_jump c.args.at.now.function.now c.args.at.now.op.now c.args.machine.now c.args.stacks.now (jump_logical_takes c.args.op c.args.to _ c.requires.kind) (jump_logical_at_jump c.args.op c.args.to _ c.requires.kind) c.requires.ready.operands c.requires.ready.sits

pub returns-clause-leaves : goal.returns-clause-leaves
returns-clause-leaves c = given-none c.args.at.now.function.now c.args.at.now.op.now c.args.machine.now c.take.new.stacks (jump_logical_gives c.args.op c.args.to _ c.requires.kind) c.take.ensures.sits
