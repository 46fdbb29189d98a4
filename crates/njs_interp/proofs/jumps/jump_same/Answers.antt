use Rattle.njs_interp.proofs.Moves.{jump_same_gives, jump_same_at_jump}
use Rattle.njs_interp.proofs.Jumped.{left-at_jump}
use Rattle.njs_interp.proofs.jumps.jump_same.Goals as goal

pub returns-then-is_same-clause-leaves : goal.returns-then-is_same-clause-leaves
returns-then-is_same-clause-leaves c = left-at_jump c.args.at.now.function.now c.args.at.now.op.now c.args.machine.now c.take_two-value.new.stacks (jump_same_at_jump c.args.to _ c.requires.kind) c.take_two-value.ensures.sits

pub push-requires-clause-gives : goal.push-requires-clause-gives
push-requires-clause-gives c = jump_same_gives c.args.to _ c.requires.kind
