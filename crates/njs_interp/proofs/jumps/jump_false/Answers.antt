use Rattle.njs_interp.proofs.Moves.{jump_false_gives, jump_false_at_jump}
use Rattle.njs_interp.proofs.Kept.{given-none}
use Rattle.njs_interp.proofs.Jumped.{left-at_jump}
use Rattle.njs_interp.proofs.jumps.jump_false.Goals as goal

pub returns-then-to_boolean-clause-leaves : goal.returns-then-to_boolean-clause-leaves
returns-then-to_boolean-clause-leaves c = given-none c.args.at.now.function.now c.args.at.now.op.now c.args.machine.now c.take-value.new.stacks (jump_false_gives c.args.to _ c.requires.kind) c.take-value.ensures.sits

pub returns-else-to_boolean-clause-leaves : goal.returns-else-to_boolean-clause-leaves
returns-else-to_boolean-clause-leaves c = left-at_jump c.args.at.now.function.now c.args.at.now.op.now c.args.machine.now c.take-value.new.stacks (jump_false_at_jump c.args.to _ c.requires.kind) c.take-value.ensures.sits
