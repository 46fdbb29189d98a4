use Rattle.njs_interp.proofs.Kept.{given-none}
use Rattle.njs_interp.proofs.Moves.{drop_top_gives}
use Rattle.njs_interp.proofs.operands.drop_top.Goals as goal

pub returns-clause-leaves : goal.returns-clause-leaves
returns-clause-leaves c = given-none c.args.at.now.function.now c.args.at.now.op.now c.args.machine.now c.take.new.stacks (drop_top_gives _ c.requires.kind) c.take.ensures.sits
