use Rattle.njs_interp.proofs.Moves.{null_gives}
use Rattle.njs_interp.proofs.operands.null.Goals as goal

pub give-requires-clause-gives : goal.give-requires-clause-gives
give-requires-clause-gives c = null_gives _ c.requires.kind
