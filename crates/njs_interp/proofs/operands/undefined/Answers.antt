use Rattle.njs_interp.proofs.Moves.{undefined_gives}
use Rattle.njs_interp.proofs.operands.undefined.Goals as goal

pub give-requires-clause-gives : goal.give-requires-clause-gives
give-requires-clause-gives c = undefined_gives _ c.requires.kind
