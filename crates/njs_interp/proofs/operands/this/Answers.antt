use Rattle.njs_interp.proofs.Moves.{this_gives}
use Rattle.njs_interp.proofs.operands.this.Goals as goal

pub give-requires-clause-gives : goal.give-requires-clause-gives
give-requires-clause-gives c = this_gives _ c.requires.kind
