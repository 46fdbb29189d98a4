use Rattle.njs_interp.proofs.Moves.{end_block_gives}
use Rattle.njs_interp.proofs.endings.end_block.Goals as goal

pub give-requires-clause-gives : goal.give-requires-clause-gives
give-requires-clause-gives c = end_block_gives _ c.requires.kind
