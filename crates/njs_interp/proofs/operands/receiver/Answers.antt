use Rattle.njs_interp.proofs.Moves.{receiver_gives}
use Rattle.njs_interp.proofs.operands.receiver.Goals as goal

pub push_two-requires-clause-gives : goal.push_two-requires-clause-gives
push_two-requires-clause-gives c = receiver_gives _ c.requires.kind
