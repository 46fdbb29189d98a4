use Rattle.njs_interp.proofs.Moves.{nip_gives}
use Rattle.njs_interp.proofs.operands.nip.Goals as goal

pub push-requires-clause-gives : goal.push-requires-clause-gives
push-requires-clause-gives c = nip_gives _ c.requires.kind
