use Rattle.njs_interp.proofs.Moves.{truth_gives}
use Rattle.njs_interp.proofs.operands.truth.Goals as goal

pub give-requires-clause-gives : goal.give-requires-clause-gives
give-requires-clause-gives c = truth_gives c.args.truth _ c.requires.kind
