use Rattle.njs_interp.proofs.Sorted.{asked_are}
use Rattle.njs_interp.proofs.step.asked.ask.Goals as goal

pub unreachable-requires : goal.unreachable-requires
unreachable-requires g c = asked_are c.args.at.now.op.now.kind c.requires.family c.in_default.not-Charge c.in_default.not-Key c.in_default.not-Binary c.in_default.not-Unary c.in_default.not-ToNumber c.in_default.not-ListNames
