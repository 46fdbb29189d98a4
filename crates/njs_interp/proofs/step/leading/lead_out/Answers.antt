use Rattle.njs_interp.proofs.Sorted.{leading_are}
use Rattle.njs_interp.proofs.step.leading.lead_out.Goals as goal

pub unreachable-requires : goal.unreachable-requires
unreachable-requires c = leading_are c.args.at.now.op.now.kind c.requires.family c.in_default.not-Return c.in_default.not-Break c.in_default.not-Continue c.in_default.not-Throw c.in_default.not-Resume
