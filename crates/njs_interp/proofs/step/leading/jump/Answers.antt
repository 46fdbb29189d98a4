use Rattle.njs_interp.proofs.Sorted.{jumps_are}
use Rattle.njs_interp.proofs.step.leading.jump.Goals as goal

pub unreachable-requires : goal.unreachable-requires
unreachable-requires c = jumps_are c.args.at.now.op.now.kind c.requires.family c.in_default.not-Jump c.in_default.not-JumpFalse c.in_default.not-JumpLogical c.in_default.not-JumpSame c.in_default.not-MoreNames
