use Rattle.njs_interp.proofs.Sorted.{ends_are}
use Rattle.njs_interp.proofs.step.heap.end.Goals as goal

pub unreachable-requires : goal.unreachable-requires
unreachable-requires c = ends_are c.args.at.now.op.now.kind c.requires.family c.in_default.not-EndBody c.in_default.not-EndSwitch c.in_default.not-EndBlock c.in_default.not-Finally
