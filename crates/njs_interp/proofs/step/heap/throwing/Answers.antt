use Rattle.njs_interp.proofs.Sorted.{failing_are}
use Rattle.njs_interp.proofs.step.heap.throwing.Goals as goal

pub unreachable-requires : goal.unreachable-requires
unreachable-requires g c = failing_are c.args.at.now.op.now.kind c.requires.family c.in_default.not-Fail
