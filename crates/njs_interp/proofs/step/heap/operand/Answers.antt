use Rattle.njs_interp.proofs.Sorted.{moves_are}
use Rattle.njs_interp.proofs.step.heap.operand.Goals as goal

pub unreachable-requires : goal.unreachable-requires
unreachable-requires c = moves_are c.args.at.now.op.now.kind c.requires.family c.in_default.not-Tuck c.in_default.not-Drop c.in_default.not-Nip c.in_default.not-Receiver
