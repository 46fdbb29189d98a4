use Rattle.njs_interp.proofs.Sorted.{made_are}
use Rattle.njs_interp.proofs.step.heap.made.Goals as goal

pub unreachable-requires : goal.unreachable-requires
unreachable-requires g c = made_are c.args.at.now.op.now.kind c.requires.family c.in_default.not-Step c.in_default.not-NewArray c.in_default.not-NewObject c.in_default.not-Define
