use Rattle.njs_interp.proofs.Kept.{Grown-refl}
use Rattle.njs_interp.proofs.Sorted.{listed_are}
use Rattle.njs_interp.proofs.step.heap.on_list.Goals as goal

pub unreachable-requires : goal.unreachable-requires
unreachable-requires c = listed_are c.args.at.now.op.now.kind c.requires.family c.in_default.not-NextName c.in_default.not-DropList

pub returns-in-DropList-clause-grown : goal.returns-in-DropList-clause-grown
returns-in-DropList-clause-grown c = Grown-refl c.args.machine.now
