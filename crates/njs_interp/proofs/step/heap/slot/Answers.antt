use Rattle.njs_interp.proofs.Kept.{Grown-refl}
use Rattle.njs_interp.proofs.Sorted.{slots_are}
use Rattle.njs_interp.proofs.step.heap.slot.Goals as goal

pub unreachable-requires : goal.unreachable-requires
unreachable-requires g c = slots_are c.args.at.now.op.now.kind c.requires.family c.in_default.not-Load c.in_default.not-Store c.in_default.not-LoadGlobal c.in_default.not-StoreGlobal c.in_default.not-Enter c.in_default.not-Leave

pub returns-in-Load-clause-grown : goal.returns-in-Load-clause-grown
returns-in-Load-clause-grown g c = Grown-refl c.args.machine.now

pub returns-in-LoadGlobal-clause-grown : goal.returns-in-LoadGlobal-clause-grown
returns-in-LoadGlobal-clause-grown g c = Grown-refl c.args.machine.now

pub returns-in-Leave-clause-grown : goal.returns-in-Leave-clause-grown
returns-in-Leave-clause-grown g c = Grown-refl c.args.machine.now
