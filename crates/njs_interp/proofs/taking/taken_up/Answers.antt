use Rattle.std.proofs.Common.{sym, subst}
use Rattle.njs_interp.specs.Leading.{GoesOn}
use Rattle.njs_interp.proofs.Going.{finally_goes}
use Rattle.njs_interp.proofs.taking.taken_up.Goals as goal

pub returns-in-Finally-clause-goes : goal.returns-in-Finally-clause-goes
returns-in-Finally-clause-goes c = subst (λ k. GoesOn k 0 1) (sym c.in-Finally.is) finally_goes
