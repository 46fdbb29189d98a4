use Rattle.njs_interp.proofs.Kept.{Grown-same, Grown-trans}
use Rattle.njs_interp.proofs.Reached.{put-grown}
use Rattle.njs_interp.proofs.Entering.{mid-grown, mid-slot, mid-set}
use Rattle.njs_interp.proofs.slots.scope_with.Goals as goal

pub returns-in-Err-clause-grown : goal.returns-in-Err-clause-grown
returns-in-Err-clause-grown g c = Grown-same c.args.machine.now c.new_scope.new.self c.in-Err.ensures.err

pub put-requires-clause-slot : goal.put-requires-clause-slot
put-requires-clause-slot g c = mid-slot c.args.machine.now c.new_scope.new.self c.args.parent c.in-Ok.ensures.ok c.in-Ok.scope.0 c.in-Ok.ensures.number

pub returns-in-Ok-put-clause-entered : goal.returns-in-Ok-put-clause-entered
returns-in-Ok-put-clause-entered g c = (c.in-Ok.ensures.number, mid-set c.args.machine.now c.new_scope.new.self c.args.parent c.in-Ok.ensures.ok c.put.new.machine c.in-Ok.scope.0 c.args.value c.in-Ok.ensures.number c.in-Ok-put.ensures.put)

pub returns-in-Ok-put-clause-grown : goal.returns-in-Ok-put-clause-grown
returns-in-Ok-put-clause-grown g c = Grown-trans c.args.machine.now c.new_scope.new.self c.put.new.machine (mid-grown c.args.machine.now c.new_scope.new.self c.args.parent c.in-Ok.ensures.ok) (put-grown c.in-Ok.scope.0 0 c.args.value c.new_scope.new.self c.put.new.machine c.put.result c.put.ensures.put)

pub returns-in-Err-put-clause-grown : goal.returns-in-Err-put-clause-grown
returns-in-Err-put-clause-grown g c = Grown-trans c.args.machine.now c.new_scope.new.self c.put.new.machine (mid-grown c.args.machine.now c.new_scope.new.self c.args.parent c.in-Ok.ensures.ok) (put-grown c.in-Ok.scope.0 0 c.args.value c.new_scope.new.self c.put.new.machine c.put.result c.put.ensures.put)
