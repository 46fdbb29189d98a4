use Rattle.std.proofs.Common.{sym, subst}
use Rattle.njs_interp.specs.Stepping.{GoesTo, Steps}
use Rattle.njs_interp.specs.Jumps.{LeavesNext}
use Rattle.njs_interp.specs.Dispatch.{OnHeapAlone}
use Rattle.njs_interp.proofs.Lifting.{steps_in_call, goes_next, leaves_next}
use Rattle.njs_interp.proofs.FunctionsFitted.{functions_fit}
use Rattle.njs_interp.proofs.Sorted.{charge_asks}
use Rattle.njs_interp.proofs.step.step_on_heap.Goals as goal

pub returns-clause-told : goal.returns-clause-told
returns-clause-told g c = λ known.
    let old = c.args.machine.now in
    let new = c.on_heap-done.new.machine in
    let first = c.args.caller.now in
    let follows = g.C.Caller.follows first known in
    let agrees = g.C.Caller.agrees first known in
    let stands = g.C.Caller.stands first known old in
    let holds = g.C.Runner.holds first known new in
    let stopped = g.C.Caller.stopped first known in
    let call = c.args.call.now in
    let k = c.args.at.now.op.now.kind in
    let before = c.args.stacks.now in
    let after = c.on_heap-done.new.stacks in
    subst (λ r. Steps follows agrees stands holds stopped call.unit call.this call.args.now k old new before after r) (sym c.next_after.ensures)
    (steps_in_call stands holds stopped old new (λ s here. g.C.Runner.heap_is first known old s (g.met.C.Runner.holds_of first known old s here))
    (λ s t here stands beside. g.met.C.Runner.holds_by first known old new s t here stands c.sizes-sizes.ensures.fits beside) (g.met.C.Caller.stops first known old) (g.met.C.Caller.stopped_as first known)
    follows agrees call.unit call.this call.args.now k before after c.on_heap-done.result c.on_heap-done.ensures.told)

pub returns-clause-goes : goal.returns-clause-goes
returns-clause-goes g c = subst (GoesTo c.args.at.now.op.now.kind) (sym c.next_after.ensures) (goes_next c.args.at.now.op.now.kind c.on_heap-done.result c.on_heap-done.ensures.goes)

pub returns-clause-leaves : goal.returns-clause-leaves
returns-clause-leaves g c =
    let f = c.args.at.now.function.now in
    let op = c.args.at.now.op.now in
    let new = c.on_heap-done.new.machine in
    let after = c.on_heap-done.new.stacks in
    subst (LeavesNext f op new after) (sym c.next_after.ensures) (leaves_next f op new after c.on_heap-done.result c.on_heap-done.ensures.leaves)

pub returns-clause-falls : goal.returns-clause-falls
returns-clause-falls g c = λ is. absurd (subst OnHeapAlone (charge_asks c.args.at.now.op.now.kind is) c.requires.family)

pub returns-clause-spends : goal.returns-clause-spends
returns-clause-spends g c = λ is. absurd (subst OnHeapAlone (charge_asks c.args.at.now.op.now.kind is) c.requires.family)

pub returns-clause-fits : goal.returns-clause-fits
returns-clause-fits g c =
    let old = c.args.machine.now in
    let new = c.on_heap-done.new.machine in
    let caller = c.args.caller.now in
    g.met.C.Runner.fits_grown caller old new c.requires.fits c.on_heap-done.ensures.grown.widens (functions_fit (g.C.Caller.lent caller).counts old new c.on_heap-done.ensures.grown)

pub returns-clause-widens : goal.returns-clause-widens
returns-clause-widens g c = c.on_heap-done.ensures.grown.widens
