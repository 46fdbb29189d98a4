use Rattle.std.proofs.Common.{◌≡◌, sym, subst, ◌∙◌}
use Rattle.njs_interp.specs.declared.families.Family.TheVariants as family
use Rattle.njs_interp.specs.Stepping.{GoesTo, Steps}
use Rattle.njs_interp.specs.Jumps.{LeavesNext}
use Rattle.njs_interp.proofs.Lifting.{steps_called, goes_next, leaves_next}
use Rattle.njs_interp.proofs.Sorted.{continues, charge_asks}
use Rattle.njs_interp.proofs.step.step_in_call.Goals as goal

pub returns-clause-told : goal.returns-clause-told
returns-clause-told g c = λ known.
    let old = c.args.machine.now in
    let new = c.ask_in_call-done.new.machine in
    let first = c.args.caller.now in
    let caller = c.ask_in_call-done.new.caller in
    let follows = g.C.Caller.follows first known in
    let agrees = g.C.Caller.agrees caller known in
    let stands = g.C.Caller.stands first known old in
    let holds = g.C.Runner.holds caller known new in
    let stopped = g.C.Caller.stopped caller known in
    let call = c.args.call.now in
    let k = c.args.at.now.op.now.kind in
    let before = c.args.stacks.now in
    let after = c.ask_in_call-done.new.stacks in
    subst (λ r. Steps follows agrees stands holds stopped call.unit call.this call.args.now k old new before after r) (sym c.next_after.ensures)
    (steps_called follows agrees stands holds stopped call.unit call.this call.args.now k old new before after c.ask_in_call-done.result (c.ask_in_call-done.ensures.told known))

pub returns-clause-goes : goal.returns-clause-goes
returns-clause-goes g c =
    let k = c.args.at.now.op.now.kind in
    subst (GoesTo k) (sym c.next_after.ensures) (goes_next k c.ask_in_call-done.result (continues k c.ask_in_call-done.result family.Called c.requires.family tt))

pub returns-clause-leaves : goal.returns-clause-leaves
returns-clause-leaves g c =
    let f = c.args.at.now.function.now in
    let op = c.args.at.now.op.now in
    let new = c.ask_in_call-done.new.machine in
    let after = c.ask_in_call-done.new.stacks in
    subst (LeavesNext f op new after) (sym c.next_after.ensures) (leaves_next f op new after c.ask_in_call-done.result c.ask_in_call-done.ensures.leaves)

pub returns-clause-falls : goal.returns-clause-falls
returns-clause-falls g c = λ is. let no : family.Called ≡ family.Asked = sym c.requires.family ∙ charge_asks c.args.at.now.op.now.kind is in cc

pub returns-clause-spends : goal.returns-clause-spends
returns-clause-spends g c = λ is. let no : family.Called ≡ family.Asked = sym c.requires.family ∙ charge_asks c.args.at.now.op.now.kind is in cc
