use Rattle.std.proofs.Common.{sym, subst}
use Rattle.njs_code.specs.declared.op.Kind.TheVariants as kind
use Rattle.njs_interp.specs.Dispatch.{AsksInCall}
use Rattle.njs_interp.proofs.Lifting.{asks_in_call}
use Rattle.njs_interp.proofs.Sorted.{called_are}
use Rattle.njs_interp.proofs.step.asked.ask_in_call.Goals as goal

pub unreachable-requires : goal.unreachable-requires
unreachable-requires g c = called_are c.args.at.now.op.now.kind c.requires.family c.in_default.not-Call c.in_default.not-New c.in_default.not-Closure c.in_default.not-Arguments

pub returns-in-Call-clause-told : goal.returns-in-Call-clause-told
returns-in-Call-clause-told g c = λ known.
    let old = c.args.machine.now in
    let new = c.call.new.machine in
    let first = c.args.caller.now in
    let caller = c.call.new.caller in
    let call = c.args.call.now in
    let before = c.args.stacks.now in
    let after = c.call.new.stacks in
    let follows = g.C.Caller.follows first known in
    let agrees = g.C.Caller.agrees caller known in
    let stands = g.C.Caller.stands first known old in
    let holds = g.C.Runner.holds caller known new in
    let stopped = g.C.Caller.stopped caller known in
    subst (λ k. AsksInCall follows agrees stands holds stopped call.unit call.this call.args.now k old new before after c.call.result) (sym c.in-Call.is)
    (asks_in_call follows agrees stands holds stopped call.unit call.this call.args.now (kind.Call c.in-Call.count) old new before after c.call.result (c.call.ensures.told known))

pub returns-in-New-clause-told : goal.returns-in-New-clause-told
returns-in-New-clause-told g c = λ known.
    let old = c.args.machine.now in
    let new = c.construct.new.machine in
    let first = c.args.caller.now in
    let caller = c.construct.new.caller in
    let call = c.args.call.now in
    let before = c.args.stacks.now in
    let after = c.construct.new.stacks in
    let follows = g.C.Caller.follows first known in
    let agrees = g.C.Caller.agrees caller known in
    let stands = g.C.Caller.stands first known old in
    let holds = g.C.Runner.holds caller known new in
    let stopped = g.C.Caller.stopped caller known in
    subst (λ k. AsksInCall follows agrees stands holds stopped call.unit call.this call.args.now k old new before after c.construct.result) (sym c.in-New.is)
    (asks_in_call follows agrees stands holds stopped call.unit call.this call.args.now (kind.New c.in-New.count) old new before after c.construct.result (c.construct.ensures.told known))
