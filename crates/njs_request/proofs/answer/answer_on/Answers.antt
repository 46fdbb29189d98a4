use Rattle.std.proofs.Common.{sym, subst}
use Rattle.njs_value.specs.declared.Value.{Value}
use Rattle.njs_convert.proofs.Grown.{Grows-Extends}
use Rattle.njs_request.proofs.Growth.{thrown_counts}
use Rattle.njs_request.proofs.answer.answer_on.Goals as goal

pub returns-then-not-is_request-clause-grows : goal.returns-then-not-is_request-clause-grows
returns-then-not-is_request-clause-grows g c = Grows-Extends c.args.machine.now c.throw.new.machine c.throw.ensures.extends

pub returns-then-not-is_request-clause-steps : goal.returns-then-not-is_request-clause-steps
returns-then-not-is_request-clause-steps g c =
    thrown_counts Value (g.C.Caller.adds c.args.caller.now c.args.steps.now c.args.caller.now) c.args.steps.now c.throw.new.steps c.throw.result (g.met.C.Caller.adds_none c.args.caller.now c.args.steps.now)
    c.throw.ensures.steps

pub returns-then-not-is_open-clause-grows : goal.returns-then-not-is_open-clause-grows
returns-then-not-is_open-clause-grows g c = Grows-Extends c.args.machine.now c.throw-then-not-is_open.new.machine c.throw-then-not-is_open.ensures.extends

pub returns-then-not-is_open-clause-steps : goal.returns-then-not-is_open-clause-steps
returns-then-not-is_open-clause-steps g c =
    let caller = c.args.caller.now in
    let before = c.args.steps.now in
    thrown_counts Value (g.C.Caller.adds caller before c.is_open.new.caller) before c.throw-then-not-is_open.new.steps c.throw-then-not-is_open.result
    (subst (λ d. g.C.Caller.adds caller before d before) (sym c.is_open.ensures.same) (g.met.C.Caller.adds_none caller before)) c.throw-then-not-is_open.ensures.steps
