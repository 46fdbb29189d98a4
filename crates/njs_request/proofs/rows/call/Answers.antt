use Rattle.njs_shared.specs.Heap.{sizes}
use Rattle.njs_request.proofs.Growth.{counts_on}
use Rattle.njs_request.proofs.rows.call.Goals as goal

pub answer_on-requires-clause-status : goal.answer_on-requires-clause-status
answer_on-requires-clause-status g c = c.argument-status.ensures.fits (sizes c.args.machine.now) c.requires.args

pub answer_on-requires-clause-text : goal.answer_on-requires-clause-text
answer_on-requires-clause-text g c = c.argument-text.ensures.fits (sizes c.args.machine.now) c.requires.args

pub returns-clause-steps : goal.returns-clause-steps
returns-clause-steps g c =
    let first = c.args.caller.now in
    let paid = c.charge.new.self in
    let last = c.answer_on.new.caller in
    let before = c.args.steps.now in
    counts_on (g.C.Caller.adds paid before last) (g.C.Caller.adds first before last) c.answer_on.new.steps c.answer_on.result
    (λ n. g.met.C.Caller.adds_on first paid last before before n (c.charge.ensures.steps before)) c.answer_on.ensures.steps
