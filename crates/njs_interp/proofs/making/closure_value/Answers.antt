use Rattle.std.proofs.Common.{Err, refl, sym, ◌∙◌, arith}
use Rattle.njs_value.specs.declared.Value.{Value}
use Rattle.njs_shared.specs.Heap.{sizes}
use Rattle.njs_shared.specs.Fits.{FitsValue}
use Rattle.njs_code.specs.Valid.{closure_slots}
use Rattle.njs_interp.specs.Acts.{OnHeap, Unanswered}
use Rattle.njs_interp.specs.Closures.{scoped, made_named}
use Rattle.njs_interp.proofs.Kept.{Widens-trans, Widens-objects}
use Rattle.njs_interp.proofs.FunctionsFitted.{functions_fit, functions-trans}
use Rattle.njs_interp.proofs.ClosureScopes.{beside-trans, closure-unanswered, closure-spent, closure-made, has-name-paid, scoped-paid, scoped-unpaid, unanswered-beside}
use Rattle.njs_interp.proofs.HeldTells.{tells-on, held, stopped-still, fuel-fits, counts-same}
use Rattle.njs_interp.proofs.making.closure_value.Goals as goal

pub returns-in-Err-clause-told : goal.returns-in-Err-clause-told
returns-in-Err-clause-told g c = λ known. record {
  by = λ s stands.
      let m = c.args.making in
      let caller = c.args.caller.now in
      let none = closure-unanswered m.unit m.number m.params m.scope c.args.name.now s in
      g.met.C.Caller.stopped_as caller known s _ none.zones none.asked (g.met.C.Caller.stops caller known c.args.machine.now s stands);
}

pub returns-in-Err-clause-fits : goal.returns-in-Err-clause-fits
returns-in-Err-clause-fits g c =
    let h = c.args.machine.now in
    let k = c.scope_for.new.machine in
    let caller = c.args.caller.now in
    g.met.C.Runner.fits_grown caller h k c.requires.fits c.in-Err.ensures.grown.widens (functions_fit (g.C.Caller.lent caller).counts h k c.in-Err.ensures.grown)

pub returns-in-Err-clause-widens : goal.returns-in-Err-clause-widens
returns-in-Err-clause-widens g c = c.in-Err.ensures.grown.widens

pub function_in-made-requires-clause-first : goal.function_in-made-requires-clause-first
function_in-made-requires-clause-first g c = omega (arith, c.requires.first, Widens-objects c.args.machine.now c.scope_for.new.machine c.in-Ok.ensures.grown.widens)

pub returns-in-Ok-charge-clause-told : goal.returns-in-Ok-charge-clause-told
returns-in-Ok-charge-clause-told g c = λ known. record {
  by = λ s stands.
      let m = c.args.making in
      let name = c.args.name.now in
      let h = c.args.machine.now in
      let l = c.function_in-made.new.machine in
      let first = c.args.caller.now in
      let caller = c.charge.new.self in
      let stopped = g.C.Caller.stopped caller known in
      let scope = c.in-Ok.scope in
      let left = g.C.Caller.ticks_of caller in
      let t = record s { ticks = left } in
      let u = record (scoped name m.scope s) { ticks = left } in
      let here = c.charge.ensures.stands known h s stands in
      let heap = g.C.Runner.heap_is first known h s (g.met.C.Runner.holds_of first known h s stands) in
      let place = c.in-Ok.ensures.scope in
      let given = c.function_in-made.result in
      let kept = scoped-paid name m.scope s left in
      closure-made m.unit m.number m.params m.scope name s (λ t. g.C.Runner.holds caller known l t × stopped t) stopped l.texts (g.C.Caller.ticks_of first) left scope given (g.met.C.Caller.ticks_are first known h s stands)
      c.in-Ok-charge.ensures.ok.0 c.in-Ok-charge.ensures.ok.1 (place.is s heap)
      (tells-on (OnHeap l u) (λ t. g.C.Runner.holds caller known l t × stopped t) (Unanswered u) stopped l.texts given (made_named m.unit m.number m.params scope name u)
      (λ v on. held (g.C.Caller.stands caller known) (g.C.Runner.holds caller known) stopped (g.met.C.Runner.holds_by caller known) (g.met.C.Caller.stops caller known) (g.met.C.Caller.stopped_as caller known) h l t v here on.stands c.sizes-made.ensures.fits (beside-trans t u v kept on.beside))
      (λ v none. stopped-still (g.C.Caller.stands caller known) (g.C.Runner.holds caller known) stopped (g.met.C.Runner.holds_by caller known) (g.met.C.Caller.stops caller known) (g.met.C.Caller.stopped_as caller known) h t v here (unanswered-beside t u v kept none))
      (c.function_in-made.ensures.told.by u (place.by s heap).stands (has-name-paid name scope (scoped name m.scope s) left (place.named s heap))));
}

pub returns-in-Ok-charge-clause-fits : goal.returns-in-Ok-charge-clause-fits
returns-in-Ok-charge-clause-fits g c =
    let h = c.args.machine.now in
    let k = c.scope_for.new.machine in
    let l = c.function_in-made.new.machine in
    let caller = c.charge.new.self in
    let counts = (g.C.Caller.lent c.args.caller.now).counts in
    let grown = c.in-Ok.ensures.grown in
    let counted = c.requires.counts in
    let slots = closure_slots counted.slots counted.count c.args.name.now in
    g.met.C.Runner.fits_grown caller h l (c.charge.ensures.fits h c.requires.fits) (Widens-trans h k l grown.widens c.function_in-made.ensures.widens)
    (counts-same h l (g.C.Caller.lent c.args.caller.now) (g.C.Caller.lent caller) c.charge.ensures.same
    (functions-trans counts h k l (functions_fit counts h k grown) c.function_in-made.ensures.widens
    (c.function_in-made.ensures.functions counts slots counted.counted (c.in-Ok.ensures.scope.from counted.slots counted.count counted.there))))

pub returns-in-Ok-charge-clause-widens : goal.returns-in-Ok-charge-clause-widens
returns-in-Ok-charge-clause-widens g c = Widens-trans c.args.machine.now c.scope_for.new.machine c.function_in-made.new.machine c.in-Ok.ensures.grown.widens c.function_in-made.ensures.widens

pub returns-in-Err-charge-clause-told : goal.returns-in-Err-charge-clause-told
returns-in-Err-charge-clause-told g c = λ known. record {
  by = λ s stands.
      let m = c.args.making in
      let name = c.args.name.now in
      let h = c.args.machine.now in
      let k = c.scope_for.new.machine in
      let first = c.args.caller.now in
      let caller = c.charge.new.self in
      let stopped = g.C.Caller.stopped caller known in
      let left = g.C.Caller.ticks_of caller in
      let own = g.met.C.Caller.ticks_are first known h s stands in
      let here = c.charge.ensures.stands known h s stands in
      let heap = g.C.Runner.heap_is first known h s (g.met.C.Runner.holds_of first known h s stands) in
      closure-spent m.unit m.number m.params m.scope name s (λ t. g.C.Runner.holds caller known k t × stopped t) stopped k.texts (g.C.Caller.ticks_of first) left c.in-Err-charge.stop (Err c.in-Err-charge.stop) own refl c.in-Err-charge.ensures.err
      (held (g.C.Caller.stands caller known) (g.C.Runner.holds caller known) stopped (g.met.C.Runner.holds_by caller known) (g.met.C.Caller.stops caller known) (g.met.C.Caller.stopped_as caller known) h k (record s { ticks = left }) (scoped name m.scope s) here
      (c.in-Ok.ensures.scope.by s heap).stands c.sizes-scoped.ensures.fits (scoped-unpaid name m.scope s left (c.in-Err-charge.ensures.err.2 ∙ sym own)));
}

pub returns-in-Err-charge-clause-value : goal.returns-in-Err-charge-clause-value
returns-in-Err-charge-clause-value g c = fuel-fits {V = Value} (FitsValue (sizes c.scope_for.new.machine)) (sizes c.scope_for.new.machine) c.in-Err-charge.stop (Err c.in-Err-charge.stop) refl c.in-Err-charge.ensures.err.0

pub returns-in-Err-charge-clause-fits : goal.returns-in-Err-charge-clause-fits
returns-in-Err-charge-clause-fits g c =
    let h = c.args.machine.now in
    let k = c.scope_for.new.machine in
    let caller = c.charge.new.self in
    g.met.C.Runner.fits_grown caller h k (c.charge.ensures.fits h c.requires.fits) c.in-Ok.ensures.grown.widens (functions_fit (g.C.Caller.lent caller).counts h k c.in-Ok.ensures.grown)

pub returns-in-Err-charge-clause-widens : goal.returns-in-Err-charge-clause-widens
returns-in-Err-charge-clause-widens g c = c.in-Ok.ensures.grown.widens
