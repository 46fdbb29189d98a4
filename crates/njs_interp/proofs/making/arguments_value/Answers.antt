use Rattle.std.proofs.Common.{Err, refl, sym, ◌∙◌, length, map}
use Rattle.njs_value.specs.declared.Value.{Value}
use Rattle.njs_shared.specs.Heap.{sizes}
use Rattle.njs_shared.specs.Fits.{FitsValue}
use Rattle.njs_clone.specs.Content.{content}
use Rattle.njs_interp.specs.Acts.{OnHeap, Unanswered}
use Rattle.njs_interp.specs.Counting.{made_arguments}
use Rattle.njs_interp.proofs.Standing.{extends-nothing}
use Rattle.njs_interp.proofs.HeldTells.{tells-on, held, stopped-still, fuel-fits, arguments-spent, arguments-made, same-ticks}
use Rattle.njs_interp.proofs.making.arguments_value.Goals as goal

pub returns-in-Ok-clause-told : goal.returns-in-Ok-clause-told
returns-in-Ok-clause-told g c = λ known. record {
  by = λ s stands.
      let h = c.args.machine.now in
      let l = c.arguments-object.new.machine in
      let first = c.args.caller.now in
      let caller = c.charge.new.self in
      let stopped = g.C.Caller.stopped caller known in
      let left = g.C.Caller.ticks_of caller in
      let args = c.args.args.now in
      let t = record s { ticks = left } in
      let here = c.charge.ensures.stands known h s stands in
      let heap = g.C.Runner.heap_is first known h s (g.met.C.Runner.holds_of first known h s stands) in
      let given = c.arguments-object.result in
      arguments-made (length args) (map (content h.texts) args) s (λ t. g.C.Runner.holds caller known l t × stopped t) stopped l.texts (g.C.Caller.ticks_of first) left _ given (g.met.C.Caller.ticks_are first known h s stands) refl
      c.in-Ok.ensures.ok.0 c.in-Ok.ensures.ok.1
      (tells-on (OnHeap l t) (λ t. g.C.Runner.holds caller known l t × stopped t) (Unanswered t) stopped l.texts given (made_arguments (map (content h.texts) args) t)
      (λ v on. held (g.C.Caller.stands caller known) (g.C.Runner.holds caller known) stopped (g.met.C.Runner.holds_by caller known) (g.met.C.Caller.stops caller known) (g.met.C.Caller.stopped_as caller known) h l t v here on.stands c.sizes-made.ensures.fits on.beside)
      (λ v none. stopped-still (g.C.Caller.stands caller known) (g.C.Runner.holds caller known) stopped (g.met.C.Runner.holds_by caller known) (g.met.C.Caller.stops caller known) (g.met.C.Caller.stopped_as caller known) h t v here none)
      (c.arguments-object.ensures.told.by t heap));
}

pub returns-in-Ok-clause-fits : goal.returns-in-Ok-clause-fits
returns-in-Ok-clause-fits g c =
    let h = c.args.machine.now in
    let l = c.arguments-object.new.machine in
    g.met.C.Caller.fits_on c.charge.new.self h l (c.charge.ensures.fits h c.requires.fits) c.arguments-object.ensures.extends

pub returns-in-Err-clause-told : goal.returns-in-Err-clause-told
returns-in-Err-clause-told g c = λ known. record {
  by = λ s stands.
      let h = c.args.machine.now in
      let first = c.args.caller.now in
      let caller = c.charge.new.self in
      let stopped = g.C.Caller.stopped caller known in
      let left = g.C.Caller.ticks_of caller in
      let own = g.met.C.Caller.ticks_are first known h s stands in
      let here = c.charge.ensures.stands known h s stands in
      let heap = g.C.Runner.heap_is first known h s (g.met.C.Runner.holds_of first known h s stands) in
      arguments-spent (length c.args.args.now) (map (content h.texts) c.args.args.now) s (λ t. g.C.Runner.holds caller known h t × stopped t) stopped h.texts (g.C.Caller.ticks_of first) left _ c.in-Err.stop (Err c.in-Err.stop) own refl refl c.in-Err.ensures.err
      (held (g.C.Caller.stands caller known) (g.C.Runner.holds caller known) stopped (g.met.C.Runner.holds_by caller known) (g.met.C.Caller.stops caller known) (g.met.C.Caller.stopped_as caller known) h h (record s { ticks = left }) s here heap
      c.sizes-sizes.ensures.fits (same-ticks s left (c.in-Err.ensures.err.2 ∙ sym own)));
}

pub returns-in-Err-clause-value : goal.returns-in-Err-clause-value
returns-in-Err-clause-value g c = fuel-fits {V = Value} (FitsValue (sizes c.args.machine.now)) (sizes c.args.machine.now) c.in-Err.stop (Err c.in-Err.stop) refl c.in-Err.ensures.err.0

pub returns-in-Err-clause-extends : goal.returns-in-Err-clause-extends
returns-in-Err-clause-extends g c = extends-nothing c.args.machine.now
