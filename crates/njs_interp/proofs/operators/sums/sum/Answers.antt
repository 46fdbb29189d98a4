use Rattle.std.proofs.Common.{sym, subst}
use Rattle.njs_tree.specs.declared.tree.BinaryOp.TheVariants.{Add}
use Rattle.njs_shared.specs.Heap.{sizes}
use Rattle.njs_shared.specs.Fits.{FitsValue}
use Rattle.njs_meaning.specs.Operators.{binary_of}
use Rattle.njs_meaning.specs.Operations.{answered}
use Rattle.njs_convert.specs.Tells.{Tells, ShowsValue}
use Rattle.njs_convert.proofs.Grown.{Grows-Extends}
use Rattle.njs_interp.proofs.Alone.{alone}
use Rattle.njs_interp.proofs.Paying.{unpaid_tells, nothing_fits}
use Rattle.njs_interp.proofs.operators.sums.sum.Goals as goal

pub returns-in-Err-clause-told : goal.returns-in-Err-clause-told
returns-in-Err-clause-told g c = λ calls known p q shown shown₂ agrees. record {
  by = λ s stands.
      let h = c.args.machine.now in
      let caller = c.pay.new.caller in
      unpaid_tells (g.C.Caller.stands caller known h) (g.C.Caller.stopped caller known) (g.met.C.Caller.stops caller known h) (g.met.C.Caller.stopped_as caller known) h.texts (ShowsValue h.texts) (g.C.Caller.ticks_of caller) c.in-Err.stop (binary_of Add p q) s
      (c.in-Err.ensures.told known p q s shown shown₂ stands);
}

pub returns-in-Err-clause-value : goal.returns-in-Err-clause-value
returns-in-Err-clause-value g c = nothing_fits (FitsValue (sizes c.args.machine.now)) (sizes c.args.machine.now) c.in-Err.stop c.in-Err.ensures.nothing

pub returns-clause-told : goal.returns-clause-told
returns-clause-told g c = λ calls known p q shown shown₂ agrees. record {
  by = λ s stands.
      let h = c.args.machine.now in
      let l = c.of_two.new.machine in
      let caller = c.pay.new.caller in
      let pays = c.in-Ok.ensures.told known p q s shown shown₂ stands in
      subst (Tells (g.C.Caller.stands caller known l) (g.C.Caller.stopped caller known) l.texts (ShowsValue l.texts) c.of_two.result) (sym pays.0)
      (alone (g.C.Caller.stands caller known) (g.C.Caller.stopped caller known) (g.met.C.Caller.objects_are caller known) (g.met.C.Caller.stands_on caller known) (g.met.C.Caller.stops caller known) (g.met.C.Caller.stopped_as caller known)
      h l c.of_two.result (answered (binary_of Add p q)) (record s { ticks = g.C.Caller.ticks_of caller }) (c.of_two.ensures.told p q shown shown₂) c.of_two.ensures.extends pays.1);
}

pub returns-clause-grows : goal.returns-clause-grows
returns-clause-grows g c = Grows-Extends c.args.machine.now c.of_two.new.machine c.of_two.ensures.extends
