use Rattle.std.proofs.Common.{map, sym, subst}
use Rattle.njs_shared.specs.Heap.{Heap}
use Rattle.njs_clone.specs.Content.{content}
use Rattle.njs_convert.specs.Tells.{Tells, ShowsValue}
use Rattle.njs_interp.specs.declared.own.Way.{Way}
use Rattle.njs_interp.specs.Calling.{script_by}
use Rattle.njs_interp.proofs.enter.enter_script.Goals as goal

pub returns-in-Call-clause-told : goal.returns-in-Call-clause-told
returns-in-Call-clause-told g c = λ calls k program of f agrees. record {
  by = λ s stood.
      let h : Heap = c.args.machine.now in
      let new : Heap = c.call_script.new.machine in
      let caller = c.call_script.new.caller in
      let script = c.args.script in
      subst (λ (w : Way). Tells (g.C.Runner.holds caller k new) (g.C.Caller.stopped caller k) new.texts (ShowsValue new.texts) c.call_script.result (script_by program calls h.texts w script.unit script.number script.scope c.args.object.0 (map (content h.texts) c.args.args.now) s))
      (sym c.in-Call.is) ((c.call_script.ensures.told calls k program of f agrees).by s stood);
}

pub returns-in-New-clause-told : goal.returns-in-New-clause-told
returns-in-New-clause-told g c = λ calls k program of f agrees. record {
  by = λ s stood.
      let h : Heap = c.args.machine.now in
      let new : Heap = c.construct_script.new.machine in
      let caller = c.construct_script.new.caller in
      let script = c.args.script in
      subst (λ (w : Way). Tells (g.C.Runner.holds caller k new) (g.C.Caller.stopped caller k) new.texts (ShowsValue new.texts) c.construct_script.result (script_by program calls h.texts w script.unit script.number script.scope c.args.object.0 (map (content h.texts) c.args.args.now) s))
      (sym c.in-New.is) ((c.construct_script.ensures.told calls k program of f agrees).by s stood);
}
