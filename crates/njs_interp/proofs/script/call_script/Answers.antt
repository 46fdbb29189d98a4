use Rattle.std.proofs.Common.{◌≡◌, Some, Err, length, map, slice_get, ap, refl, sym, subst, ◌∙◌}
use Rattle.njs_shared.specs.Heap.{Heap}
use Rattle.njs_clone.specs.Content.{content}
use Rattle.njs_code.specs.declared.code.Code.{Code}
use Rattle.njs_code.specs.declared.code.FunctionCode.{FunctionCode}
use Rattle.njs_code.specs.Facts.{PartRule, CodeRule}
use Rattle.njs_meaning.specs.Values.{PlainValue}
use Rattle.njs_meaning.specs.Running.{charge, one_and}
use Rattle.njs_meaning.specs.Functions.{names_of_scope, first_variables}
use Rattle.njs_meaning.specs.State.{State}
use Rattle.njs_convert.specs.Tells.{Tells, ShowsValue}
use Rattle.njs_convert.specs.declared.stop.Stop.TheVariants.{Fuel}
use Rattle.njs_interp.proofs.Paying.{err_same}
use Rattle.njs_interp.proofs.Scripts.{function_is, own_count, frame_of, body_from, script_is, body_runs, body_filled, paid_tells, spent_tells}
use Rattle.njs_interp.proofs.script.call_script.Goals as goal

pub run_in_scope-requires-clause-part : goal.run_in_scope-requires-clause-part
run_in_scope-requires-clause-part g c =
    let code : Code = c.code-code.result.now in
    let f : FunctionCode = c.function_at-function.result.now in
    let rule : CodeRule code = subst CodeRule (sym c.code-code.ensures.same) (c.valid_code_keeps_its_rule.ensures c.code_at.result.now c.code-code.ensures.valid) in
    subst (λ fs. PartRule fs f) (sym c.as_slice.ensures) (rule.functions c.args.number f c.function_at-function.ensures).part

pub returns-in-Ok-clause-told : goal.returns-in-Ok-clause-told
returns-in-Ok-clause-told g c = λ calls k program of f agrees. record {
  by = λ s stood.
      let h : Heap = c.args.machine.now in
      let new : Heap = c.run_in_scope.new.machine in
      let call = c.args.call.now in
      let code : Code = c.code-code.result.now in
      let fn : FunctionCode = c.function_at-function.result.now in
      let here : slice_get c.args.codes.now call.unit ≡ Some code = c.code_at.ensures ∙ ap Some (sym c.code-code.ensures.same) in
      let is = function_is c.args.codes.now k program of call.unit code here c.args.number fn c.function_at-function.ensures in
      let before = c.args.caller.now in
      let caller = c.charge.new.self in
      let last = c.run_in_scope.new.caller in
      let after = g.C.Runner.holds last k new in
      let stopped = g.C.Caller.stopped last k in
      let n = c.ticks_of.result in
      let left = g.C.Caller.ticks_of caller in
      let this : PlainValue = content h.texts call.this in
      let args = map (content h.texts) call.args.now in
      let go = body_from k.around program call.unit c.args.number fn is calls c.args.scope this args in
      let t : State = record s { ticks = left } in
      let stands = c.charge.ensures.stands k h s stood.0 in
      let follows = c.charge.ensures.kept calls k f in
      let cost : n ≡ one_and (length (names_of_scope is.function)) 8 = c.ticks_of.ensures ∙ ap (λ m. one_and m 8) (own_count k.around program call.unit c.args.number fn is) in
      let told =
      (c.run_in_scope.ensures.told k).by calls (frame_of k.around program call.unit c.args.number fn is calls c.args.scope this args) (go t) (first_variables is.function args) t follows agrees refl
      (record { unit_is = refl; this_is = refl; args_are = refl }) stands
      (body_filled k.around program call.unit c.args.number fn is calls c.args.scope this args)
      (body_runs k.around program call.unit c.args.number fn is calls c.args.scope this args t (g.met.C.Runner.fares caller k calls follows) stood.1 (g.met.C.Runner.good_is caller k h t stands))
      in
      subst (Tells after stopped new.texts (ShowsValue new.texts) c.run_in_scope.result) (sym (script_is k.around program call.unit c.args.number fn is calls c.args.scope this args s))
      (subst (λ m. Tells after stopped new.texts (ShowsValue new.texts) c.run_in_scope.result (charge m go s)) cost
      (paid_tells after stopped new.texts n (g.C.Caller.ticks_of before) left go s (g.met.C.Caller.ticks_are before k h s stood.0) c.run_in_scope.result c.in-Ok.ensures.ok.0 c.in-Ok.ensures.ok.1 told));
}

pub returns-in-Err-clause-told : goal.returns-in-Err-clause-told
returns-in-Err-clause-told g c = λ calls k program of f agrees. record {
  by = λ s stood.
      let h : Heap = c.args.machine.now in
      let call = c.args.call.now in
      let code : Code = c.code-code.result.now in
      let fn : FunctionCode = c.function_at-function.result.now in
      let here : slice_get c.args.codes.now call.unit ≡ Some code = c.code_at.ensures ∙ ap Some (sym c.code-code.ensures.same) in
      let is = function_is c.args.codes.now k program of call.unit code here c.args.number fn c.function_at-function.ensures in
      let before = c.args.caller.now in
      let caller = c.charge.new.self in
      let after = g.C.Runner.holds caller k h in
      let stopped = g.C.Caller.stopped caller k in
      let n = c.ticks_of.result in
      let left = g.C.Caller.ticks_of caller in
      let this : PlainValue = content h.texts call.this in
      let args = map (content h.texts) call.args.now in
      let go = body_from k.around program call.unit c.args.number fn is calls c.args.scope this args in
      let err = c.in-Err.ensures.err in
      let fuel : c.in-Err.stop ≡ Fuel = err_same c.in-Err.stop Fuel (Err c.in-Err.stop) (Err Fuel) refl refl err.0 in
      let cost : n ≡ one_and (length (names_of_scope is.function)) 8 = c.ticks_of.ensures ∙ ap (λ m. one_and m 8) (own_count k.around program call.unit c.args.number fn is) in
      subst (Tells after stopped h.texts (ShowsValue h.texts) (Err c.in-Err.stop)) (sym (script_is k.around program call.unit c.args.number fn is calls c.args.scope this args s))
      (subst (λ m. Tells after stopped h.texts (ShowsValue h.texts) (Err c.in-Err.stop) (charge m go s)) cost
      (spent_tells after stopped h.texts n (g.C.Caller.ticks_of before) left go s (g.met.C.Caller.ticks_are before k h s stood.0) (Err c.in-Err.stop) (ap Err fuel) err.1 err.2
      (g.met.C.Runner.holds_of caller k h _ (c.charge.ensures.stands k h s stood.0))));
}
