use Rattle.std.proofs.Common.{◌≡◌, [], Some, slice_get, ap, refl, sym, subst, ◌∙◌}
use Rattle.njs_shared.specs.Heap.{Heap}
use Rattle.njs_code.specs.declared.code.Code.{Code}
use Rattle.njs_code.specs.Facts.{PartRule, CodeRule}
use Rattle.njs_meaning.specs.Primitives.{Undefined}
use Rattle.njs_meaning.specs.Values.{Simple}
use Rattle.njs_convert.specs.Tells.{Tells, ShowsValue}
use Rattle.njs_interp.specs.Hosts.{behind_own, counts_of}
use Rattle.njs_interp.specs.Stepping.{CountsAre}
use Rattle.njs_interp.proofs.Bodies.{module_runs}
use Rattle.njs_interp.proofs.Scripts.{some_is, counts_are}
use Rattle.njs_interp.proofs.entry.run_body.Goals as goal

pub run_in_scope-requires-clause-part : goal.run_in_scope-requires-clause-part
run_in_scope-requires-clause-part g c =
    let code : Code = c.code-code.result.now in
    let rule : CodeRule code = subst CodeRule (sym c.code-code.ensures.same) (c.valid_code_keeps_its_rule.ensures c.code_at.result.now c.code-code.ensures.valid) in
    subst (λ fs. PartRule fs code.body) (sym c.as_slice.ensures) rule.body

pub run_in_scope-requires-clause-around : goal.run_in_scope-requires-clause-around
run_in_scope-requires-clause-around g c =
    let code : Code = c.code-code.result.now in
    let there = c.requires.there in
    let here : slice_get c.args.codes.now c.args.unit ≡ Some code = c.code_at.ensures ∙ ap Some (sym c.code-code.ensures.same) in
    let same : there.0 ≡ code = some_is there.0 code (sym there.1 ∙ here) in
    (there.2, subst (λ (code : Code). behind_own code.body.slots ≡ Some there.2) same there.3, there.4)

pub run_in_scope-requires-clause-counts : goal.run_in_scope-requires-clause-counts
run_in_scope-requires-clause-counts g c =
    let code : Code = c.code-code.result.now in
    let here : slice_get c.args.codes.now c.args.unit ≡ Some code = c.code_at.ensures ∙ ap Some (sym c.code-code.ensures.same) in
    subst (λ counts. CountsAre counts c.args.unit c.as_slice.result.now) (sym c.requires.counts)
    (subst (λ fs. CountsAre (counts_of c.args.codes.now) c.args.unit fs) (sym c.as_slice.ensures) (counts_are c.args.codes.now c.args.unit code here))

pub returns-clause-told : goal.returns-clause-told
returns-clause-told g c = λ calls k program of f agrees. record {
  by = λ s stood.
      let h : Heap = c.args.machine.now in
      let new : Heap = c.run_in_scope.new.machine in
      let caller = c.args.caller.now in
      let last = c.run_in_scope.new.caller in
      let code : Code = c.code-code.result.now in
      let here : slice_get c.args.codes.now c.args.unit ≡ Some code = c.code_at.ensures ∙ ap Some (sym c.code-code.ensures.same) in
      let runs = module_runs c.args.codes.now k program of c.args.unit code here calls (g.met.C.Runner.fares caller k calls f) s stood.1 (g.met.C.Runner.good_is caller k h s stood.0) in
      subst (Tells (g.C.Runner.holds last k new) (g.C.Caller.stopped last k) new.texts (ShowsValue new.texts) c.run_in_scope.result) (sym runs.meant)
      ((c.run_in_scope.ensures.told k).by calls (record { calls = calls; unit = c.args.unit; this = Simple Undefined; args = [] }) runs.outcome runs.variables s f agrees refl
      (record { unit_is = refl; this_is = refl; args_are = refl }) stood.0 (runs.filled_by []) runs.runs);
}
