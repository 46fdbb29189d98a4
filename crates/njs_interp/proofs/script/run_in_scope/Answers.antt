use Rattle.std.proofs.Common.{◌≡◌, ◌++◌, ◌∷◌, [], List, length, ap, refl, sym, subst, ◌∙◌, arith}
use Rattle.njs_value.specs.declared.Value.{Value}
use Rattle.njs_shared.specs.Heap.{Heap, sizes}
use Rattle.njs_shared.specs.Fits.{FitsValue}
use Rattle.njs_code.specs.declared.op.Op.{Op}
use Rattle.njs_meaning.specs.Scopes.{with_scope}
use Rattle.njs_meaning.specs.State.{State}
use Rattle.njs_simul.specs.Fits.{Good, CallsFare}
use Rattle.njs_simul.specs.Program.{starting}
use Rattle.njs_simul.specs.Runs.{Runs}
use Rattle.njs_simul.proofs.Kept.{fares_scope}
use Rattle.njs_interp.specs.Sits.{SlotsFrom}
use Rattle.njs_interp.specs.Standing.{CallsKeep}
use Rattle.njs_interp.specs.Tells.{IsFrame}
use Rattle.njs_interp.specs.Calling.{own_slots, scope_filled}
use Rattle.njs_interp.proofs.Kept.{all-more, FitsValue-widened, Widens-trans}
use Rattle.njs_interp.proofs.Reached.{from-within}
use Rattle.njs_interp.proofs.CallScopes.{filled-stands, filled-slots, counted-scopes}
use Rattle.njs_interp.proofs.FunctionsFitted.{functions_fit}
use Rattle.njs_interp.proofs.Scripts.{own_of, own_params}
use Rattle.njs_interp.proofs.Turning.{run_stopped}
use Rattle.njs_interp.proofs.script.run_in_scope.Goals as goal

pub own_slots-slots-requires : goal.own_slots-slots-requires
own_slots-slots-requires g c =
    let f = c.args.function.now in
    let around = c.requires.around in
    omega (arith, ap length (own_of f.slots around.0 around.1))

pub call_scope-requires-clause-parent : goal.call_scope-requires-clause-parent
call_scope-requires-clause-parent g c = let around = c.requires.around in from-within c.args.machine.now.scopes around.0 c.args.parent.0 around.2

pub call_scope-requires-clause-params : goal.call_scope-requires-clause-params
call_scope-requires-clause-params g c =
    let f = c.args.function.now in
    omega (arith, own_params f.slots f.params c.requires.part.params, c.own_slots-slots.ensures)

pub returns-in-Err-clause-told : goal.returns-in-Err-clause-told
returns-in-Err-clause-told g c = λ k. record {
  by = λ calls frame outcome variables s f agrees same is stands values run.
      let caller = c.args.caller.now in
      let stopped = g.C.Caller.stopped caller k in
      let keeps = g.met.C.Caller.stopped_as caller k in
      let fare : CallsFare k.around frame.calls = subst (CallsFare k.around) (sym same) (g.met.C.Runner.fares caller k calls f) in
      let keep : CallsKeep stopped frame.calls =
      subst (CallsKeep stopped) (sym same) (record { call = g.met.C.Caller.stopped_calls caller k calls f; construct = g.met.C.Caller.stopped_new caller k calls f })
      in
      let t = with_scope c.args.parent variables s in
      let code : List Op = c.args.function.now.ops in
      run_stopped k.around frame stopped fare keep keeps code outcome code (starting (length s.scopes)) t run (keeps s t refl refl (g.met.C.Caller.stops caller k c.args.machine.now s stands));
}

pub returns-in-Err-clause-fits : goal.returns-in-Err-clause-fits
returns-in-Err-clause-fits g c =
    let h : Heap = c.args.machine.now in
    let mid : Heap = c.call_scope.new.machine in
    let grown = c.call_scope.ensures.grown in
    g.met.C.Runner.fits_grown c.args.caller.now h mid c.requires.fits grown.widens (functions_fit (g.C.Caller.lent c.args.caller.now).counts h mid grown)

pub run_code-requires-clause-scope : goal.run_code-requires-clause-scope
run_code-requires-clause-scope g c =
    let h : Heap = c.args.machine.now in
    let mid : Heap = c.call_scope.new.machine in
    let f = c.args.function.now in
    let around = c.requires.around in
    let made : mid ≡ record h { scopes = h.scopes ++ scope_filled c.args.parent (own_slots f.slots) f.params c.args.call.now.args.now ∷ [] } =
    c.in-Ok.ensures.filled ∙ ap (λ n. record h { scopes = h.scopes ++ scope_filled c.args.parent n f.params c.args.call.now.args.now ∷ [] }) c.own_slots-slots.ensures
    in
    subst (λ slots. SlotsFrom slots mid.scopes c.in-Ok.scope.0) (sym (own_of f.slots around.0 around.1))
    (filled-slots h mid c.args.parent (own_slots f.slots) f.params c.args.call.now.args.now made c.in-Ok.scope.0 around.0 c.in-Ok.ensures.number around.2)

pub run_code-requires-clause-this : goal.run_code-requires-clause-this
run_code-requires-clause-this g c = FitsValue-widened c.args.machine.now c.call_scope.new.machine c.call_scope.ensures.grown.widens c.args.call.now.this c.requires.this

pub run_code-requires-clause-args : goal.run_code-requires-clause-args
run_code-requires-clause-args g c =
    let h : Heap = c.args.machine.now in
    let mid : Heap = c.call_scope.new.machine in
    all-more (FitsValue (sizes h)) (FitsValue (sizes mid)) (λ v fits. FitsValue-widened h mid c.call_scope.ensures.grown.widens v fits) c.args.call.now.args.now c.requires.args

pub run_code-requires-clause-fits : goal.run_code-requires-clause-fits
run_code-requires-clause-fits g c =
    let h : Heap = c.args.machine.now in
    let mid : Heap = c.call_scope.new.machine in
    let grown = c.call_scope.ensures.grown in
    g.met.C.Runner.fits_grown c.args.caller.now h mid c.requires.fits grown.widens (functions_fit (g.C.Caller.lent c.args.caller.now).counts h mid grown)

pub returns-clause-told : goal.returns-clause-told
returns-clause-told g c = λ k. record {
  by = λ calls frame outcome variables s f agrees same is stands values run.
      let h : Heap = c.args.machine.now in
      let mid : Heap = c.call_scope.new.machine in
      let code = c.args.function.now in
      let caller = c.args.caller.now in
      let args : List Value = c.args.call.now.args.now in
      let scope = c.in-Ok.scope in
      let holds = g.met.C.Runner.holds_of caller k h s stands in
      let heap = g.C.Runner.heap_is caller k h s holds in
      let made : mid ≡ record h { scopes = h.scopes ++ scope_filled c.args.parent (own_slots code.slots) code.params args ∷ [] } =
      c.in-Ok.ensures.filled ∙ ap (λ n. record h { scopes = h.scopes ++ scope_filled c.args.parent n code.params args ∷ [] }) c.own_slots-slots.ensures
      in
      let t : State = with_scope c.args.parent variables s in
      let good : Good k.around t = (fares_scope k.around c.args.parent variables s (g.met.C.Runner.good_is caller k h s stands)).good in
      let here =
      g.met.C.Runner.stands_of caller k mid t
      (g.met.C.Runner.holds_by caller k h mid s t stands (filled-stands h mid c.args.parent (own_slots code.slots) code.params args made variables s values heap) c.sizes-sizes.ensures.fits
      (record { response = refl; zones = refl; asked = refl; log = refl; ticks = refl })) good
      in
      let texts : h.texts ≡ mid.texts = sym (ap (λ (m : Heap). m.texts) made) in
      let at : length s.scopes ≡ scope.0 = sym (c.in-Ok.ensures.number ∙ counted-scopes h s heap) in
      (c.run_code.ensures.told k).by calls frame outcome t f agrees same
      (subst (λ ts. IsFrame ts c.args.call.now.unit c.args.call.now.this args frame) texts is) here
      (subst (λ n. Runs (Good k.around) frame code.ops outcome code.ops (starting n) t) at run);
}

pub returns-clause-widens : goal.returns-clause-widens
returns-clause-widens g c = Widens-trans c.args.machine.now c.call_scope.new.machine c.run_code.new.machine c.call_scope.ensures.grown.widens c.run_code.ensures.widens
