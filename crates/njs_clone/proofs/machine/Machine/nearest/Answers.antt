use Rattle.std.proofs.Common.{◌≡◌, ◌<◌, ◌-◌, ◌+◌, suc, length, slice_get, Some, None, ap, sym, subst, refl, ◌∙◌, rules, arith}
use Rattle.std.specs.Option.{option_map}
use Rattle.njs_meaning.specs.Chains.{own}
use Rattle.njs_clone.proofs.Chains.{found_here, found_above}
use Rattle.njs_clone.proofs.machine.Machine.nearest.Goals as goal

pub returns-in-Some : goal.returns-in-Some
returns-in-Some c =
    let here : own c.args.name.now c.object-object.result.now ≡ Some (record { value = c.in-Some.field-0-0.now; flags = c.in-Some.flags }) = search rules in
    sym (ap (option_map (λ p. p.flags)) (sym c.loop-step.invariant.rest
    ∙ found_here (own c.args.name.now) c.args.self.now.objects (length c.args.self.now.objects - c.loop-step.step) c.loop-step.at.0 c.object-object.result.now _ (omega (arith, ap (λ h. length h.objects) c.self.view_is)) c.object-object.ensures.object here))

pub loop-step-preserved : goal.loop-step-preserved
loop-step-preserved c =
    let absent : own c.args.name.now c.object-object.result.now ≡ None = search rules in
    let above : c.object-object.result.now.prototype ≡ Some c.in_ok-at.at = search rules in
    record {
      within = c.object-object.ensures.fits.prototype c.in_ok-at.at above;
      rest = found_above (own c.args.name.now) c.args.self.now.objects (length c.args.self.now.objects - c.loop-step.step) (length c.args.self.now.objects - (c.loop-step.step + 1)) c.loop-step.at.0 c.object-object.result.now c.in_ok-at.at
          (omega (arith, ap (λ h. length h.objects) c.self.view_is)) c.object-object.ensures.object absent above ∙ c.loop-step.invariant.rest;
    }
