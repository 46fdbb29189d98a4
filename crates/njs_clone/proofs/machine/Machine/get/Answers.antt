use Rattle.std.proofs.Common.{◌≡◌, ◌-◌, ◌+◌, length, Some, None, ap, sym, ◌∙◌, rules, arith}
use Rattle.std.specs.Option.{option_map_or}
use Rattle.njs_value.specs.declared.Value.TheVariants.{Undefined}
use Rattle.njs_shared.specs.Fits.{FitsValue}
use Rattle.njs_shared.specs.Heap.{sizes}
use Rattle.njs_meaning.specs.Chains.{own_read}
use Rattle.njs_clone.proofs.Chains.{found_here, found_above}
use Rattle.njs_clone.proofs.Kept.{property-kept}
use Rattle.njs_clone.proofs.machine.Machine.get.Goals as goal

pub returns-in-Some : goal.returns-in-Some
returns-in-Some c =
    let here : own_read c.args.name.now c.object-object.result.now ≡ Some (record { value = c.in-Some.value.now; flags = c.in-Some.field-0-1 }) = search rules in
    record {
      value = sym (ap (λ r. option_map_or (λ p. p.value) r Undefined) (sym c.loop-step.invariant.rest
          ∙ found_here (own_read c.args.name.now) c.args.self.now.objects (length c.args.self.now.objects - c.loop-step.step) c.loop-step.at.0 c.object-object.result.now _
          (omega (arith, ap (λ h. length h.objects) c.self.view_is)) c.object-object.ensures.object here));
      fits = property-kept (FitsValue (sizes c.args.self.now)) _ c.object-object.result.now.props c.object-object.ensures.fits.props _ here;
    }

pub loop-step-preserved : goal.loop-step-preserved
loop-step-preserved c =
    let absent : own_read c.args.name.now c.object-object.result.now ≡ None = search rules in
    let above : c.object-object.result.now.prototype ≡ Some c.in-Some-prototype.up = search rules in
    record {
      within = c.object-object.ensures.fits.prototype c.in-Some-prototype.up above;
      rest = found_above (own_read c.args.name.now) c.args.self.now.objects (length c.args.self.now.objects - c.loop-step.step) (length c.args.self.now.objects - (c.loop-step.step + 1)) c.loop-step.at.0 c.object-object.result.now c.in-Some-prototype.up
          (omega (arith, ap (λ h. length h.objects) c.self.view_is)) c.object-object.ensures.object absent above ∙ c.loop-step.invariant.rest;
    }
