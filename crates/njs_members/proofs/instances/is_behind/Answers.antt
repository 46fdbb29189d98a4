use Rattle.std.proofs.Common.{◌≡◌, ◌+◌, ◌-◌, length, Some, false, ◌∙◌, rules, arith}
use Rattle.std.specs.Prelude.{◌==◌}
use Rattle.std.proofs.lemmas.Bool.Decides.{nat_tests}
use Rattle.njs_members.proofs.InstanceOf.{behind-above}
use Rattle.njs_members.proofs.instances.is_behind.Goals as goal

pub loop-step-preserved : goal.loop-step-preserved
loop-step-preserved c =
    let h = c.args.machine.now in
    let above : c.object.result.now.prototype ≡ Some c.in-Some.up = search rules in
    let other : (c.in-Some.up.0 == c.args.sought.0) ≡ false = grind (arith, nat_tests) in
    record {
      within = c.object.ensures.fits.prototype c.in-Some.up above;
      rest = behind-above h c.args.sought.0 (length h.objects - c.loop-step.step) (length h.objects - (c.loop-step.step + 1)) c.loop-step.at.0 c.object.result.now c.in-Some.up
          (omega (arith, c.sizes-step-end.ensures.objects)) c.object.ensures.object above other ∙ c.loop-step.invariant.rest;
    }
