use Rattle.std.proofs.Common.{◌≡◌, ◌+◌, ◌-◌, length, Some, None, sym, ◌∙◌, rules, arith}
use Rattle.njs_shared.specs.Ends.{bound_target}
use Rattle.njs_members.proofs.InstanceOf.{target-here, target-above}
use Rattle.njs_members.proofs.instances.target_of.Goals as goal

pub returns-in_default-clause-target : goal.returns-in_default-clause-target
returns-in_default-clause-target c =
    let h = c.args.machine.now in
    let last : bound_target c.object.result.now.inner ≡ None = search rules in
    sym (target-here h (length h.objects - c.loop-step.step) c.loop-step.at.0 c.object.result.now c.object.ensures.object last) ∙ c.loop-step.invariant.rest

pub loop-step-preserved : goal.loop-step-preserved
loop-step-preserved c =
    let h = c.args.machine.now in
    let leads : bound_target c.object.result.now.inner ≡ Some c.in-Some.target.0 = search rules in
    record {
      within = search rules;
      rest = target-above h (length h.objects - c.loop-step.step) (length h.objects - (c.loop-step.step + 1)) c.loop-step.at.0 c.in-Some.target.0 c.object.result.now
          (omega (arith, c.sizes-step-end.ensures.objects)) c.object.ensures.object leads ∙ c.loop-step.invariant.rest;
    }
