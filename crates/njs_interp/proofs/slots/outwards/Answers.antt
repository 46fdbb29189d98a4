use Rattle.std.proofs.Common.{◌≡◌, ◌∙◌, ◌-◌, sym, ap, Some, None, arith}
use Rattle.njs_interp.specs.Slots.{outwards}
use Rattle.njs_interp.proofs.Reached.{outwards-step}
use Rattle.njs_interp.proofs.slots.outwards.Goals as goal

pub loop-step-preserved : goal.loop-step-preserved
loop-step-preserved c = record {
  left =
      sym (outwards-step c.args.up c.loop-step.step c.args.machine.now.scopes c.loop-step.at.0 (Some c.in-Some.next) c.loop-step-test.true (ap Some (sym c.in-Some.is) ∙ c.parent.ensures.parent))
      ∙ c.loop-step.invariant.left;
  within = c.parent.ensures.fits c.in-Some.next c.in-Some.is;
}

pub returns-in_default-clause-place : goal.returns-in_default-clause-place
returns-in_default-clause-place c =
    sym (outwards-step c.args.up c.loop-step.step c.args.machine.now.scopes c.loop-step.at.0 None c.loop-step-test.true (ap Some (sym c.in_default.is) ∙ c.parent.ensures.parent))
    ∙ c.loop-step.invariant.left

pub returns-clause-place : goal.returns-clause-place
returns-clause-place c =
    let none : c.args.up - c.loop-step.step ≡ 0 = omega arith in
    ap (λ n. outwards n c.args.machine.now.scopes c.loop-step.at.0) (sym none) ∙ c.loop-step.invariant.left
