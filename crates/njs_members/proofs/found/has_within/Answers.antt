use Rattle.std.proofs.Common.{◌≡◌, ◌+◌, ◌-◌, Some, None, true, false, is_some, sym, ◌∙◌, rules, arith}
use Rattle.njs_props.specs.Props.{property}
use Rattle.njs_members.proofs.Walked.{by-here, by-nowhere, by-above, lent-some}
use Rattle.njs_members.proofs.found.has_within.Goals as goal

pub returns-then-is_some : goal.returns-then-is_some
returns-then-is_some c =
    let there : is_some (property c.args.name.now c.object-object.result.now.props) ≡ true = search (rules, lent-some) in
    sym (by-here c.args.machine.now c.args.name.now (c.args.count - c.loop-step.step) c.loop-step.at.0 c.object-object.result.now (omega arith) c.object-object.ensures.object there) ∙ c.loop-step.invariant.rest

pub returns-in_default : goal.returns-in_default
returns-in_default c =
    let absent : is_some (property c.args.name.now c.object-object.result.now.props) ≡ false = search (rules, lent-some) in
    let last : c.object-object.result.now.prototype ≡ None = search rules in
    sym (by-nowhere c.args.machine.now c.args.name.now (c.args.count - c.loop-step.step) c.loop-step.at.0 c.object-object.result.now c.object-object.ensures.object absent last) ∙ c.loop-step.invariant.rest

pub loop-step-preserved : goal.loop-step-preserved
loop-step-preserved c =
    let absent : is_some (property c.args.name.now c.object-object.result.now.props) ≡ false = search (rules, lent-some) in
    let above : c.object-object.result.now.prototype ≡ Some c.in-Some.up = search rules in
    record {
      within = c.object-object.ensures.fits.prototype c.in-Some.up above;
      rest = by-above c.args.machine.now c.args.name.now (c.args.count - c.loop-step.step) (c.args.count - (c.loop-step.step + 1)) c.loop-step.at.0 c.object-object.result.now c.in-Some.up
          (omega arith) c.object-object.ensures.object absent above ∙ c.loop-step.invariant.rest;
    }
