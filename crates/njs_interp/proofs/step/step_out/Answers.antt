use Rattle.std.proofs.Common.{◌≡◌, sym, ◌∙◌}
use Rattle.njs_interp.specs.declared.families.Family.TheVariants as family
use Rattle.njs_interp.proofs.Kept.{Widens-refl}
use Rattle.njs_interp.proofs.Lifting.{steps_jump}
use Rattle.njs_interp.proofs.Sorted.{charge_asks}
use Rattle.njs_interp.proofs.step.step_out.Goals as goal

pub returns-clause-told : goal.returns-clause-told
returns-clause-told g c = λ known.
    let h = c.args.machine.now in
    let first = c.args.caller.now in
    let call = c.args.call.now in
    steps_jump (g.C.Caller.stands first known h) (g.C.Runner.holds first known h) (g.C.Caller.stopped first known) h h (λ s here. g.C.Runner.heap_is first known h s (g.met.C.Runner.holds_of first known h s here))
    (λ s t here stands beside. g.met.C.Runner.holds_by first known h h s t here stands c.sizes-sizes.ensures.fits beside) (g.met.C.Caller.stops first known h) (g.met.C.Caller.stopped_as first known)
    (g.C.Caller.follows first known) (g.C.Caller.agrees first known) call.unit call.this call.args.now c.args.at.now.op.now.kind c.args.stacks.now c.lead_out.new.stacks c.lead_out.result c.lead_out.ensures.told

pub returns-clause-falls : goal.returns-clause-falls
returns-clause-falls g c = λ is. let no : family.Leading ≡ family.Asked = sym c.requires.family ∙ charge_asks c.args.at.now.op.now.kind is in cc

pub returns-clause-spends : goal.returns-clause-spends
returns-clause-spends g c = λ is. let no : family.Leading ≡ family.Asked = sym c.requires.family ∙ charge_asks c.args.at.now.op.now.kind is in cc

pub returns-clause-widens : goal.returns-clause-widens
returns-clause-widens g c = Widens-refl c.args.machine.now
