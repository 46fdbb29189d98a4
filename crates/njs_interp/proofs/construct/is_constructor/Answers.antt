use Rattle.std.proofs.Common.{◌≡◌, ◌+◌, ◌-◌, length, sym, ap, ◌∙◌, arith, rules}
use Rattle.njs_shared.specs.declared.object.Inner.{Inner}
use Rattle.njs_shared.specs.declared.object.Inner.TheVariants as inner
use Rattle.njs_clone.specs.StandsFor.{content_inner}
use Rattle.njs_meaning.specs.Functions.{constructs_inner}
use Rattle.njs_interp.proofs.Constructing.{constructor_by, constructor_step}
use Rattle.njs_interp.proofs.construct.is_constructor.Goals as goal

pub returns-in-Plain : goal.returns-in-Plain
returns-in-Plain g c = λ program constructs.
    let h = c.args.machine.now in
    let m = length h.objects - (c.loop-step.step + 1) in
    let here : c.object.result.now.inner ≡ inner.Plain = search rules in
    sym (sym (c.loop-step.invariant.rest program)
    ∙ constructor_step program h c.loop-step.at.0 c.object.result.now c.object.ensures.object (length h.objects - c.loop-step.step) m (omega (arith, c.sizes-step-end.ensures.objects))
    ∙ ap (λ (i : Inner). constructs_inner program (constructor_by program h m) (content_inner h.texts i)) here)

pub returns-in-ZoneNumber : goal.returns-in-ZoneNumber
returns-in-ZoneNumber g c = λ program constructs.
    let h = c.args.machine.now in
    let m = length h.objects - (c.loop-step.step + 1) in
    let here : c.object.result.now.inner ≡ inner.ZoneNumber c.in-ZoneNumber.field-0 = search rules in
    sym (sym (c.loop-step.invariant.rest program)
    ∙ constructor_step program h c.loop-step.at.0 c.object.result.now c.object.ensures.object (length h.objects - c.loop-step.step) m (omega (arith, c.sizes-step-end.ensures.objects))
    ∙ ap (λ (i : Inner). constructs_inner program (constructor_by program h m) (content_inner h.texts i)) here)

pub returns-in-Script : goal.returns-in-Script
returns-in-Script g c = λ program constructs.
    let h = c.args.machine.now in
    let m = length h.objects - (c.loop-step.step + 1) in
    let here : c.object.result.now.inner ≡ inner.Script c.in-Script.module c.in-Script.code c.in-Script.scope = search rules in
    sym (sym (c.loop-step.invariant.rest program)
    ∙ constructor_step program h c.loop-step.at.0 c.object.result.now c.object.ensures.object (length h.objects - c.loop-step.step) m (omega (arith, c.sizes-step-end.ensures.objects))
    ∙ ap (λ (i : Inner). constructs_inner program (constructor_by program h m) (content_inner h.texts i)) here)

pub returns-in-BuiltIn : goal.returns-in-BuiltIn
returns-in-BuiltIn g c = λ program constructs.
    let h = c.args.machine.now in
    let m = length h.objects - (c.loop-step.step + 1) in
    let here : c.object.result.now.inner ≡ inner.BuiltIn c.in-BuiltIn.row = search rules in
    c.can_construct.ensures ∙ ap (λ go. go c.in-BuiltIn.row) (sym constructs)
    ∙ sym (sym (c.loop-step.invariant.rest program)
    ∙ constructor_step program h c.loop-step.at.0 c.object.result.now c.object.ensures.object (length h.objects - c.loop-step.step) m (omega (arith, c.sizes-step-end.ensures.objects))
    ∙ ap (λ (i : Inner). constructs_inner program (constructor_by program h m) (content_inner h.texts i)) here)

pub loop-step-preserved : goal.loop-step-preserved
loop-step-preserved g c =
    let h = c.args.machine.now in
    let m = length h.objects - (c.loop-step.step + 1) in
    let here : c.object.result.now.inner ≡ inner.Bound c.in-Bound.target c.in-Bound.this c.in-Bound.args = search rules in
    record {
      within = search rules;
      rest = λ program.
          sym (constructor_step program h c.loop-step.at.0 c.object.result.now c.object.ensures.object (length h.objects - c.loop-step.step) m (omega (arith, c.sizes-step-end.ensures.objects))
          ∙ ap (λ (i : Inner). constructs_inner program (constructor_by program h m) (content_inner h.texts i)) here)
          ∙ c.loop-step.invariant.rest program;
    }
