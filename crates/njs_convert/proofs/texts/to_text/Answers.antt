use Rattle.std.proofs.Common.{Ok, sym, ◌∙◌, subst}
use Rattle.njs_clone.specs.Content.{content}
use Rattle.njs_meaning.specs.declared.level.Hint.TheVariants.{Text}
use Rattle.njs_meaning.specs.Numbers.{text_of}
use Rattle.njs_meaning.specs.State.{Gives}
use Rattle.njs_meaning.specs.Conversions.{to_primitive}
use Rattle.njs_convert.specs.Tells.{ShowsPrimitive, ShowsText}
use Rattle.njs_convert.proofs.Grown.{Grows-trans, Grows-Extends}
use Rattle.njs_convert.proofs.Outcomes.{then_tells}
use Rattle.njs_convert.proofs.texts.to_text.Goals as goal

pub returns-in-Ok-text_id-clause-told : goal.returns-in-Ok-text_id-clause-told
returns-in-Ok-text_id-clause-told g c = λ calls known f agrees. record {
  by = λ s stands.
      let k = c.to_primitive.new.machine in
      let l = c.text_id.new.machine in
      let caller = c.to_primitive.new.caller in
      let stopped = g.C.Caller.stopped caller known in
      let has = c.in-Ok-text_id.ensures.text in
      then_tells (g.C.Caller.stands caller known k) (g.C.Caller.stands caller known l) stopped stopped k.texts l.texts (ShowsPrimitive k.texts) (ShowsText l.texts) c.in-Ok.primitive (Ok c.in-Ok-text_id.text) (to_primitive calls.call Text (content c.args.machine.now.texts c.args.value) s) (λ p u. Gives (text_of p) u) ((c.in-Ok.ensures.told calls known f agrees).by s stands)
      (λ p u shows h. (has.shows p shows, subst (λ os. g.C.Caller.stands caller known l (record u { objects = os })) (has.objects ∙ sym (g.met.C.Caller.objects_are caller known k u h)) (g.met.C.Caller.stands_on caller known k l u h c.text_id.ensures.extends)));
}

pub returns-in-Ok-text_id-clause-grows : goal.returns-in-Ok-text_id-clause-grows
returns-in-Ok-text_id-clause-grows g c =
    Grows-trans c.args.machine.now c.to_primitive.new.machine c.text_id.new.machine c.in-Ok.ensures.grows (Grows-Extends c.to_primitive.new.machine c.text_id.new.machine c.text_id.ensures.extends)

pub returns-in-Err-text_id-clause-grows : goal.returns-in-Err-text_id-clause-grows
returns-in-Err-text_id-clause-grows g c =
    Grows-trans c.args.machine.now c.to_primitive.new.machine c.text_id.new.machine c.in-Ok.ensures.grows (Grows-Extends c.to_primitive.new.machine c.text_id.new.machine c.text_id.ensures.extends)
