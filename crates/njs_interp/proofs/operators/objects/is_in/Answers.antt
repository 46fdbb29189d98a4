use Rattle.std.proofs.Common.{◌≡◌, Bool, Ok, Err, sym, ap, ◌∙◌}
use Rattle.njs_value.specs.declared.Value.{Value}
use Rattle.njs_clone.specs.Content.{content}
use Rattle.njs_clone.specs.StandsFor.{plain_objects}
use Rattle.njs_meaning.specs.Primitives.{Truth}
use Rattle.njs_meaning.specs.Values.{Simple, ObjectAt}
use Rattle.njs_meaning.specs.Conversions.{to_text}
use Rattle.njs_meaning.specs.Members.{has_member}
use Rattle.njs_meaning.specs.Operations.{truth, is_in, binary}
use Rattle.njs_members.proofs.Gained.{text-read}
use Rattle.njs_convert.specs.Tells.{ShowsText, ShowsValue}
use Rattle.njs_convert.proofs.Grown.{Grows-Extends}
use Rattle.njs_convert.proofs.Outcomes.{then_tells}
use Rattle.njs_interp.proofs.Alone.{counts_alone, counts_error, object_is}
use Rattle.njs_interp.proofs.Meanings.{member_is}
use Rattle.njs_interp.proofs.Both.{means_is}
use Rattle.njs_interp.proofs.operators.objects.is_in.Goals as goal

pub returns-in_default-clause-grows : goal.returns-in_default-clause-grows
returns-in_default-clause-grows g c = Grows-Extends c.args.machine.now c.throw.new.machine c.throw.ensures.extends

pub returns-in_default-clause-steps : goal.returns-in_default-clause-steps
returns-in_default-clause-steps g c =
    counts_alone {V = Value} (g.C.Caller.adds c.args.caller.now c.args.steps.now c.args.caller.now) c.args.steps.now c.throw.new.steps (Err c.throw.result) (g.met.C.Caller.adds_none c.args.caller.now c.args.steps.now)
    (counts_error Value c.args.steps.now c.throw.new.steps c.throw.result c.throw.ensures.steps)

pub returns-in-Ok-clause-told : goal.returns-in-Ok-clause-told
returns-in-Ok-clause-told g c = λ calls known f agrees.
    let h = c.args.machine.now in
    let k = c.to_text.new.machine in
    let a = content h.texts c.args.left in
    let b = content h.texts c.args.right in
    let o = c.in-Some.object in
    let caller = c.to_text.new.caller in
    let before = g.C.Caller.stands c.args.caller.now known h in
    let after = g.C.Caller.stands caller known k in
    let stopped = g.C.Caller.stopped caller known in
    let object : b ≡ ObjectAt o.0 = ap (content h.texts) (object_is c.args.right o (sym c.in-Some.ensures)) in
    let answer : Bool = c.has_member.result in
    means_is before after stopped k.texts (ShowsValue k.texts) (Ok (Value.Bool answer)) (binary calls.call c.args.op a b) (is_in calls.call a (ObjectAt o.0))
    (λ s. member_is calls.call c.args.op a b s c.requires.op ∙ ap (λ w. is_in calls.call a w s) object)
    (record {
      by = λ s stands.
          then_tells after after stopped stopped k.texts k.texts (ShowsText k.texts) (ShowsValue k.texts) c.in-Ok.name (Ok (Value.Bool answer)) (to_text calls.call a s) (λ name u. truth (has_member name (ObjectAt o.0) u.objects) u)
          ((c.in-Ok.ensures.told calls known f agrees).by s stands)
          (λ name u shown here.
          let read : c.text.result.now ≡ name = text-read k.texts c.in-Ok.name.0 c.text.result.now c.text.ensures ∙ shown in
          (ap (λ t. Simple (Truth t)) (c.has_member.ensures ∙ ap (λ n. has_member n (ObjectAt o.0) (plain_objects k)) read ∙ ap (λ os. has_member name (ObjectAt o.0) os) (sym (g.met.C.Caller.objects_are caller known k u here))), here));
    })
