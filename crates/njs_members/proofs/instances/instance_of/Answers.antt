use Rattle.std.proofs.Common.{◌≡◌, true, Ok, Err, sym, subst}
use Rattle.njs_value.specs.declared.Cause.TheVariants.{NotObject}
use Rattle.njs_value.specs.declared.Value.{Value}
use Rattle.njs_clone.specs.Content.{content}
use Rattle.njs_clone.specs.StandsFor.{plain_objects}
use Rattle.njs_meaning.specs.Values.{ObjectAt}
use Rattle.njs_meaning.specs.Conversions.{is_callable}
use Rattle.njs_meaning.specs.Operations.{instance_of}
use Rattle.njs_members.specs.Tells.{TellsTruth}
use Rattle.njs_members.proofs.InstanceOf.{read-by, no-prototype, an-instance}
use Rattle.njs_members.proofs.instances.instance_of.Goals as goal

pub returns-in-Obj-get : goal.returns-in-Obj-get
returns-in-Obj-get c =
    let h = c.args.machine.now in
    let called : is_callable (plain_objects h) (content h.texts c.args.right) ≡ true = cc in
    let callable = subst (λ (v : Value). is_callable (plain_objects h) (content h.texts v) ≡ true) c.in-Obj.is called in
    let read = read-by h c.in-Obj.function.0 c.target_of.result.0 c.prototype_name.result c.get-2.result c.target_of.ensures.target c.prototype_name.ensures c.get-2.ensures.value in
    subst (λ (v : Value). TellsTruth (instance_of (content h.texts v) (content h.texts c.args.right)) h (Ok c.is_behind.result)) (sym c.in-Obj-left.is)
    (subst (λ (v : Value). TellsTruth (instance_of (ObjectAt c.in-Obj-left.object.0) (content h.texts v)) h (Ok c.is_behind.result)) (sym c.in-Obj.is)
    (an-instance h c.in-Obj-left.object c.in-Obj.function callable c.get-2.result read c.in-Obj-get.prototype c.is_behind.result c.in-Obj-get.is c.is_behind.ensures))

pub returns : goal.returns
returns c =
    let h = c.args.machine.now in
    let called : is_callable (plain_objects h) (content h.texts c.args.right) ≡ true = cc in
    let callable = subst (λ (v : Value). is_callable (plain_objects h) (content h.texts v) ≡ true) c.in-Obj.is called in
    let read = read-by h c.in-Obj.function.0 c.target_of.result.0 c.prototype_name.result c.get-2.result c.target_of.ensures.target c.prototype_name.ensures c.get-2.ensures.value in
    subst (λ (v : Value). TellsTruth (instance_of (content h.texts v) (content h.texts c.args.right)) h (Err NotObject)) (sym c.in-Obj-left.is)
    (subst (λ (v : Value). TellsTruth (instance_of (ObjectAt c.in-Obj-left.object.0) (content h.texts v)) h (Err NotObject)) (sym c.in-Obj.is)
    (no-prototype h c.in-Obj-left.object c.in-Obj.function callable c.get-2.result read c.in_default-get.not-Obj))
