use Rattle.std.proofs.Common.{◌∷◌, [], ◌++◌, subst, sym, ap, ◌∙◌}
use Rattle.njs_value.specs.declared.ObjId.{ObjId}
use Rattle.njs_meaning.specs.Errors.{place_of}
use Rattle.njs_convert.specs.Tells.{Extends}
use Rattle.njs_convert.proofs.Grown.{heap_with, Extends-refl, Extends-text, Extends-made}
use Rattle.njs_convert.proofs.Made.{error_object, made_second, made_at, made_error, message_fits}
use Rattle.njs_convert.proofs.errors.error_object.Goals as goal

pub returns-in_err-message-clause-extends : goal.returns-in_err-message-clause-extends
returns-in_err-message-clause-extends g c = Extends-refl c.args.machine.now

pub returns-in_err-text-clause-extends : goal.returns-in_err-text-clause-extends
returns-in_err-text-clause-extends g c = subst (Extends c.args.machine.now) (sym c.in_err-text.ensures.err) (Extends-refl c.args.machine.now)

pub returns-in_err-props-clause-extends : goal.returns-in_err-props-clause-extends
returns-in_err-props-clause-extends g c =
    let h = c.args.machine.now in
    subst (Extends h) (sym c.in_ok-text.ensures.ok) (Extends-text h c.in_ok-message.message)

pub new_object_with-requires-clause-props : goal.new_object_with-requires-clause-props
new_object_with-requires-clause-props g c =
    message_fits c.args.machine.now c.add_text.new.self c.in_ok-message.message c.in_ok-text.text c.in_ok-props.props c.in_ok-text.ensures.ok c.in_ok-text.ensures.number c.in_ok-props.ensures

pub new_object_with-requires-clause-length : goal.new_object_with-requires-clause-length
new_object_with-requires-clause-length g c = λ is. let never : ⊥ = cc in absurd never

pub returns-in_err-object-clause-extends : goal.returns-in_err-object-clause-extends
returns-in_err-object-clause-extends g c =
    let h = c.args.machine.now in
    subst (Extends h) (sym (c.in_err-object.ensures.err ∙ c.in_ok-text.ensures.ok)) (Extends-text h c.in_ok-message.message)

pub returns-clause-extends : goal.returns-clause-extends
returns-clause-extends g c =
    let h = c.args.machine.now in
    let up : ObjId = record { 0 = c.place.result } in
    let second = made_second h c.add_text.new.self c.new_object_with.new.self c.in_ok-message.message c.in_ok-text.text c.in_ok-props.props up c.in_ok-object.object.0 c.in_ok-text.ensures.ok c.in_ok-props.ensures
    c.in_ok-object.ensures.ok c.in_ok-object.ensures.number in
    subst (Extends h) (sym second) (Extends-made h (error_object up c.in_ok-text.text) c.in_ok-message.message tt)

pub returns-clause-made : goal.returns-clause-made
returns-clause-made g c =
    let h = c.args.machine.now in
    let up : ObjId = record { 0 = c.place.result } in
    let second = made_second h c.add_text.new.self c.new_object_with.new.self c.in_ok-message.message c.in_ok-text.text c.in_ok-props.props up c.in_ok-object.object.0 c.in_ok-text.ensures.ok c.in_ok-props.ensures
    c.in_ok-object.ensures.ok c.in_ok-object.ensures.number in
    let at = made_at h c.add_text.new.self c.new_object_with.new.self c.in_ok-message.message c.in_ok-text.text c.in_ok-props.props up c.in_ok-object.object.0 c.in_ok-text.ensures.ok c.in_ok-props.ensures
    c.in_ok-object.ensures.ok c.in_ok-object.ensures.number in
    made_error c.args.cause h c.new_object_with.new.self c.in_ok-text.text c.place.result c.in_ok-object.object.0 c.sizes-sizes.ensures.fits c.in_ok-text.ensures.number
    (c.place.ensures.place ∙ ap place_of c.prototype_of.ensures) at
    (second ∙ ap (λ t. heap_with h (h.objects ++ error_object up c.in_ok-text.text ∷ []) (h.texts ++ t ∷ [])) c.in_ok-message.ensures)
