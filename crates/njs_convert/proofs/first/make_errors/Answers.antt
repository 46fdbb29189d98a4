use Rattle.std.proofs.Common.{ℕ, ap, ◌∙◌}
use Rattle.std.specs.Str.{chars}
use Rattle.njs_value.specs.declared.ObjId.{ObjId}
use Rattle.njs_convert.proofs.Grown.{Grows-same, Grows-text, Grows-objects, Grows-trans}
use Rattle.njs_convert.proofs.FirstSteps.{errors_made}
use Rattle.njs_convert.proofs.first.make_errors.Goals as goal

abbrev numbered : ℕ → ObjId
numbered n = record { 0 = n }

pub new_object_with-requires-clause-length : goal.new_object_with-requires-clause-length
new_object_with-requires-clause-length g c = λ is. let never : ⊥ = cc in absurd never

pub returns-clause-made : goal.returns-clause-made
unfolding chars
returns-clause-made g c =
    errors_made c.args.machine.now c.add_text.new.self c.add_text-2.new.self c.new_object_with.new.self c.fixed.result (chars c.args.name.now) c.fixed-2.result c.in_ok-name.name c.in_ok-message.message
    c.in_ok-props.props c.args.up (numbered c.place.result) c.in_ok-name.ensures.ok c.in_ok-message.ensures.ok c.in_ok-name.ensures.number c.in_ok-message.ensures.number c.in_ok-props.ensures
    c.sizes-sizes.ensures.fits c.fixed.ensures c.fixed-2.ensures (ap numbered c.place.ensures.place) c.in_ok-new_object_with.ensures.ok

pub returns-in_err-name-clause-grows : goal.returns-in_err-name-clause-grows
returns-in_err-name-clause-grows g c = Grows-same c.args.machine.now c.add_text.new.self c.in_err-name.ensures.err

pub returns-in_err-message-clause-grows : goal.returns-in_err-message-clause-grows
returns-in_err-message-clause-grows g c = Grows-text c.args.machine.now c.add_text-2.new.self c.fixed.result (c.in_err-message.ensures.err ∙ c.in_ok-name.ensures.ok)

pub returns-in_err-props-clause-grows : goal.returns-in_err-props-clause-grows
returns-in_err-props-clause-grows g c =
    let h = c.args.machine.now in
    let a = c.add_text.new.self in
    let b = c.add_text-2.new.self in
    Grows-trans h a b (Grows-text h a c.fixed.result c.in_ok-name.ensures.ok) (Grows-text a b c.fixed-2.result c.in_ok-message.ensures.ok)

pub returns-in_err-new_object_with-clause-grows : goal.returns-in_err-new_object_with-clause-grows
returns-in_err-new_object_with-clause-grows g c =
    let h = c.args.machine.now in
    let a = c.add_text.new.self in
    let b = c.add_text-2.new.self in
    Grows-trans h b c.new_object_with.new.self (Grows-trans h a b (Grows-text h a c.fixed.result c.in_ok-name.ensures.ok) (Grows-text a b c.fixed-2.result c.in_ok-message.ensures.ok)) (Grows-same b c.new_object_with.new.self c.in_err-new_object_with.ensures.err)

pub returns-clause-grows : goal.returns-clause-grows
returns-clause-grows g c =
    let h = c.args.machine.now in
    let a = c.add_text.new.self in
    let b = c.add_text-2.new.self in
    Grows-trans h b c.new_object_with.new.self (Grows-trans h a b (Grows-text h a c.fixed.result c.in_ok-name.ensures.ok) (Grows-text a b c.fixed-2.result c.in_ok-message.ensures.ok)) (Grows-objects b c.new_object_with.new.self _ c.in_ok-new_object_with.ensures.ok)
