use Rattle.std.proofs.Common.{◌≡◌, Ok, sym, ap, ◌∙◌}
use Rattle.njs_clone.specs.Content.{content}
use Rattle.njs_meaning.specs.Values.{Simple, ObjectAt}
use Rattle.njs_meaning.specs.Operators as plain
use Rattle.njs_meaning.specs.State.{Gives}
use Rattle.njs_meaning.specs.Operations.{equal_to_object, equals}
use Rattle.njs_interp.specs.Alone.{ShowsTruth}
use Rattle.njs_interp.proofs.Alone.{object_is, simple_content}
use Rattle.njs_interp.proofs.Both.{means_is}
use Rattle.njs_interp.proofs.operators.equality.equals.Goals as goal

pub returns-in-Some-None-clause-told : goal.returns-in-Some-None-clause-told
returns-in-Some-None-clause-told g c = λ calls known f agrees.
    let h = c.args.machine.now in
    let k = c.equals_object.new.machine in
    let a = content h.texts c.args.left in
    let b = content h.texts c.args.right in
    let o = c.in-Some-None.object in
    let caller = c.equals_object.new.caller in
    let object : a ≡ ObjectAt o.0 = ap (content h.texts) (object_is c.args.left o (sym c.object_in.ensures ∙ c.in-Some-None.is-0)) in
    let simple = simple_content h.texts c.args.right (sym c.object_in-2.ensures ∙ c.in-Some-None.is-1) in
    means_is (g.C.Caller.stands c.args.caller.now known h) (g.C.Caller.stands caller known k) (g.C.Caller.stopped caller known) k.texts ShowsTruth c.equals_object.result (equals calls.call a b) (equal_to_object calls.call (ObjectAt o.0) simple.0)
    (λ s. ap (λ v. equals calls.call v b s) object ∙ ap (λ w. equals calls.call (ObjectAt o.0) w s) simple.1)
    (c.equals_object.ensures.told calls known simple.0 simple.1 f agrees)

pub returns-in-None-Some-clause-told : goal.returns-in-None-Some-clause-told
returns-in-None-Some-clause-told g c = λ calls known f agrees.
    let h = c.args.machine.now in
    let k = c.equals_object-in-None-Some.new.machine in
    let a = content h.texts c.args.left in
    let b = content h.texts c.args.right in
    let o = c.in-None-Some.object in
    let caller = c.equals_object-in-None-Some.new.caller in
    let object : b ≡ ObjectAt o.0 = ap (content h.texts) (object_is c.args.right o (sym c.object_in-2.ensures ∙ c.in-None-Some.is-1)) in
    let simple = simple_content h.texts c.args.left (sym c.object_in.ensures ∙ c.in-None-Some.is-0) in
    means_is (g.C.Caller.stands c.args.caller.now known h) (g.C.Caller.stands caller known k) (g.C.Caller.stopped caller known) k.texts ShowsTruth c.equals_object-in-None-Some.result (equals calls.call a b) (equal_to_object calls.call (ObjectAt o.0) simple.0)
    (λ s. ap (λ v. equals calls.call a v s) object ∙ ap (λ w. equals calls.call w (ObjectAt o.0) s) simple.1)
    (c.equals_object-in-None-Some.ensures.told calls known simple.0 simple.1 f agrees)

pub returns-in-None-None-clause-told : goal.returns-in-None-None-clause-told
returns-in-None-None-clause-told g c = λ calls known f agrees.
    let h = c.args.machine.now in
    let a = content h.texts c.args.left in
    let b = content h.texts c.args.right in
    let caller = c.args.caller.now in
    let left = simple_content h.texts c.args.left (sym c.object_in.ensures ∙ c.in-None-None.is-0) in
    let right = simple_content h.texts c.args.right (sym c.object_in-2.ensures ∙ c.in-None-None.is-1) in
    means_is (g.C.Caller.stands caller known h) (g.C.Caller.stands caller known h) (g.C.Caller.stopped caller known) h.texts ShowsTruth (Ok c.is_equal.result) (equals calls.call a b) (λ s. Gives (plain.is_equal left.0 right.0) s)
    (λ s. ap (λ v. equals calls.call v b s) left.1 ∙ ap (λ w. equals calls.call (Simple left.0) w s) right.1)
    (record { by = λ s stands. (c.is_equal.ensures left.0 right.0 left.1 right.1, stands) })
