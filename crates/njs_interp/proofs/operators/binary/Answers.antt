use Rattle.std.proofs.Common.{◌≡◌, sym, ap, ◌∙◌}
use Rattle.njs_clone.specs.Content.{content}
use Rattle.njs_meaning.specs.Primitives.{Number}
use Rattle.njs_meaning.specs.Values.{Simple}
use Rattle.njs_meaning.specs.Operators.{binary_of}
use Rattle.njs_meaning.specs.Operations.{answered, instance_of, binary}
use Rattle.njs_convert.specs.Tells.{ShowsValue}
use Rattle.njs_convert.proofs.Grown.{Grows-Extends}
use Rattle.njs_interp.proofs.Alone.{alone}
use Rattle.njs_interp.proofs.Meanings.{of_numbers, instance_is}
use Rattle.njs_interp.proofs.Both.{means_is}
use Rattle.njs_interp.proofs.operators.binary.Goals as goal

pub returns-in-Num-Num-clause-told : goal.returns-in-Num-Num-clause-told
returns-in-Num-Num-clause-told g c = λ calls known f agrees.
    let h = c.args.machine.now in
    let k = c.of_two.new.machine in
    let a = content h.texts c.args.left in
    let b = content h.texts c.args.right in
    let n = c.in-Num-Num.field-0-0 in
    let m = c.in-Num-Num.field-0-1 in
    let caller = c.args.caller.now in
    let left : a ≡ Simple (Number n) = ap (content h.texts) c.in-Num-Num.is-0 in
    let right : b ≡ Simple (Number m) = ap (content h.texts) c.in-Num-Num.is-1 in
    let meaning = answered (binary_of c.args.op (Number n) (Number m)) in
    means_is (g.C.Caller.stands caller known h) (g.C.Caller.stands caller known k) (g.C.Caller.stopped caller known) k.texts (ShowsValue k.texts) c.of_two.result (binary calls.call c.args.op a b) meaning
    (λ s. ap (λ v. binary calls.call c.args.op v b s) left ∙ ap (λ v. binary calls.call c.args.op (Simple (Number n)) v s) right ∙ of_numbers calls.call c.args.op n m s)
    (record {
      by = λ s stands.
          alone (g.C.Caller.stands caller known) (g.C.Caller.stopped caller known) (g.met.C.Caller.objects_are caller known) (g.met.C.Caller.stands_on caller known) (g.met.C.Caller.stops caller known) (g.met.C.Caller.stopped_as caller known)
          h k c.of_two.result meaning s (c.of_two.ensures.told (Number n) (Number m) left right) c.of_two.ensures.extends stands;
    })

pub returns-in-Num-Num-clause-grows : goal.returns-in-Num-Num-clause-grows
returns-in-Num-Num-clause-grows g c = Grows-Extends c.args.machine.now c.of_two.new.machine c.of_two.ensures.extends

pub returns-in-Instance-clause-told : goal.returns-in-Instance-clause-told
returns-in-Instance-clause-told g c = λ calls known f agrees.
    let h = c.args.machine.now in
    let k = c.instance_of.new.machine in
    let a = content h.texts c.args.left in
    let b = content h.texts c.args.right in
    let caller = c.args.caller.now in
    means_is (g.C.Caller.stands caller known h) (g.C.Caller.stands caller known k) (g.C.Caller.stopped caller known) k.texts (ShowsValue k.texts) c.instance_of.result (binary calls.call c.args.op a b) (instance_of a b)
    (λ s. instance_is calls.call c.args.op a b s (sym c.group_of.ensures ∙ c.in-Instance.is))
    (record {
      by = λ s stands.
          alone (g.C.Caller.stands caller known) (g.C.Caller.stopped caller known) (g.met.C.Caller.objects_are caller known) (g.met.C.Caller.stands_on caller known) (g.met.C.Caller.stops caller known) (g.met.C.Caller.stopped_as caller known)
          h k c.instance_of.result (instance_of a b) s c.instance_of.ensures.told c.instance_of.ensures.extends stands;
    })

pub returns-in-Instance-clause-grows : goal.returns-in-Instance-clause-grows
returns-in-Instance-clause-grows g c = Grows-Extends c.args.machine.now c.instance_of.new.machine c.instance_of.ensures.extends
