use Rattle.std.proofs.Common.{◌≡◌, subst, ◌∙◌, Ok, Err}
use Rattle.njs_clone.specs.Content.{content}
use Rattle.njs_tree.specs.declared.tree.BinaryOp.TheVariants.{Add}
use Rattle.njs_meaning.specs.declared.level.Hint.TheVariants.{Any}
use Rattle.njs_meaning.specs.Primitives.{Primitive}
use Rattle.njs_meaning.specs.Operators.{binary_of}
use Rattle.njs_meaning.specs.State.{State}
use Rattle.njs_meaning.specs.Conversions.{to_primitive}
use Rattle.njs_meaning.specs.Operations.{paid, binary}
use Rattle.njs_convert.specs.Tells.{Tells, ShowsPrimitive, ShowsValue}
use Rattle.njs_convert.proofs.Grown.{Grows-trans}
use Rattle.njs_convert.proofs.Stopped.{to_primitive_keeps}
use Rattle.njs_interp.proofs.Further.{grown_content}
use Rattle.njs_interp.proofs.Meanings.{sum_is}
use Rattle.njs_interp.proofs.Stopping.{paid_keeps}
use Rattle.njs_interp.proofs.Both.{means_is, both, first_ends, second_ends, both_tell}
use Rattle.njs_interp.proofs.operators.sums.added.Goals as goal

pub returns-in-Err-clause-told : goal.returns-in-Err-clause-told
returns-in-Err-clause-told g c = λ calls known f agrees.
    let h = c.args.machine.now in
    let k = c.to_primitive.new.machine in
    let a = content h.texts c.args.left in
    let b = content h.texts c.args.right in
    let caller = c.to_primitive.new.caller in
    let before = g.C.Caller.stands c.args.caller.now known h in
    let after = g.C.Caller.stands caller known k in
    let stopped = g.C.Caller.stopped caller known in
    let same = g.met.C.Caller.stopped_as caller known in
    let keep = g.met.C.Caller.stopped_calls caller known calls (c.in-Err.ensures.kept calls known f) in
    let convert = to_primitive calls.call Any in
    let go = (λ (p q : Primitive) (u : State). paid (binary_of Add p q) u) in
    means_is before after stopped k.texts (ShowsValue k.texts) (Err c.in-Err.stop) (binary calls.call c.args.op a b) (both convert go a b) (λ s. sum_is calls.call c.args.op a b s c.requires.op)
    (record {
      by = λ s stands.
          first_ends convert go a b stopped (to_primitive_keeps stopped same calls.call keep Any) (λ p q. paid_keeps stopped same (binary_of Add p q)) after k.texts (ShowsPrimitive k.texts) (ShowsValue k.texts) c.in-Err.stop s
          ((c.in-Err.ensures.told calls known f agrees).by s stands);
    })

pub returns-in-Err-to_primitive-clause-told : goal.returns-in-Err-to_primitive-clause-told
returns-in-Err-to_primitive-clause-told g c = λ calls known f agrees.
    let h = c.args.machine.now in
    let k = c.to_primitive.new.machine in
    let l = c.to_primitive-2.new.machine in
    let a = content h.texts c.args.left in
    let b = content h.texts c.args.right in
    let first = c.to_primitive.new.caller in
    let caller = c.to_primitive-2.new.caller in
    let before = g.C.Caller.stands c.args.caller.now known h in
    let between = g.C.Caller.stands first known k in
    let after = g.C.Caller.stands caller known l in
    let stopped = g.C.Caller.stopped caller known in
    let same = g.met.C.Caller.stopped_as caller known in
    let f1 = c.in-Ok.ensures.kept calls known f in
    let keep = g.met.C.Caller.stopped_calls caller known calls (c.in-Err-to_primitive.ensures.kept calls known f1) in
    let convert = to_primitive calls.call Any in
    let go = (λ (p q : Primitive) (u : State). paid (binary_of Add p q) u) in
    let same_b : content k.texts c.args.right ≡ b = grown_content h k c.in-Ok.ensures.grows c.args.right c.requires.right in
    means_is before after stopped l.texts (ShowsValue l.texts) (Err c.in-Err-to_primitive.stop) (binary calls.call c.args.op a b) (both convert go a b) (λ s. sum_is calls.call c.args.op a b s c.requires.op)
    (record {
      by = λ s stands.
          second_ends convert go a b stopped (to_primitive_keeps stopped same calls.call keep Any) (λ p q. paid_keeps stopped same (binary_of Add p q)) between after (g.C.Caller.stopped first known) k.texts l.texts (ShowsPrimitive k.texts) (ShowsPrimitive l.texts) (ShowsValue l.texts) c.in-Ok.first c.in-Err-to_primitive.stop s
          ((c.in-Ok.ensures.told calls known f (c.in-Err-to_primitive.ensures.agrees known agrees)).by s stands)
          (λ t there. subst (λ w. Tells after stopped l.texts (ShowsPrimitive l.texts) (Err c.in-Err-to_primitive.stop) (convert w t)) same_b ((c.in-Err-to_primitive.ensures.told calls known f1 agrees).by t there));
    })

pub returns-in-Err-to_primitive-clause-grows : goal.returns-in-Err-to_primitive-clause-grows
returns-in-Err-to_primitive-clause-grows g c = Grows-trans c.args.machine.now c.to_primitive.new.machine c.to_primitive-2.new.machine c.in-Ok.ensures.grows c.in-Err-to_primitive.ensures.grows

pub returns-clause-told : goal.returns-clause-told
returns-clause-told g c = λ calls known f agrees.
    let h = c.args.machine.now in
    let k = c.to_primitive.new.machine in
    let l = c.to_primitive-2.new.machine in
    let m = c.sum.new.machine in
    let a = content h.texts c.args.left in
    let b = content h.texts c.args.right in
    let first = c.to_primitive.new.caller in
    let second = c.to_primitive-2.new.caller in
    let caller = c.sum.new.caller in
    let before = g.C.Caller.stands c.args.caller.now known h in
    let between = g.C.Caller.stands first known k in
    let there = g.C.Caller.stands second known l in
    let after = g.C.Caller.stands caller known m in
    let f1 = c.in-Ok.ensures.kept calls known f in
    let convert = to_primitive calls.call Any in
    let go = (λ (p q : Primitive) (u : State). paid (binary_of Add p q) u) in
    let agrees₂ = c.sum.ensures.agrees known agrees in
    let same_b : content k.texts c.args.right ≡ b = grown_content h k c.in-Ok.ensures.grows c.args.right c.requires.right in
    means_is before after (g.C.Caller.stopped caller known) m.texts (ShowsValue m.texts) c.sum.result (binary calls.call c.args.op a b) (both convert go a b) (λ s. sum_is calls.call c.args.op a b s c.requires.op)
    (record {
      by = λ s stands.
          both_tell convert go a b between there after (g.C.Caller.stopped first known) (g.C.Caller.stopped second known) (g.C.Caller.stopped caller known) k.texts l.texts m.texts (ShowsPrimitive k.texts) (ShowsPrimitive l.texts) (ShowsValue m.texts) c.in-Ok.first c.in-Ok-to_primitive.second c.sum.result s
          ((c.in-Ok.ensures.told calls known f (c.in-Ok-to_primitive.ensures.agrees known agrees₂)).by s stands)
          (λ t here. subst (λ w. Tells there (g.C.Caller.stopped second known) l.texts (ShowsPrimitive l.texts) (Ok c.in-Ok-to_primitive.second) (convert w t)) same_b ((c.in-Ok-to_primitive.ensures.told calls known f1 agrees₂).by t here))
          (λ p q u shown shown₂ here.
          (c.sum.ensures.told calls known p q (grown_content k l c.in-Ok-to_primitive.ensures.grows c.in-Ok.first c.in-Ok.ensures.value.0 ∙ shown) shown₂ agrees).by u here);
    })

pub returns-clause-grows : goal.returns-clause-grows
returns-clause-grows g c =
    Grows-trans c.args.machine.now c.to_primitive-2.new.machine c.sum.new.machine
    (Grows-trans c.args.machine.now c.to_primitive.new.machine c.to_primitive-2.new.machine c.in-Ok.ensures.grows c.in-Ok-to_primitive.ensures.grows)
    c.sum.ensures.grows
