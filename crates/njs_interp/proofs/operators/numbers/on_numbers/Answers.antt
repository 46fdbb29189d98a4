use Rattle.std.proofs.Common.{◌≡◌, ℤ, ap, subst, Ok, Err, FitsSigned, w64, to_z, of_z, rules}
use Rattle.std.proofs.lemmas.Int.{to_z-of_z}
use Rattle.njs_meaning.specs.Values.{Simple}
use Rattle.njs_clone.specs.Content.{content}
use Rattle.njs_meaning.specs.Primitives.{Number}
use Rattle.njs_meaning.specs.Operators.{binary_of}
use Rattle.njs_meaning.specs.State.{State}
use Rattle.njs_meaning.specs.Conversions.{to_number}
use Rattle.njs_meaning.specs.Operations.{answered, binary}
use Rattle.njs_convert.specs.Tells.{Tells, ShowsNumber, ShowsValue}
use Rattle.njs_convert.proofs.Grown.{Grows-trans, Grows-Extends}
use Rattle.njs_convert.proofs.Stopped.{to_number_keeps}
use Rattle.njs_interp.proofs.Further.{grown_content}
use Rattle.njs_interp.proofs.Alone.{alone}
use Rattle.njs_interp.proofs.Meanings.{numbers_are}
use Rattle.njs_interp.proofs.Stopping.{answered_keeps}
use Rattle.njs_interp.proofs.Both.{means_is, both, first_ends, second_ends, both_tell}
use Rattle.njs_interp.proofs.operators.numbers.on_numbers.Goals as goal

pub returns-in-Err-clause-told : goal.returns-in-Err-clause-told
returns-in-Err-clause-told g c = λ calls known f agrees.
    let h = c.args.machine.now in
    let k = c.to_number.new.machine in
    let a = content h.texts c.args.left in
    let b = content h.texts c.args.right in
    let caller = c.to_number.new.caller in
    let before = g.C.Caller.stands c.args.caller.now known h in
    let after = g.C.Caller.stands caller known k in
    let stopped = g.C.Caller.stopped caller known in
    let same = g.met.C.Caller.stopped_as caller known in
    let keep = g.met.C.Caller.stopped_calls caller known calls (c.in-Err.ensures.kept calls known f) in
    let convert = to_number calls.call in
    let go = (λ (n m : ℤ) (u : State). answered (binary_of c.args.op (Number n) (Number m)) u) in
    means_is before after stopped k.texts (ShowsValue k.texts) (Err c.in-Err.stop) (binary calls.call c.args.op a b) (both convert go a b) (λ s. numbers_are calls.call c.args.op a b s c.requires.op)
    (record {
      by = λ s stands.
          first_ends convert go a b stopped (to_number_keeps stopped same calls.call keep) (λ n m. answered_keeps stopped same (binary_of c.args.op (Number n) (Number m))) after k.texts (ShowsNumber {N = ℤ}) (ShowsValue k.texts) c.in-Err.stop s
          ((c.in-Err.ensures.told calls known f agrees).by s stands);
    })

pub returns-in-Err-to_number-clause-told : goal.returns-in-Err-to_number-clause-told
returns-in-Err-to_number-clause-told g c = λ calls known f agrees.
    let h = c.args.machine.now in
    let k = c.to_number.new.machine in
    let l = c.to_number-2.new.machine in
    let a = content h.texts c.args.left in
    let b = content h.texts c.args.right in
    let first = c.to_number.new.caller in
    let caller = c.to_number-2.new.caller in
    let before = g.C.Caller.stands c.args.caller.now known h in
    let between = g.C.Caller.stands first known k in
    let after = g.C.Caller.stands caller known l in
    let stopped = g.C.Caller.stopped caller known in
    let same = g.met.C.Caller.stopped_as caller known in
    let f1 = c.in-Ok.ensures.kept calls known f in
    let keep = g.met.C.Caller.stopped_calls caller known calls (c.in-Err-to_number.ensures.kept calls known f1) in
    let convert = to_number calls.call in
    let go = (λ (n m : ℤ) (u : State). answered (binary_of c.args.op (Number n) (Number m)) u) in
    let same_b : content k.texts c.args.right ≡ b = grown_content h k c.in-Ok.ensures.grows c.args.right c.requires.right in
    means_is before after stopped l.texts (ShowsValue l.texts) (Err c.in-Err-to_number.stop) (binary calls.call c.args.op a b) (both convert go a b) (λ s. numbers_are calls.call c.args.op a b s c.requires.op)
    (record {
      by = λ s stands.
          second_ends convert go a b stopped (to_number_keeps stopped same calls.call keep) (λ n m. answered_keeps stopped same (binary_of c.args.op (Number n) (Number m))) between after (g.C.Caller.stopped first known) k.texts l.texts (ShowsNumber {N = ℤ}) (ShowsNumber {N = ℤ}) (ShowsValue l.texts) c.in-Ok.first c.in-Err-to_number.stop s
          ((c.in-Ok.ensures.told calls known f (c.in-Err-to_number.ensures.agrees known agrees)).by s stands)
          (λ t there. subst (λ w. Tells after stopped l.texts (ShowsNumber {N = ℤ}) (Err c.in-Err-to_number.stop) (convert w t)) same_b ((c.in-Err-to_number.ensures.told calls known f1 agrees).by t there));
    })

pub returns-in-Err-to_number-clause-grows : goal.returns-in-Err-to_number-clause-grows
returns-in-Err-to_number-clause-grows g c = Grows-trans c.args.machine.now c.to_number.new.machine c.to_number-2.new.machine c.in-Ok.ensures.grows c.in-Err-to_number.ensures.grows

pub returns-clause-told : goal.returns-clause-told
returns-clause-told g c = λ calls known f agrees.
    let h = c.args.machine.now in
    let k = c.to_number.new.machine in
    let l = c.to_number-2.new.machine in
    let m = c.of_two.new.machine in
    let a = content h.texts c.args.left in
    let b = content h.texts c.args.right in
    let first = c.to_number.new.caller in
    let second = c.to_number-2.new.caller in
    let caller = c.to_number-2.new.caller in
    let before = g.C.Caller.stands c.args.caller.now known h in
    let between = g.C.Caller.stands first known k in
    let there = g.C.Caller.stands second known l in
    let after = g.C.Caller.stands caller known m in
    let f1 = c.in-Ok.ensures.kept calls known f in
    let convert = to_number calls.call in
    let go = (λ (n m : ℤ) (u : State). answered (binary_of c.args.op (Number n) (Number m)) u) in
    let fits₁ : FitsSigned w64 c.in-Ok.first = search rules in
    let fits₂ : FitsSigned w64 c.in-Ok-to_number.second = search rules in
    let same₁ : to_z w64 (of_z w64 c.in-Ok.first) ≡ c.in-Ok.first = to_z-of_z w64 c.in-Ok.first fits₁ in
    let same₂ : to_z w64 (of_z w64 c.in-Ok-to_number.second) ≡ c.in-Ok-to_number.second = to_z-of_z w64 c.in-Ok-to_number.second fits₂ in
    let agrees₂ = agrees in
    let same_b : content k.texts c.args.right ≡ b = grown_content h k c.in-Ok.ensures.grows c.args.right c.requires.right in
    means_is before after (g.C.Caller.stopped caller known) m.texts (ShowsValue m.texts) c.of_two.result (binary calls.call c.args.op a b) (both convert go a b) (λ s. numbers_are calls.call c.args.op a b s c.requires.op)
    (record {
      by = λ s stands.
          both_tell convert go a b between there after (g.C.Caller.stopped first known) (g.C.Caller.stopped second known) (g.C.Caller.stopped caller known) k.texts l.texts m.texts (ShowsNumber {N = ℤ}) (ShowsNumber {N = ℤ}) (ShowsValue m.texts) c.in-Ok.first c.in-Ok-to_number.second c.of_two.result s
          ((c.in-Ok.ensures.told calls known f (c.in-Ok-to_number.ensures.agrees known agrees₂)).by s stands)
          (λ t here. subst (λ w. Tells there (g.C.Caller.stopped second known) l.texts (ShowsNumber {N = ℤ}) (Ok c.in-Ok-to_number.second) (convert w t)) same_b ((c.in-Ok-to_number.ensures.told calls known f1 agrees₂).by t here))
          (λ n m' u shown shown₂ here.
          subst (λ i. Tells after (g.C.Caller.stopped caller known) m.texts (ShowsValue m.texts) c.of_two.result (answered (binary_of c.args.op (Number i) (Number m')) u)) shown
          (subst (λ i. Tells after (g.C.Caller.stopped caller known) m.texts (ShowsValue m.texts) c.of_two.result (answered (binary_of c.args.op (Number c.in-Ok.first) (Number i)) u)) shown₂
          (alone (g.C.Caller.stands caller known) (g.C.Caller.stopped caller known) (g.met.C.Caller.objects_are caller known) (g.met.C.Caller.stands_on caller known) (g.met.C.Caller.stops caller known) (g.met.C.Caller.stopped_as caller known)
          l m c.of_two.result (answered (binary_of c.args.op (Number c.in-Ok.first) (Number c.in-Ok-to_number.second))) u (c.of_two.ensures.told (Number c.in-Ok.first) (Number c.in-Ok-to_number.second) (ap (λ i. Simple (Number i)) same₁) (ap (λ i. Simple (Number i)) same₂)) c.of_two.ensures.extends here)));
    })

pub returns-clause-grows : goal.returns-clause-grows
returns-clause-grows g c =
    Grows-trans c.args.machine.now c.to_number-2.new.machine c.of_two.new.machine
    (Grows-trans c.args.machine.now c.to_number.new.machine c.to_number-2.new.machine c.in-Ok.ensures.grows c.in-Ok-to_number.ensures.grows)
    (Grows-Extends c.to_number-2.new.machine c.of_two.new.machine c.of_two.ensures.extends)
