use Rattle.std.proofs.Common.{Ok, Err, ℤ, refl, subst, FitsSigned, w64, to_z, of_z, rules}
use Rattle.std.proofs.lemmas.Int.{to_z-of_z}
use Rattle.std.specs.Option.{option_map_or}
use Rattle.njs_value.specs.declared.Cause.TheVariants.{NotNumber}
use Rattle.njs_clone.specs.Content.{content}
use Rattle.njs_meaning.specs.declared.level.Hint.TheVariants.{Number}
use Rattle.njs_meaning.specs.State.{Gives}
use Rattle.njs_meaning.specs.Errors.{throw}
use Rattle.njs_meaning.specs.Conversions.{to_primitive, number_or_throw}
use Rattle.njs_convert.specs.Tells.{Tells, ShowsPrimitive, ShowsNumber}
use Rattle.njs_convert.proofs.Grown.{Grows-trans, Grows-Extends}
use Rattle.njs_convert.proofs.Stopped.{throw_keeps}
use Rattle.njs_convert.proofs.Outcomes.{then_tells}
use Rattle.njs_convert.proofs.Thrown.{thrown}
use Rattle.njs_convert.proofs.numbers.to_number.Goals as goal

pub returns-in-Some-clause-told : goal.returns-in-Some-clause-told
returns-in-Some-clause-told g c = λ calls known f agrees. record {
  by = λ s stands.
      let k = c.to_primitive.new.machine in
      let n = c.in-Some.number in
      let after = g.C.Caller.stands c.to_primitive.new.caller known k in
      let stopped = g.C.Caller.stopped c.to_primitive.new.caller known in
      let fits : FitsSigned w64 n = search rules in
      then_tells after after stopped stopped k.texts k.texts (ShowsPrimitive k.texts) (ShowsNumber {N = ℤ}) c.in-Ok.primitive (Ok (to_z w64 (of_z w64 n))) (to_primitive calls.call Number (content c.args.machine.now.texts c.args.value) s) number_or_throw ((c.in-Ok.ensures.told calls known f agrees).by s stands)
      (λ p t shows h. subst (λ r. Tells after stopped k.texts (ShowsNumber {N = ℤ}) (Ok (to_z w64 (of_z w64 n))) (option_map_or (λ i. Gives i t) r (throw NotNumber t))) (c.in-Some.ensures.number p shows) (to_z-of_z w64 n fits, h));
}

pub returns-in-None-clause-told : goal.returns-in-None-clause-told
returns-in-None-clause-told g c = λ calls known f agrees. record {
  by = λ s stands.
      let k = c.to_primitive.new.machine in
      let l = c.throw.new.machine in
      let before = g.C.Caller.stands c.to_primitive.new.caller known k in
      let after = g.C.Caller.stands c.to_primitive.new.caller known l in
      let stopped = g.C.Caller.stopped c.to_primitive.new.caller known in
      then_tells before after stopped stopped k.texts l.texts (ShowsPrimitive k.texts) (ShowsNumber {N = ℤ}) c.in-Ok.primitive (Err c.throw.result) (to_primitive calls.call Number (content c.args.machine.now.texts c.args.value) s) number_or_throw ((c.in-Ok.ensures.told calls known f agrees).by s stands)
      (λ p t shows h. subst (λ r. Tells after stopped l.texts (ShowsNumber {N = ℤ}) (Err c.throw.result) (option_map_or (λ i. Gives i t) r (throw NotNumber t))) (c.in-None.ensures.number p shows)
      (thrown after stopped k l (ShowsNumber {N = ℤ}) NotNumber c.throw.result t (g.met.C.Caller.objects_are c.to_primitive.new.caller known k t h) (g.met.C.Caller.stands_on c.to_primitive.new.caller known k l t h c.throw.ensures.extends) refl c.throw.ensures.throws
      (throw_keeps stopped (g.met.C.Caller.stopped_as c.to_primitive.new.caller known) ℤ NotNumber t (g.met.C.Caller.stops c.to_primitive.new.caller known k t h))));
}

pub returns-in-None-clause-grows : goal.returns-in-None-clause-grows
returns-in-None-clause-grows g c =
    Grows-trans c.args.machine.now c.to_primitive.new.machine c.throw.new.machine c.in-Ok.ensures.grows (Grows-Extends c.to_primitive.new.machine c.throw.new.machine c.throw.ensures.extends)
