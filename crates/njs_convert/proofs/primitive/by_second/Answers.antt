use Rattle.std.proofs.Common.{◌≡◌, true, false, refl, sym, subst, Ok, Err}
use Rattle.njs_value.specs.declared.Cause.TheVariants.{NoPrimitive}
use Rattle.njs_shared.specs.Heap.{sizes}
use Rattle.njs_meaning.specs.Primitives.{Primitive}
use Rattle.njs_meaning.specs.State.{and_then}
use Rattle.njs_meaning.specs.Errors.{throw}
use Rattle.njs_meaning.specs.Conversions.{tried, primitive_or}
use Rattle.njs_convert.specs.Tests.{is_object}
use Rattle.njs_convert.specs.Tells.{Tells, ShowsValue, ShowsPrimitive, FitsSimple}
use Rattle.njs_convert.proofs.Grown.{Grows-trans, Grows-Extends}
use Rattle.njs_convert.proofs.Stopped.{throw_keeps, primitive_keeps}
use Rattle.njs_convert.proofs.Outcomes.{then_tells, then_ends, primitive_wins, object_loses}
use Rattle.njs_convert.proofs.Thrown.{thrown, thrown_fits}
use Rattle.njs_convert.proofs.primitive.by_second.Goals as goal

pub returns-in-Err-clause-told : goal.returns-in-Err-clause-told
returns-in-Err-clause-told g c = λ calls known f agrees. record {
  by = λ s stands.
      let k = c.tried-2.new.machine in
      let after = g.C.Caller.stands c.tried-2.new.caller known k in
      let stopped = g.C.Caller.stopped c.tried-2.new.caller known in
      subst (λ name. Tells after stopped k.texts (ShowsPrimitive k.texts) (Err c.in-Err.stop) (and_then (tried calls.call name c.args.object.0 s) (primitive_or (throw NoPrimitive)))) c.second_method.ensures
      (then_ends after stopped k.texts (ShowsValue k.texts) (ShowsPrimitive k.texts) c.in-Err.stop (tried calls.call c.second_method.result c.args.object.0 s) (primitive_or (throw NoPrimitive)) ((c.in-Err.ensures.told calls known f agrees).by s stands)
      (primitive_keeps stopped (g.met.C.Caller.stopped_as c.tried-2.new.caller known) (throw NoPrimitive) (throw_keeps stopped (g.met.C.Caller.stopped_as c.tried-2.new.caller known) Primitive NoPrimitive)));
}

pub returns-then-not-is_object-clause-told : goal.returns-then-not-is_object-clause-told
returns-then-not-is_object-clause-told g c = λ calls known f agrees. record {
  by = λ s stands.
      let k = c.tried-2.new.machine in
      let v = c.in-Ok.given in
      let after = g.C.Caller.stands c.tried-2.new.caller known k in
      let stopped = g.C.Caller.stopped c.tried-2.new.caller known in
      let simple : is_object v ≡ false = cc in
      subst (λ name. Tells after stopped k.texts (ShowsPrimitive k.texts) (Ok v) (and_then (tried calls.call name c.args.object.0 s) (primitive_or (throw NoPrimitive)))) c.second_method.ensures
      (then_tells after after stopped stopped k.texts k.texts (ShowsValue k.texts) (ShowsPrimitive k.texts) v (Ok v) (tried calls.call c.second_method.result c.args.object.0 s) (primitive_or (throw NoPrimitive)) ((c.in-Ok.ensures.told calls known f agrees).by s stands)
      (λ a t shows h. subst (λ p. Tells after stopped k.texts (ShowsPrimitive k.texts) (Ok v) (primitive_or (throw NoPrimitive) p t)) shows (primitive_wins after stopped k.texts (throw NoPrimitive) v t simple h)));
}

pub returns-clause-told : goal.returns-clause-told
returns-clause-told g c = λ calls known f agrees. record {
  by = λ s stands.
      let k = c.tried-2.new.machine in
      let l = c.throw.new.machine in
      let v = c.in-Ok.given in
      let before = g.C.Caller.stands c.tried-2.new.caller known k in
      let after = g.C.Caller.stands c.tried-2.new.caller known l in
      let stopped = g.C.Caller.stopped c.tried-2.new.caller known in
      let object : is_object v ≡ true = cc in
      subst (λ name. Tells after stopped l.texts (ShowsPrimitive l.texts) (Err c.throw.result) (and_then (tried calls.call name c.args.object.0 s) (primitive_or (throw NoPrimitive)))) c.second_method.ensures
      (then_tells before after stopped stopped k.texts l.texts (ShowsValue k.texts) (ShowsPrimitive l.texts) v (Err c.throw.result) (tried calls.call c.second_method.result c.args.object.0 s) (primitive_or (throw NoPrimitive)) ((c.in-Ok.ensures.told calls known f agrees).by s stands)
      (λ a t shows h. subst (λ p. Tells after stopped l.texts (ShowsPrimitive l.texts) (Err c.throw.result) (primitive_or (throw NoPrimitive) p t)) shows
      (subst (Tells after stopped l.texts (ShowsPrimitive l.texts) (Err c.throw.result)) (sym (object_loses k.texts (throw NoPrimitive) v t object))
      (thrown after stopped k l (ShowsPrimitive l.texts) NoPrimitive c.throw.result t (g.met.C.Caller.objects_are c.tried-2.new.caller known k t h) (g.met.C.Caller.stands_on c.tried-2.new.caller known k l t h c.throw.ensures.extends) refl c.throw.ensures.throws
      (throw_keeps stopped (g.met.C.Caller.stopped_as c.tried-2.new.caller known) Primitive NoPrimitive t (g.met.C.Caller.stops c.tried-2.new.caller known k t h))))));
}

pub returns-clause-fits : goal.returns-clause-fits
returns-clause-fits g c = g.met.C.Caller.fits_on c.tried-2.new.caller c.tried-2.new.machine c.throw.new.machine c.in-Ok.ensures.fits c.throw.ensures.extends

pub returns-clause-grows : goal.returns-clause-grows
returns-clause-grows g c = Grows-trans c.args.machine.now c.tried-2.new.machine c.throw.new.machine c.in-Ok.ensures.grows (Grows-Extends c.tried-2.new.machine c.throw.new.machine c.throw.ensures.extends)

pub returns-clause-value : goal.returns-clause-value
returns-clause-value g c = thrown_fits (FitsSimple (sizes c.throw.new.machine)) c.tried-2.new.machine c.throw.new.machine NoPrimitive c.throw.result c.throw.ensures.throws
