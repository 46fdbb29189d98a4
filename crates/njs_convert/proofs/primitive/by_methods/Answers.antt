use Rattle.std.proofs.Common.{◌≡◌, true, false, sym, subst, Ok, Err}
use Rattle.njs_meaning.specs.State.{and_then}
use Rattle.njs_meaning.specs.Conversions.{tried, primitive_or, by_second}
use Rattle.njs_convert.specs.Tests.{is_object}
use Rattle.njs_convert.specs.Tells.{Tells, ShowsValue, ShowsPrimitive}
use Rattle.njs_convert.proofs.Grown.{Grows-trans}
use Rattle.njs_convert.proofs.Stopped.{primitive_keeps, by_second_keeps}
use Rattle.njs_convert.proofs.Outcomes.{then_tells, then_ends, primitive_wins, object_loses}
use Rattle.njs_convert.proofs.primitive.by_methods.Goals as goal

pub returns-in-Err-clause-told : goal.returns-in-Err-clause-told
returns-in-Err-clause-told g c = λ calls known f agrees. record {
  by = λ s stands.
      let k = c.tried-2.new.machine in
      let go = primitive_or (by_second calls.call c.args.hint c.args.object.0) in
      let after = g.C.Caller.stands c.tried-2.new.caller known k in
      let same = g.met.C.Caller.stopped_as c.tried-2.new.caller known in
      let stopped = g.C.Caller.stopped c.tried-2.new.caller known in
      subst (λ name. Tells after stopped k.texts (ShowsPrimitive k.texts) (Err c.in-Err.stop) (and_then (tried calls.call name c.args.object.0 s) go)) c.first_method.ensures
      (then_ends after stopped k.texts (ShowsValue k.texts) (ShowsPrimitive k.texts) c.in-Err.stop (tried calls.call c.first_method.result c.args.object.0 s) go ((c.in-Err.ensures.told calls known f agrees).by s stands)
      (primitive_keeps stopped same (by_second calls.call c.args.hint c.args.object.0) (by_second_keeps stopped same calls.call (g.met.C.Caller.stopped_calls c.tried-2.new.caller known calls (c.in-Err.ensures.kept calls known f)) c.args.hint c.args.object.0)));
}

pub returns-then-not-is_object-clause-told : goal.returns-then-not-is_object-clause-told
returns-then-not-is_object-clause-told g c = λ calls known f agrees. record {
  by = λ s stands.
      let k = c.tried-2.new.machine in
      let v = c.in-Ok.given in
      let other = by_second calls.call c.args.hint c.args.object.0 in
      let after = g.C.Caller.stands c.tried-2.new.caller known k in
      let stopped = g.C.Caller.stopped c.tried-2.new.caller known in
      let simple : is_object v ≡ false = cc in
      subst (λ name. Tells after stopped k.texts (ShowsPrimitive k.texts) (Ok v) (and_then (tried calls.call name c.args.object.0 s) (primitive_or other))) c.first_method.ensures
      (then_tells after after stopped stopped k.texts k.texts (ShowsValue k.texts) (ShowsPrimitive k.texts) v (Ok v) (tried calls.call c.first_method.result c.args.object.0 s) (primitive_or other) ((c.in-Ok.ensures.told calls known f agrees).by s stands)
      (λ a t shows h. subst (λ p. Tells after stopped k.texts (ShowsPrimitive k.texts) (Ok v) (primitive_or other p t)) shows (primitive_wins after stopped k.texts other v t simple h)));
}

pub returns-clause-told : goal.returns-clause-told
returns-clause-told g c = λ calls known f agrees. record {
  by = λ s stands.
      let k = c.tried-2.new.machine in
      let l = c.by_second.new.machine in
      let v = c.in-Ok.given in
      let other = by_second calls.call c.args.hint c.args.object.0 in
      let before = g.C.Caller.stands c.tried-2.new.caller known k in
      let after = g.C.Caller.stands c.by_second.new.caller known l in
      let stopped = g.C.Caller.stopped c.by_second.new.caller known in
      let object : is_object v ≡ true = cc in
      subst (λ name. Tells after stopped l.texts (ShowsPrimitive l.texts) c.by_second.result (and_then (tried calls.call name c.args.object.0 s) (primitive_or other))) c.first_method.ensures
      (then_tells before after stopped stopped k.texts l.texts (ShowsValue k.texts) (ShowsPrimitive l.texts) v c.by_second.result (tried calls.call c.first_method.result c.args.object.0 s) (primitive_or other) ((c.in-Ok.ensures.told calls known f (c.by_second.ensures.agrees known agrees)).by s stands)
      (λ a t shows h. subst (λ p. Tells after stopped l.texts (ShowsPrimitive l.texts) c.by_second.result (primitive_or other p t)) shows
      (subst (Tells after stopped l.texts (ShowsPrimitive l.texts) c.by_second.result) (sym (object_loses k.texts other v t object))
      ((c.by_second.ensures.told calls known (c.in-Ok.ensures.kept calls known f) agrees).by t h))));
}

pub returns-clause-grows : goal.returns-clause-grows
returns-clause-grows g c = Grows-trans c.args.machine.now c.tried-2.new.machine c.by_second.new.machine c.in-Ok.ensures.grows c.by_second.ensures.grows
