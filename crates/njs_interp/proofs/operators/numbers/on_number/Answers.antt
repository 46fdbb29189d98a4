use Rattle.std.proofs.Common.{◌≡◌, ℤ, ap, subst, FitsSigned, w64, to_z, of_z, rules}
use Rattle.std.proofs.lemmas.Int.{to_z-of_z}
use Rattle.njs_clone.specs.Content.{content}
use Rattle.njs_meaning.specs.Primitives.{Number}
use Rattle.njs_meaning.specs.Values.{Simple}
use Rattle.njs_meaning.specs.Operators.{unary_of}
use Rattle.njs_meaning.specs.Conversions.{to_number}
use Rattle.njs_meaning.specs.Operations.{answered}
use Rattle.njs_convert.specs.Tells.{Tells, ShowsNumber, ShowsValue}
use Rattle.njs_convert.proofs.Grown.{Grows-trans, Grows-Extends}
use Rattle.njs_convert.proofs.Outcomes.{then_tells}
use Rattle.njs_interp.proofs.Alone.{alone}
use Rattle.njs_interp.proofs.operators.numbers.on_number.Goals as goal

pub returns-clause-told : goal.returns-clause-told
returns-clause-told g c = λ calls known f agrees. record {
  by = λ s stands.
      let k = c.to_number.new.machine in
      let l = c.of_one.new.machine in
      let n = c.in-Ok.number in
      let caller = c.to_number.new.caller in
      let after = g.C.Caller.stands caller known in
      let stopped = g.C.Caller.stopped caller known in
      let fits : FitsSigned w64 n = search rules in
      let same : to_z w64 (of_z w64 n) ≡ n = to_z-of_z w64 n fits in
      then_tells (after k) (after l) stopped stopped k.texts l.texts (ShowsNumber {N = ℤ}) (ShowsValue l.texts) n c.of_one.result (to_number calls.call (content c.args.machine.now.texts c.args.value) s) (λ i u. answered (unary_of c.args.op (Number i)) u)
      ((c.in-Ok.ensures.told calls known f agrees).by s stands)
      (λ i u shown here. subst (λ j. Tells (after l) stopped l.texts (ShowsValue l.texts) c.of_one.result (answered (unary_of c.args.op (Number j)) u)) shown
      (alone after stopped (g.met.C.Caller.objects_are caller known) (g.met.C.Caller.stands_on caller known) (g.met.C.Caller.stops caller known) (g.met.C.Caller.stopped_as caller known)
      k l c.of_one.result (answered (unary_of c.args.op (Number n))) u (c.of_one.ensures.told (Number n) (ap (λ j. Simple (Number j)) same)) c.of_one.ensures.extends here));
}

pub returns-clause-grows : goal.returns-clause-grows
returns-clause-grows g c = Grows-trans c.args.machine.now c.to_number.new.machine c.of_one.new.machine c.in-Ok.ensures.grows (Grows-Extends c.to_number.new.machine c.of_one.new.machine c.of_one.ensures.extends)
