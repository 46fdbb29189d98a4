use Rattle.std.proofs.Common.{◌∙◌, ℕ, ℤ, Option, Err, refl, ap, subst, FitsSigned, w64, rules}
use Rattle.std.proofs.lemmas.Int.{to_z-of_z}
use Rattle.std.specs.Option.{option_map_or}
use Rattle.njs_value.specs.declared.Cause.TheVariants.{BadArgument}
use Rattle.njs_clone.specs.Content.{content}
use Rattle.njs_meaning.specs.Values.{PlainValue}
use Rattle.njs_meaning.specs.State.{Head}
use Rattle.njs_meaning.specs.Errors.{throw}
use Rattle.njs_meaning.specs.Conversions.{to_number}
use Rattle.njs_convert.specs.Tells.{Tells, ShowsNumber, ShowsValue}
use Rattle.njs_convert.proofs.Grown.{Grows-trans, Grows-Extends}
use Rattle.njs_convert.proofs.Outcomes.{then_tells, then_ends}
use Rattle.njs_convert.proofs.Stopped.{throw_keeps}
use Rattle.njs_convert.proofs.Thrown.{thrown}
use Rattle.njs_request.specs.Return.{plain_head, status_from, answer_text, answer_number}
use Rattle.njs_request.proofs.Growth.{content_grown}
use Rattle.njs_request.proofs.Keeping.{answer_number_keeps}
use Rattle.njs_request.proofs.answer.answer_status.Goals as goal

pub returns-in-Err-clause-told : goal.returns-in-Err-clause-told
returns-in-Err-clause-told g c = λ calls known f agrees. record {
  by = λ s stands.
      let h = c.args.machine.now in
      let k = c.to_number.new.machine in
      let caller = c.to_number.new.caller in
      let stopped = g.C.Caller.stopped caller known in
      let text = content h.texts c.args.text in
      then_ends (g.C.Caller.stands caller known k) stopped k.texts (ShowsNumber {N = ℤ}) (ShowsValue k.texts) c.in-Err.stop (to_number calls.call (content h.texts c.args.status) s) (answer_number calls.call text)
      ((c.in-Err.ensures.told calls known f agrees).by s stands)
      (answer_number_keeps stopped (g.met.C.Caller.stopped_as caller known) calls.call (g.met.C.Caller.stopped_calls caller known calls (c.in-Err.ensures.kept calls known f)) text);
}

pub returns-in-Some-clause-told : goal.returns-in-Some-clause-told
returns-in-Some-clause-told g c = λ calls known f agrees. record {
  by = λ s stands.
      let h = c.args.machine.now in
      let k = c.to_number.new.machine in
      let l = c.answer_text.new.machine in
      let first = c.to_number.new.caller in
      let last = c.answer_text.new.caller in
      let n = c.in-Ok.number in
      let fits : FitsSigned w64 n = search rules in
      let r = c.answer_text.result in
      let text = content h.texts c.args.text in
      let after = g.C.Caller.stands last known l in
      let stopped = g.C.Caller.stopped last known in
      then_tells (g.C.Caller.stands first known k) after (g.C.Caller.stopped first known) stopped k.texts l.texts (ShowsNumber {N = ℤ}) (ShowsValue l.texts) n r (to_number calls.call (content h.texts c.args.status) s)
      (answer_number calls.call text) ((c.in-Ok.ensures.told calls known f (c.answer_text.ensures.agrees known agrees)).by s stands)
      (λ m t shows here. subst (λ (i : ℤ). Tells after stopped l.texts (ShowsValue l.texts) r (answer_number calls.call text i t)) shows
      (subst (λ (o : Option ℕ). Tells after stopped l.texts (ShowsValue l.texts) r (option_map_or (λ status. answer_text calls.call (plain_head status) text t) o (throw BadArgument t))) (c.in-Some.ensures.status ∙ ap status_from (to_z-of_z w64 n fits))
      (subst (λ (v : PlainValue). Tells after stopped l.texts (ShowsValue l.texts) r (answer_text calls.call (plain_head c.in-Some.status) v t)) (content_grown h k c.in-Ok.ensures.grows c.args.text c.requires.text)
      (subst (λ (head : Head). Tells after stopped l.texts (ShowsValue l.texts) r (answer_text calls.call head (content k.texts c.args.text) t)) c.plain-head.ensures
      ((c.answer_text.ensures.told calls known (c.in-Ok.ensures.kept calls known f) agrees).by t here)))));
}

pub returns-in-Some-clause-grows : goal.returns-in-Some-clause-grows
returns-in-Some-clause-grows g c = Grows-trans c.args.machine.now c.to_number.new.machine c.answer_text.new.machine c.in-Ok.ensures.grows c.answer_text.ensures.grows

pub returns-in-None-clause-told : goal.returns-in-None-clause-told
returns-in-None-clause-told g c = λ calls known f agrees. record {
  by = λ s stands.
      let h = c.args.machine.now in
      let k = c.to_number.new.machine in
      let l = c.throw.new.machine in
      let caller = c.to_number.new.caller in
      let n = c.in-Ok.number in
      let fits : FitsSigned w64 n = search rules in
      let text = content h.texts c.args.text in
      let before = g.C.Caller.stands caller known k in
      let after = g.C.Caller.stands caller known l in
      let stopped = g.C.Caller.stopped caller known in
      then_tells before after stopped stopped k.texts l.texts (ShowsNumber {N = ℤ}) (ShowsValue l.texts) n (Err c.throw.result) (to_number calls.call (content h.texts c.args.status) s) (answer_number calls.call text)
      ((c.in-Ok.ensures.told calls known f agrees).by s stands)
      (λ m t shows here. subst (λ (i : ℤ). Tells after stopped l.texts (ShowsValue l.texts) (Err c.throw.result) (answer_number calls.call text i t)) shows
      (subst (λ (o : Option ℕ). Tells after stopped l.texts (ShowsValue l.texts) (Err c.throw.result) (option_map_or (λ status. answer_text calls.call (plain_head status) text t) o (throw BadArgument t))) (c.in-None.ensures.status ∙ ap status_from (to_z-of_z w64 n fits))
      (thrown after stopped k l (ShowsValue l.texts) BadArgument c.throw.result t (g.met.C.Caller.objects_are caller known k t here) (g.met.C.Caller.stands_on caller known k l t here c.throw.ensures.extends) refl c.throw.ensures.throws
      (throw_keeps stopped (g.met.C.Caller.stopped_as caller known) PlainValue BadArgument t (g.met.C.Caller.stops caller known k t here)))));
}

pub returns-in-None-clause-grows : goal.returns-in-None-clause-grows
returns-in-None-clause-grows g c =
    Grows-trans c.args.machine.now c.to_number.new.machine c.throw.new.machine c.in-Ok.ensures.grows (Grows-Extends c.to_number.new.machine c.throw.new.machine c.throw.ensures.extends)
