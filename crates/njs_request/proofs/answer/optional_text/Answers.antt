use Rattle.std.proofs.Common.{◌≡◌, [], true, false, Ok, sym, ◌∙◌, subst}
use Rattle.std.specs.Str.{chars}
use Rattle.std.proofs.lemmas.Option.{get_or_from_slice_get}
use Rattle.njs_clone.specs.Content.{content}
use Rattle.njs_meaning.specs.Conversions.{to_text}
use Rattle.njs_convert.specs.Tells.{Tells, text_at}
use Rattle.njs_request.specs.Tells.{ShowsContent}
use Rattle.njs_request.proofs.Telling.{undefined_gives, other_converts, copied_tells}
use Rattle.njs_request.proofs.answer.optional_text.Goals as goal

pub returns-then-is_undefined-clause-told : goal.returns-then-is_undefined-clause-told
unfolding chars
returns-then-is_undefined-clause-told g c = λ calls known f agrees. record {
  by = λ s stands.
      let h = c.args.machine.now in
      let caller = c.args.caller.now in
      let is : c.is_undefined.result ≡ true = cc in
      subst (Tells (g.C.Caller.stands caller known h) (g.C.Caller.stopped caller known) h.texts ShowsContent (Ok c.fixed.result))
      (sym (undefined_gives h.texts c.args.value calls.call s (sym c.is_undefined.ensures ∙ is))) (c.fixed.ensures, stands);
}

pub returns-in-Ok-copy-clause-told : goal.returns-in-Ok-copy-clause-told
returns-in-Ok-copy-clause-told g c = λ calls known f agrees. record {
  by = λ s stands.
      let h = c.args.machine.now in
      let k = c.to_text.new.machine in
      let after = g.C.Caller.stands c.to_text.new.caller known k in
      let stopped = g.C.Caller.stopped c.to_text.new.caller known in
      let other : c.is_undefined.result ≡ false = cc in
      let read : text_at k.texts c.in-Ok.text ≡ c.in-Ok-copy.text = get_or_from_slice_get k.texts c.in-Ok.text.0 c.text.result.now [] c.text.ensures ∙ sym c.in-Ok-copy.ensures in
      subst (Tells after stopped k.texts ShowsContent (Ok c.in-Ok-copy.text)) (sym (other_converts h.texts c.args.value calls.call s (sym c.is_undefined.ensures ∙ other)))
      (copied_tells after stopped k.texts c.in-Ok.text c.in-Ok-copy.text (to_text calls.call (content h.texts c.args.value) s) read ((c.in-Ok.ensures.told calls known f agrees).by s stands));
}
