use Rattle.std.proofs.Common.{Err, refl, sym, subst}
use Rattle.njs_value.specs.declared.Cause.TheVariants.{NullBase}
use Rattle.njs_value.specs.declared.TextId.{TextId}
use Rattle.njs_clone.specs.Content.{content}
use Rattle.njs_meaning.specs.State.{Gives}
use Rattle.njs_meaning.specs.Running.{Calls}
use Rattle.njs_meaning.specs.Conversions.{to_text}
use Rattle.njs_meaning.specs.References.{Reference}
use Rattle.njs_convert.specs.Tells.{Tells, ShowsText}
use Rattle.njs_convert.proofs.Grown.{Grows-Extends}
use Rattle.njs_convert.proofs.Stopped.{throw_keeps}
use Rattle.njs_convert.proofs.Thrown.{thrown}
use Rattle.njs_interp.specs.Asked.{ShowsMember}
use Rattle.njs_interp.proofs.Further.{grown_content}
use Rattle.njs_interp.proofs.Alone.{counts_alone, counts_error}
use Rattle.njs_interp.proofs.Keys.{member_there, member_missing, name_tells}
use Rattle.njs_interp.proofs.asking.member_by.Goals as goal

pub returns-then-not-has_members-clause-told : goal.returns-then-not-has_members-clause-told
returns-then-not-has_members-clause-told g c = λ calls known x f agrees same. record {
  by = λ s stands.
      let h = c.args.machine.now in
      let k = c.throw.new.machine in
      let caller = c.args.caller.now in
      let base = content h.texts c.args.base in
      let stopped = g.C.Caller.stopped caller known in
      subst (Tells (g.C.Caller.stands caller known k) stopped k.texts (ShowsMember k.texts c.args.base) (Err c.throw.result))
      (sym (member_missing x base (content h.texts c.args.key) c.has_members.result s (c.has_members.ensures.told h.texts (Gives base) s) c.if-not-has_members.true))
      (thrown {V = TextId} {A = Reference} (g.C.Caller.stands caller known k) stopped h k (ShowsMember k.texts c.args.base) NullBase c.throw.result s (g.met.C.Caller.objects_are caller known h s stands) (g.met.C.Caller.stands_on caller known h k s stands c.throw.ensures.extends) refl c.throw.ensures.throws
      (throw_keeps stopped (g.met.C.Caller.stopped_as caller known) Reference NullBase s (g.met.C.Caller.stops caller known h s stands)));
}

pub returns-then-not-has_members-clause-grows : goal.returns-then-not-has_members-clause-grows
returns-then-not-has_members-clause-grows g c = Grows-Extends c.args.machine.now c.throw.new.machine c.throw.ensures.extends

pub returns-then-not-has_members-clause-steps : goal.returns-then-not-has_members-clause-steps
returns-then-not-has_members-clause-steps g c =
    counts_alone {V = TextId} (g.C.Caller.adds c.args.caller.now c.args.steps.now c.args.caller.now) c.args.steps.now c.throw.new.steps (Err c.throw.result) (g.met.C.Caller.adds_none c.args.caller.now c.args.steps.now)
    (counts_error TextId c.args.steps.now c.throw.new.steps c.throw.result c.throw.ensures.steps)

pub returns-clause-told : goal.returns-clause-told
returns-clause-told g c = λ calls known x f agrees same. record {
  by = λ s stands.
      let h = c.args.machine.now in
      let k = c.to_text.new.machine in
      let caller = c.to_text.new.caller in
      let base = content h.texts c.args.base in
      let key = content h.texts c.args.key in
      let after = g.C.Caller.stands caller known k in
      let stopped = g.C.Caller.stopped caller known in
      subst (Tells after stopped k.texts (ShowsMember k.texts c.args.base) c.to_text.result)
      (sym (member_there x base key c.has_members.result s (c.has_members.ensures.told h.texts (Gives base) s) c.if-not-has_members.false))
      (name_tells after stopped k.texts c.args.base base c.to_text.result (to_text x.calls.call key s) (grown_content h k c.to_text.ensures.grows c.args.base c.requires.base)
      (subst (λ (m : Calls). Tells after stopped k.texts (ShowsText k.texts) c.to_text.result (to_text m.call key s)) (sym same) ((c.to_text.ensures.told calls known f agrees).by s stands)));
}
