use Rattle.std.proofs.Common.{◌≡◌, [], cond, false, true, Ok, ap, sym, ◌∙◌, subst, refl}
use Rattle.njs_value.specs.declared.Value.TheVariants.{Obj}
use Rattle.njs_clone.specs.Content.{content}
use Rattle.njs_meaning.specs.Values.{ObjectAt}
use Rattle.njs_meaning.specs.State.{Gives}
use Rattle.njs_meaning.specs.Conversions.{tried}
use Rattle.njs_convert.specs.Tells.{Tells, ShowsValue}
use Rattle.njs_convert.proofs.Lookups.{tried_is}
use Rattle.njs_convert.proofs.methods.tried.Goals as goal

pub returns-then-not-is_callable-clause-told : goal.returns-then-not-is_callable-clause-told
returns-then-not-is_callable-clause-told g c = λ calls known f agrees. record {
  by = λ s stands.
      let h = c.args.machine.now in
      let not_called : c.is_callable.result ≡ false = cc in
      let is = tried_is h s calls.call c.args.name.now c.args.object.0 c.get-method.result c.is_callable.result (g.met.C.Caller.objects_are c.args.caller.now known h s stands) c.get-method.ensures.value c.is_callable.ensures in
      let given : tried calls.call c.args.name.now c.args.object.0 s ≡ Gives (ObjectAt c.args.object.0) s =
      is ∙ ap (λ b. cond b (calls.call (content h.texts c.get-method.result) (ObjectAt c.args.object.0) [] s) (Gives (ObjectAt c.args.object.0) s)) not_called
      in
      subst (Tells (g.C.Caller.stands c.args.caller.now known h) (g.C.Caller.stopped c.args.caller.now known) h.texts (ShowsValue h.texts) (Ok (Obj c.args.object))) (sym given) (refl, stands);
}

pub returns-clause-told : goal.returns-clause-told
returns-clause-told g c = λ calls known f agrees. record {
  by = λ s stands.
      let h = c.args.machine.now in
      let k = c.call.new.machine in
      let called : c.is_callable.result ≡ true = cc in
      let is = tried_is h s calls.call c.args.name.now c.args.object.0 c.get-method.result c.is_callable.result (g.met.C.Caller.objects_are c.args.caller.now known h s stands) c.get-method.ensures.value c.is_callable.ensures in
      let given : tried calls.call c.args.name.now c.args.object.0 s ≡ calls.call (content h.texts c.get-method.result) (ObjectAt c.args.object.0) [] s =
      is ∙ ap (λ b. cond b (calls.call (content h.texts c.get-method.result) (ObjectAt c.args.object.0) [] s) (Gives (ObjectAt c.args.object.0) s)) called
      in
      subst (Tells (g.C.Caller.stands c.call.new.self known k) (g.C.Caller.stopped c.call.new.self known) k.texts (ShowsValue k.texts) c.call.result) (sym given) ((c.call.ensures.told calls known f agrees).by s stands);
}
