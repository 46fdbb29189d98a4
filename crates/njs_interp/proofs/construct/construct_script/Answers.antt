use Rattle.std.proofs.Common.{◌≡◌, ◌<◌, List, Ok, Err, length, map, ap, refl, sym, subst, ◌∙◌, arith}
use Rattle.std.proofs.lemmas.List.{length-map}
use Rattle.njs_value.specs.declared.Value.{Value}
use Rattle.njs_shared.specs.Heap.{Heap, sizes}
use Rattle.njs_shared.specs.Fits.{FitsValue}
use Rattle.njs_clone.specs.Content.{content}
use Rattle.njs_clone.specs.StandsFor.{mapped_object, content_inner}
use Rattle.njs_meaning.specs.Chains.{get}
use Rattle.njs_meaning.specs.Primitives.{Undefined}
use Rattle.njs_meaning.specs.Values.{PlainValue, Simple, ObjectAt}
use Rattle.njs_meaning.specs.Running.{with_object}
use Rattle.njs_meaning.specs.State.{State, Gives}
use Rattle.njs_meaning.specs.Functions.{prototype_name, new_from, or_made, call_script}
use Rattle.njs_convert.specs.Tells.{Tells, ShowsValue}
use Rattle.njs_convert.proofs.Stopped.{then_keeps}
use Rattle.njs_simul.specs.Fits.{Good}
use Rattle.njs_simul.proofs.Kept.{fares_object}
use Rattle.njs_interp.specs.Hosts.{counts_of}
use Rattle.njs_interp.specs.Calling.{StandsThere}
use Rattle.njs_interp.proofs.Constructing.{made_state, made_tells, unmade_tells}
use Rattle.njs_interp.proofs.Kept.{all-more, FitsValue-widened, values-widened, Widens-Extends, Widens-objects, Widens-trans}
use Rattle.njs_interp.proofs.Scripts.{code_there, function_is, script_keeps}
use Rattle.njs_interp.proofs.construct.construct_script.Goals as goal

pub returns-in-Err-clause-told : goal.returns-in-Err-clause-told
returns-in-Err-clause-told g c = λ calls k program of f agrees. record {
  by = λ s stood.
      let h : Heap = c.args.machine.now in
      let caller = c.args.caller.now in
      let stopped = g.C.Caller.stopped caller k in
      let same = g.met.C.Caller.stopped_as caller k in
      let there = code_there c.args.codes.now c.args.unit c.args.number c.requires.there.0 c.requires.there.1 in
      let is = function_is c.args.codes.now k program of c.args.unit there.code there.found c.args.number there.function there.there in
      let args : List PlainValue = map (content h.texts) c.args.args.now in
      let object = new_from (get (Simple Undefined) prototype_name s.objects c.args.function.0) in
      let t : State = with_object object s in
      let this : PlainValue = ObjectAt (length s.objects) in
      let good : Good k.around t = (fares_object k.around object s tt (g.met.C.Runner.good_is caller k h s stood.0)).good in
      then_keeps stopped (call_script program calls c.args.unit c.args.number c.args.scope this args t) (λ v u. Gives (or_made (length s.objects) v) u)
      (script_keeps k.around program c.args.unit c.args.number there.function is calls c.args.scope this args stopped same (g.met.C.Runner.fares caller k calls f)
      (record { call = g.met.C.Caller.stopped_calls caller k calls f; construct = g.met.C.Caller.stopped_new caller k calls f }) t stood.1 good
      (same s t refl refl (g.met.C.Caller.stops caller k h s stood.0)))
      (λ v u before. before);
}

pub returns-in-Err-clause-fits : goal.returns-in-Err-clause-fits
returns-in-Err-clause-fits g c = g.met.C.Caller.fits_on c.args.caller.now c.args.machine.now c.new_object_of.new.machine c.requires.fits c.new_object_of.ensures.extends

pub returns-in-Err-clause-widens : goal.returns-in-Err-clause-widens
returns-in-Err-clause-widens g c = Widens-Extends c.args.machine.now c.new_object_of.new.machine c.new_object_of.ensures.extends

pub call_script-requires-clause-there : goal.call_script-requires-clause-there
call_script-requires-clause-there g c =
    subst (λ scopes. StandsThere (counts_of c.args.codes.now) scopes c.args.unit c.args.number c.args.scope) (sym c.new_object_of.ensures.extends.scopes) c.requires.there

pub call_script-requires-clause-this : goal.call_script-requires-clause-this
call_script-requires-clause-this g c = omega (arith, c.in-Ok.ensures.number, c.in-Ok.ensures.more)

pub call_script-requires-clause-args : goal.call_script-requires-clause-args
call_script-requires-clause-args g c =
    let h : Heap = c.args.machine.now in
    let mid : Heap = c.new_object_of.new.machine in
    all-more (FitsValue (sizes h)) (FitsValue (sizes mid)) (λ v fits. FitsValue-widened h mid (Widens-Extends h mid c.new_object_of.ensures.extends) v fits) c.args.args.now c.requires.args

pub call_script-requires-clause-fits : goal.call_script-requires-clause-fits
call_script-requires-clause-fits g c = g.met.C.Caller.fits_on c.args.caller.now c.args.machine.now c.new_object_of.new.machine c.requires.fits c.new_object_of.ensures.extends

pub call_script-requires-clause-first : goal.call_script-requires-clause-first
call_script-requires-clause-first g c = omega (arith, c.requires.first, c.in-Ok.ensures.more)

pub returns-in-Ok-call_script-clause-told : goal.returns-in-Ok-call_script-clause-told
returns-in-Ok-call_script-clause-told g c = λ calls k program of f agrees. record {
  by = λ s stood.
      let h : Heap = c.args.machine.now in
      let mid : Heap = c.new_object_of.new.machine in
      let new : Heap = c.call_script.new.machine in
      let caller = c.args.caller.now in
      let last = c.call_script.new.caller in
      let after = g.C.Runner.holds last k new in
      let stopped = g.C.Caller.stopped last k in
      let extends = c.new_object_of.ensures.extends in
      let values : List Value = c.args.args.now in
      let objects = g.met.C.Caller.objects_are caller k h s stood.0 in
      let t : State = with_object (new_from (get (Simple Undefined) prototype_name s.objects c.args.function.0)) s in
      let stands = subst (λ (u : State). g.C.Caller.stands caller k mid u) (made_state h mid c.args.function.0 s objects c.in-Ok.ensures.made) (g.met.C.Caller.stands_on caller k h mid s stood.0 extends) in
      let made = c.in-Ok.made in
      let number : made.0 ≡ length s.objects = c.in-Ok.ensures.number ∙ sym (ap length objects ∙ length-map h.objects (mapped_object (content h.texts) (content_inner h.texts))) in
      let told = (c.in-Ok-call_script.ensures.told calls k program of f agrees).by t (stands, stood.1) in
      made_tells after stopped new.texts made (length s.objects) c.in-Ok-call_script.value c.or_made.result
      (call_script program calls c.args.unit c.args.number c.args.scope (ObjectAt (length s.objects)) (map (content h.texts) values) t) number (c.or_made.ensures.shows new.texts)
      (subst (λ vs. Tells after stopped new.texts (ShowsValue new.texts) (Ok c.in-Ok-call_script.value) (call_script program calls c.args.unit c.args.number c.args.scope (ObjectAt (length s.objects)) vs t))
      (values-widened h mid (Widens-Extends h mid extends) values c.requires.args)
      (subst (λ n. Tells after stopped new.texts (ShowsValue new.texts) (Ok c.in-Ok-call_script.value) (call_script program calls c.args.unit c.args.number c.args.scope (ObjectAt n) (map (content mid.texts) values) t)) number told));
}

pub returns-in-Ok-call_script-clause-value : goal.returns-in-Ok-call_script-clause-value
returns-in-Ok-call_script-clause-value g c =
    let mid : Heap = c.new_object_of.new.machine in
    let new : Heap = c.call_script.new.machine in
    let within : c.in-Ok.made.0 < length new.objects = omega (arith, c.in-Ok.ensures.number, c.in-Ok.ensures.more, Widens-objects mid new c.call_script.ensures.widens) in
    c.or_made.ensures.fits (sizes new) within c.in-Ok-call_script.ensures.value

pub returns-in-Ok-call_script-clause-widens : goal.returns-in-Ok-call_script-clause-widens
returns-in-Ok-call_script-clause-widens g c =
    Widens-trans c.args.machine.now c.new_object_of.new.machine c.call_script.new.machine (Widens-Extends c.args.machine.now c.new_object_of.new.machine c.new_object_of.ensures.extends) c.call_script.ensures.widens

pub returns-in-Err-call_script-clause-told : goal.returns-in-Err-call_script-clause-told
returns-in-Err-call_script-clause-told g c = λ calls k program of f agrees. record {
  by = λ s stood.
      let h : Heap = c.args.machine.now in
      let mid : Heap = c.new_object_of.new.machine in
      let new : Heap = c.call_script.new.machine in
      let caller = c.args.caller.now in
      let last = c.call_script.new.caller in
      let after = g.C.Runner.holds last k new in
      let stopped = g.C.Caller.stopped last k in
      let extends = c.new_object_of.ensures.extends in
      let values : List Value = c.args.args.now in
      let objects = g.met.C.Caller.objects_are caller k h s stood.0 in
      let t : State = with_object (new_from (get (Simple Undefined) prototype_name s.objects c.args.function.0)) s in
      let stands = subst (λ (u : State). g.C.Caller.stands caller k mid u) (made_state h mid c.args.function.0 s objects c.in-Ok.ensures.made) (g.met.C.Caller.stands_on caller k h mid s stood.0 extends) in
      let made = c.in-Ok.made in
      let number : made.0 ≡ length s.objects = c.in-Ok.ensures.number ∙ sym (ap length objects ∙ length-map h.objects (mapped_object (content h.texts) (content_inner h.texts))) in
      let told = (c.in-Err-call_script.ensures.told calls k program of f agrees).by t (stands, stood.1) in
      unmade_tells after stopped new.texts (length s.objects) c.in-Err-call_script.stop
      (call_script program calls c.args.unit c.args.number c.args.scope (ObjectAt (length s.objects)) (map (content h.texts) values) t)
      (subst (λ vs. Tells after stopped new.texts (ShowsValue new.texts) (Err c.in-Err-call_script.stop) (call_script program calls c.args.unit c.args.number c.args.scope (ObjectAt (length s.objects)) vs t))
      (values-widened h mid (Widens-Extends h mid extends) values c.requires.args)
      (subst (λ n. Tells after stopped new.texts (ShowsValue new.texts) (Err c.in-Err-call_script.stop) (call_script program calls c.args.unit c.args.number c.args.scope (ObjectAt n) (map (content mid.texts) values) t)) number told));
}

pub returns-in-Err-call_script-clause-widens : goal.returns-in-Err-call_script-clause-widens
returns-in-Err-call_script-clause-widens g c =
    Widens-trans c.args.machine.now c.new_object_of.new.machine c.call_script.new.machine (Widens-Extends c.args.machine.now c.new_object_of.new.machine c.new_object_of.ensures.extends) c.call_script.ensures.widens
