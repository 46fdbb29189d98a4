use Rattle.std.proofs.Common.{◌≡◌, [], ◌∷◌, ◌++◌, map, reverse, sym, ap, ◌∙◌, subst}
use Rattle.njs_shared.specs.Heap.{sizes}
use Rattle.njs_shared.specs.Fits.{FitsValue}
use Rattle.njs_clone.specs.Content.{content}
use Rattle.njs_code.specs.declared.op.Kind.TheVariants as kind
use Rattle.njs_code.specs.Effects.{depth_left}
use Rattle.njs_meaning.specs.Values.{PlainValue}
use Rattle.njs_meaning.specs.Running.{Calls}
use Rattle.njs_meaning.specs.Replies.{state_of}
use Rattle.njs_convert.specs.Tells.{ShowsValue}
use Rattle.njs_simul.specs.Stacks as plain
use Rattle.njs_simul.specs.Step.{act}
use Rattle.njs_interp.specs.declared.stacks.Stacks.{Stacks}
use Rattle.njs_interp.specs.Plain.{plain_stacks}
use Rattle.njs_interp.specs.Acts.{Acts}
use Rattle.njs_interp.specs.Asked.{alone}
use Rattle.njs_interp.proofs.Kept.{Sits-widened, stacks-widened}
use Rattle.njs_interp.proofs.Further.{grown_widens}
use Rattle.njs_interp.proofs.AskedFinish.{acts, below_same, with_taken}
use Rattle.njs_interp.proofs.CallOperands.{call_gives, others-all, pushes, call_is, call_stopped}
use Rattle.njs_interp.proofs.calling.call.Goals as goal

pub returns-in-Err-clause-told : goal.returns-in-Err-clause-told
returns-in-Err-clause-told g c = λ known. record {
  by = λ calls frame code rest s f agrees same stands.
      let caller = c.args.caller.now in
      let stopped = g.C.Caller.stopped caller known in
      call_stopped stopped frame code rest c.args.count (plain_stacks c.args.machine.now.texts c.args.stacks.now) s
      (λ fn this args. subst (λ (m : Calls). stopped (state_of (m.call fn this args s))) (sym same) (g.met.C.Caller.stopped_calls caller known calls f fn this args s (g.met.C.Caller.stops caller known c.args.machine.now s stands)));
}

pub call-answer-requires-clause-callee : goal.call-answer-requires-clause-callee
call-answer-requires-clause-callee g c = (others-all (FitsValue (sizes c.args.machine.now)) c.in-Ok.taken.0.items (c.in-Ok.taken.1 ∷ c.in-Ok.taken.2 ∷ []) c.in-Ok.ensures.taken.fits).0

pub call-answer-requires-clause-this : goal.call-answer-requires-clause-this
call-answer-requires-clause-this g c = (others-all (FitsValue (sizes c.args.machine.now)) c.in-Ok.taken.0.items (c.in-Ok.taken.1 ∷ c.in-Ok.taken.2 ∷ []) c.in-Ok.ensures.taken.fits).1.0

pub finish-requires-clause-gives : goal.finish-requires-clause-gives
finish-requires-clause-gives g c = call_gives c.args.count c.args.at.now.op.now.kind c.requires.kind

pub finish-requires-clause-sits : goal.finish-requires-clause-sits
finish-requires-clause-sits g c =
    let h = c.args.machine.now in
    let k = c.call-answer.new.machine in
    Sits-widened h k (grown_widens h k c.call-answer.ensures.grows) c.args.at.now.function.now.slots (depth_left c.args.at.now.op.now.kind c.args.at.now.op.now.depth) c.take_call.new.stacks c.in-Ok.ensures.taken.sits

pub returns-clause-told : goal.returns-clause-told
returns-clause-told g c = λ known. record {
  by = λ calls frame code rest s f agrees same stands.
      let h = c.args.machine.now in
      let k = c.call-answer.new.machine in
      let after = c.take_call.new.stacks in
      let args = c.in-Ok.taken.0.items in
      let callee = c.in-Ok.taken.1 in
      let this = c.in-Ok.taken.2 in
      let caller = c.call-answer.new.self in
      let holds = g.C.Runner.holds caller known k in
      let stopped = g.C.Caller.stopped caller known in
      let sliced = c.as_slice.result.now in
      let o = calls.call (content h.texts callee) (content h.texts this) (map (content h.texts) sliced) s in
      let kept = stacks-widened h k (grown_widens h k c.call-answer.ensures.grows) c.args.at.now.function.now.slots (depth_left c.args.at.now.op.now.kind c.args.at.now.op.now.depth) after c.in-Ok.ensures.taken.sits in
      let is : act frame code (kind.Call c.args.count) rest (plain_stacks h.texts c.args.stacks.now) s ≡ pushes (plain_stacks k.texts after) rest o =
      ap (λ (m : Stacks). act frame code (kind.Call c.args.count) rest (plain_stacks h.texts m) s) c.in-Ok.ensures.taken.is
      ∙ ap (λ n. act frame code (kind.Call n) rest (with_taken h.texts after (reverse args ++ (callee ∷ this ∷ []))) s) (sym c.in-Ok.ensures.count)
      ∙ call_is frame code rest h.texts after args callee this s
      ∙ ap (λ (m : Calls). pushes (plain_stacks h.texts after) rest (m.call (content h.texts callee) (content h.texts this) (map (content h.texts) args) s)) same
      ∙ ap (λ vs. pushes (plain_stacks h.texts after) rest (calls.call (content h.texts callee) (content h.texts this) (map (content h.texts) vs) s)) (sym c.as_slice.ensures.value)
      ∙ ap (λ (st : plain.Stacks). pushes st rest o) (sym kept)
      in
      subst (Acts holds stopped k.texts rest (plain_stacks k.texts c.finish.new.stacks) c.finish.result) (sym is)
      (acts (g.C.Caller.stands caller known k) holds stopped k.texts (ShowsValue k.texts) alone (λ (w : PlainValue). w ∷ []) (λ w x shown. ap (λ y. y ∷ []) shown) rest (g.met.C.Runner.holds_of caller known k) (g.met.C.Caller.stops caller known k)
      after c.finish.new.stacks (plain_stacks k.texts after) (below_same (plain_stacks k.texts after)) c.call-answer.result c.finish.result o
      ((c.call-answer.ensures.told calls known f agrees).by s stands) c.finish.ensures.finished);
}

pub returns-clause-widens : goal.returns-clause-widens
returns-clause-widens g c = grown_widens c.args.machine.now c.call-answer.new.machine c.call-answer.ensures.grows
