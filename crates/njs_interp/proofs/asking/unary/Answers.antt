use Rattle.std.proofs.Common.{◌≡◌, ◌∷◌, [], sym, ap, ◌∙◌, subst}
use Rattle.njs_clone.specs.Content.{content}
use Rattle.njs_code.specs.declared.op.Kind.TheVariants as kind
use Rattle.njs_code.specs.Effects.{depth_left}
use Rattle.njs_meaning.specs.Values.{PlainValue}
use Rattle.njs_meaning.specs.Running.{Calls}
use Rattle.njs_meaning.specs.Operations.{unary}
use Rattle.njs_convert.specs.Tells.{ShowsValue}
use Rattle.njs_simul.specs.Stacks as plain
use Rattle.njs_simul.specs.Stacks.{push}
use Rattle.njs_simul.specs.Step.{Goes, on, act}
use Rattle.njs_interp.specs.declared.stacks.Stacks.{Stacks}
use Rattle.njs_interp.specs.Plain.{plain_stacks}
use Rattle.njs_interp.specs.Acts.{Acts}
use Rattle.njs_interp.specs.Asked.{alone}
use Rattle.njs_interp.proofs.Kept.{Sits-widened, stacks-widened}
use Rattle.njs_interp.proofs.Further.{grown_widens}
use Rattle.njs_interp.proofs.AskedMoves.{unary_takes, unary_gives}
use Rattle.njs_interp.proofs.AskedFinish.{acts, below_same, unary_is, counts_up}
use Rattle.njs_interp.proofs.asking.unary.Goals as goal

pub take-value-requires-clause-takes : goal.take-value-requires-clause-takes
take-value-requires-clause-takes g c = unary_takes c.args.op c.args.at.now.op.now.kind c.requires.kind

pub finish-requires-clause-gives : goal.finish-requires-clause-gives
finish-requires-clause-gives g c = unary_gives c.args.op c.args.at.now.op.now.kind c.requires.kind

pub finish-requires-clause-sits : goal.finish-requires-clause-sits
finish-requires-clause-sits g c =
    Sits-widened c.args.machine.now c.unary-answer.new.machine (grown_widens c.args.machine.now c.unary-answer.new.machine c.unary-answer.ensures.grows) c.args.at.now.function.now.slots
    (depth_left c.args.at.now.op.now.kind c.args.at.now.op.now.depth) c.take-value.new.stacks c.take-value.ensures.sits

pub returns-clause-told : goal.returns-clause-told
returns-clause-told g c = λ known. record {
  by = λ calls frame code rest s f agrees same stands.
      let h = c.args.machine.now in
      let k = c.unary-answer.new.machine in
      let after = c.take-value.new.stacks in
      let v = c.take-value.result in
      let caller = c.unary-answer.new.caller in
      let holds = g.C.Runner.holds caller known k in
      let stopped = g.C.Caller.stopped caller known in
      let o = unary calls.call c.args.op (content h.texts v) s in
      let kept = stacks-widened h k (grown_widens h k c.unary-answer.ensures.grows) c.args.at.now.function.now.slots (depth_left c.args.at.now.op.now.kind c.args.at.now.op.now.depth) after c.take-value.ensures.sits in
      let is : act frame code (kind.Unary c.args.op) rest (plain_stacks h.texts c.args.stacks.now) s ≡ on o (plain_stacks k.texts after) (λ w t. Goes rest (push w (plain_stacks k.texts after)) t) =
      ap (λ (m : Stacks). act frame code (kind.Unary c.args.op) rest (plain_stacks h.texts m) s) c.take-value.ensures.is
      ∙ unary_is frame code rest c.args.op h.texts after v s
      ∙ ap (λ (m : Calls). on (unary m.call c.args.op (content h.texts v) s) (plain_stacks h.texts after) (λ w t. Goes rest (push w (plain_stacks h.texts after)) t)) same
      ∙ ap (λ (st : plain.Stacks). on o st (λ w t. Goes rest (push w st) t)) (sym kept)
      in
      subst (Acts holds stopped k.texts rest (plain_stacks k.texts c.finish.new.stacks) c.finish.result) (sym is)
      (acts (g.C.Caller.stands caller known k) holds stopped k.texts (ShowsValue k.texts) alone (λ (w : PlainValue). w ∷ []) (λ w x shown. ap (λ y. y ∷ []) shown) rest (g.met.C.Runner.holds_of caller known k) (g.met.C.Caller.stops caller known k)
      after c.finish.new.stacks (plain_stacks k.texts after) (below_same (plain_stacks k.texts after)) c.unary-answer.result c.finish.result o
      ((c.unary-answer.ensures.told calls known f agrees).by s stands) c.finish.ensures.finished);
}

pub returns-clause-widens : goal.returns-clause-widens
returns-clause-widens g c = grown_widens c.args.machine.now c.unary-answer.new.machine c.unary-answer.ensures.grows

pub returns-clause-steps : goal.returns-clause-steps
returns-clause-steps g c =
    counts_up (g.C.Caller.adds c.args.caller.now c.args.steps.now c.unary-answer.new.caller) c.args.steps.now c.unary-answer.new.steps c.unary-answer.result
    (λ n. g.met.C.Caller.adds_up c.args.caller.now c.unary-answer.new.caller c.args.steps.now n) c.unary-answer.ensures.steps
