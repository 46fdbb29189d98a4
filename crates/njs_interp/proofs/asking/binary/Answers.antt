use Rattle.std.proofs.Common.{◌≡◌, ◌∷◌, [], sym, ap, ◌∙◌, subst}
use Rattle.njs_clone.specs.Content.{content}
use Rattle.njs_code.specs.declared.op.Kind.TheVariants as kind
use Rattle.njs_code.specs.Effects.{depth_left}
use Rattle.njs_meaning.specs.Values.{PlainValue}
use Rattle.njs_meaning.specs.Running.{Calls}
use Rattle.njs_meaning.specs.Operations.{binary}
use Rattle.njs_convert.specs.Tells.{ShowsValue}
use Rattle.njs_simul.specs.Stacks as plain
use Rattle.njs_simul.specs.Stacks.{push}
use Rattle.njs_simul.specs.Step.{Goes, on, act}
use Rattle.njs_interp.specs.declared.stacks.Stacks.{Stacks}
use Rattle.njs_interp.specs.Plain.{plain_stacks}
use Rattle.njs_interp.specs.Acts.{Acts}
use Rattle.njs_interp.specs.Asked.{alone}
use Rattle.njs_interp.proofs.Kept.{Sits-widened, stacks-widened}
use Rattle.njs_interp.proofs.Further.{grown_widens}
use Rattle.njs_interp.proofs.AskedMoves.{binary_takes, binary_gives}
use Rattle.njs_interp.proofs.AskedFinish.{acts, below_same, binary_is, counts_up}
use Rattle.njs_interp.proofs.asking.binary.Goals as goal

pub take_two-left-requires-clause-takes : goal.take_two-left-requires-clause-takes
take_two-left-requires-clause-takes g c = binary_takes c.args.op c.args.at.now.op.now.kind c.requires.kind

pub finish-requires-clause-gives : goal.finish-requires-clause-gives
finish-requires-clause-gives g c = binary_gives c.args.op c.args.at.now.op.now.kind c.requires.kind

pub finish-requires-clause-sits : goal.finish-requires-clause-sits
finish-requires-clause-sits g c =
    Sits-widened c.args.machine.now c.binary-answer.new.machine (grown_widens c.args.machine.now c.binary-answer.new.machine c.binary-answer.ensures.grows) c.args.at.now.function.now.slots
    (depth_left c.args.at.now.op.now.kind c.args.at.now.op.now.depth) c.take_two-left.new.stacks c.take_two-left.ensures.sits

pub returns-clause-told : goal.returns-clause-told
returns-clause-told g c = λ known. record {
  by = λ calls frame code rest s f agrees same stands.
      let h = c.args.machine.now in
      let k = c.binary-answer.new.machine in
      let after = c.take_two-left.new.stacks in
      let a = c.take_two-left.result.0 in
      let b = c.take_two-left.result.1 in
      let caller = c.binary-answer.new.caller in
      let holds = g.C.Runner.holds caller known k in
      let stopped = g.C.Caller.stopped caller known in
      let o = binary calls.call c.args.op (content h.texts a) (content h.texts b) s in
      let kept = stacks-widened h k (grown_widens h k c.binary-answer.ensures.grows) c.args.at.now.function.now.slots (depth_left c.args.at.now.op.now.kind c.args.at.now.op.now.depth) after c.take_two-left.ensures.sits in
      let is : act frame code (kind.Binary c.args.op) rest (plain_stacks h.texts c.args.stacks.now) s ≡ on o (plain_stacks k.texts after) (λ v t. Goes rest (push v (plain_stacks k.texts after)) t) =
      ap (λ (m : Stacks). act frame code (kind.Binary c.args.op) rest (plain_stacks h.texts m) s) c.take_two-left.ensures.is
      ∙ binary_is frame code rest c.args.op h.texts after a b s
      ∙ ap (λ (m : Calls). on (binary m.call c.args.op (content h.texts a) (content h.texts b) s) (plain_stacks h.texts after) (λ v t. Goes rest (push v (plain_stacks h.texts after)) t)) same
      ∙ ap (λ (st : plain.Stacks). on o st (λ v t. Goes rest (push v st) t)) (sym kept)
      in
      subst (Acts holds stopped k.texts rest (plain_stacks k.texts c.finish.new.stacks) c.finish.result) (sym is)
      (acts (g.C.Caller.stands caller known k) holds stopped k.texts (ShowsValue k.texts) alone (λ (w : PlainValue). w ∷ []) (λ w x shown. ap (λ y. y ∷ []) shown) rest (g.met.C.Runner.holds_of caller known k) (g.met.C.Caller.stops caller known k)
      after c.finish.new.stacks (plain_stacks k.texts after) (below_same (plain_stacks k.texts after)) c.binary-answer.result c.finish.result o
      ((c.binary-answer.ensures.told calls known f agrees).by s stands) c.finish.ensures.finished);
}

pub returns-clause-widens : goal.returns-clause-widens
returns-clause-widens g c = grown_widens c.args.machine.now c.binary-answer.new.machine c.binary-answer.ensures.grows

pub returns-clause-steps : goal.returns-clause-steps
returns-clause-steps g c =
    counts_up (g.C.Caller.adds c.args.caller.now c.args.steps.now c.binary-answer.new.caller) c.args.steps.now c.binary-answer.new.steps c.binary-answer.result
    (λ n. g.met.C.Caller.adds_up c.args.caller.now c.binary-answer.new.caller c.args.steps.now n) c.binary-answer.ensures.steps
