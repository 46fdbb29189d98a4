use Rattle.std.proofs.Common.{◌≡◌, ℤ, ◌∷◌, [], sym, ap, ◌∙◌, subst}
use Rattle.njs_value.specs.declared.Value.{Value}
use Rattle.njs_shared.specs.Heap.{sizes}
use Rattle.njs_shared.specs.Fits.{FitsValue}
use Rattle.njs_meaning.specs.Primitives.{Number}
use Rattle.njs_clone.specs.Content.{content}
use Rattle.njs_code.specs.declared.op.Kind.TheVariants as kind
use Rattle.njs_code.specs.Effects.{depth_left}
use Rattle.njs_meaning.specs.Values.{Simple}
use Rattle.njs_meaning.specs.Running.{Calls}
use Rattle.njs_meaning.specs.Conversions.{to_number}
use Rattle.njs_convert.specs.Tells.{Tells, FitsAnswer}
use Rattle.njs_simul.specs.Stacks as plain
use Rattle.njs_simul.specs.Stacks.{push}
use Rattle.njs_simul.specs.Step.{Goes, on, act}
use Rattle.njs_interp.specs.declared.stacks.Stacks.{Stacks}
use Rattle.njs_interp.specs.Plain.{plain_stacks}
use Rattle.njs_interp.specs.Acts.{Acts}
use Rattle.njs_interp.specs.Asked.{alone}
use Rattle.njs_interp.proofs.Kept.{Sits-widened, stacks-widened}
use Rattle.njs_interp.proofs.Further.{grown_widens}
use Rattle.njs_interp.proofs.AskedMoves.{to_number_takes, to_number_gives}
use Rattle.njs_interp.proofs.AskedFinish.{with_taken, acts, below_one, to_number_is, number_tells, number_fits, counts_up}
use Rattle.njs_interp.proofs.asking.to_number.Goals as goal

pub take-value-requires-clause-takes : goal.take-value-requires-clause-takes
take-value-requires-clause-takes g c = to_number_takes c.args.at.now.op.now.kind c.requires.kind

pub finish-requires-clause-gives : goal.finish-requires-clause-gives
finish-requires-clause-gives g c = to_number_gives c.args.at.now.op.now.kind c.requires.kind

pub finish-requires-clause-sits : goal.finish-requires-clause-sits
finish-requires-clause-sits g c =
    Sits-widened c.args.machine.now c.to_number.new.machine (grown_widens c.args.machine.now c.to_number.new.machine c.to_number.ensures.grows) c.args.at.now.function.now.slots
    (depth_left c.args.at.now.op.now.kind c.args.at.now.op.now.depth) c.take-value.new.stacks c.take-value.ensures.sits

pub finish-requires-clause-fits : goal.finish-requires-clause-fits
finish-requires-clause-fits g c =
    subst (FitsAnswer (FitsValue (sizes c.to_number.new.machine)) (sizes c.to_number.new.machine)) (sym c.number_value-answer.ensures) (number_fits (sizes c.to_number.new.machine) c.to_number.result c.to_number.ensures.value)

pub returns-clause-told : goal.returns-clause-told
returns-clause-told g c = λ known. record {
  by = λ calls frame code rest s f agrees same stands.
      let h = c.args.machine.now in
      let k = c.to_number.new.machine in
      let after = c.take-value.new.stacks in
      let v = c.take-value.result in
      let caller = c.to_number.new.caller in
      let holds = g.C.Runner.holds caller known k in
      let stopped = g.C.Caller.stopped caller known in
      let o = to_number calls.call (content h.texts v) s in
      let kept = stacks-widened h k (grown_widens h k c.to_number.ensures.grows) c.args.at.now.function.now.slots (depth_left c.args.at.now.op.now.kind c.args.at.now.op.now.depth) after c.take-value.ensures.sits in
      let st : plain.Stacks = with_taken h.texts after (v ∷ []) in
      let is : act frame code kind.ToNumber rest (plain_stacks h.texts c.args.stacks.now) s ≡ on o st (λ n t. Goes rest (push (Simple (Number n)) (plain_stacks k.texts after)) t) =
      ap (λ (m : Stacks). act frame code kind.ToNumber rest (plain_stacks h.texts m) s) c.take-value.ensures.is
      ∙ to_number_is frame code rest h.texts after v s
      ∙ ap (λ (m : Calls). on (to_number m.call (content h.texts v) s) st (λ n t. Goes rest (push (Simple (Number n)) (plain_stacks h.texts after)) t)) same
      ∙ ap (λ (below : plain.Stacks). on o st (λ n t. Goes rest (push (Simple (Number n)) below) t)) (sym kept)
      in
      let shows : Value → ℤ → Type 0 = λ w n. content k.texts w ≡ Simple (Number n) in
      subst (Acts holds stopped k.texts rest (plain_stacks k.texts c.finish.new.stacks) c.finish.result) (sym is)
      (acts (g.C.Caller.stands caller known k) holds stopped k.texts shows alone (λ (n : ℤ). Simple (Number n) ∷ []) (λ w n shown. ap (λ y. y ∷ []) shown) rest (g.met.C.Runner.holds_of caller known k) (g.met.C.Caller.stops caller known k)
      after c.finish.new.stacks st (below_one h.texts after v (plain_stacks k.texts after) kept) c.number_value-answer.result c.finish.result o
      (subst (λ r. Tells (g.C.Caller.stands caller known k) stopped k.texts shows r o) (sym c.number_value-answer.ensures)
      (number_tells (g.C.Caller.stands caller known k) stopped k.texts c.to_number.result o ((c.to_number.ensures.told calls known f agrees).by s stands)))
      c.finish.ensures.finished);
}

pub returns-clause-widens : goal.returns-clause-widens
returns-clause-widens g c = grown_widens c.args.machine.now c.to_number.new.machine c.to_number.ensures.grows

pub returns-clause-steps : goal.returns-clause-steps
returns-clause-steps g c =
    counts_up (g.C.Caller.adds c.args.caller.now c.args.steps.now c.to_number.new.caller) c.args.steps.now c.to_number.new.steps c.to_number.result
    (λ n. g.met.C.Caller.adds_up c.args.caller.now c.to_number.new.caller c.args.steps.now n) c.to_number.ensures.steps
