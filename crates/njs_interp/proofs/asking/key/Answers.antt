use Rattle.std.proofs.Common.{◌≡◌, ◌∷◌, ◌++◌, [], sym, ap, ◌∙◌, subst}
use Rattle.njs_clone.specs.Content.{content}
use Rattle.njs_code.specs.declared.op.Kind.TheVariants as kind
use Rattle.njs_code.specs.Effects.{depth_left}
use Rattle.njs_meaning.specs.Meaning.{member_by}
use Rattle.njs_simul.specs.Stacks as plain
use Rattle.njs_simul.specs.Stacks.{with_operands, context}
use Rattle.njs_simul.specs.Step.{Goes, on, act, operands_of}
use Rattle.njs_interp.specs.declared.stacks.Stacks.{Stacks}
use Rattle.njs_interp.specs.Plain.{plain_stacks}
use Rattle.njs_interp.specs.Acts.{Acts}
use Rattle.njs_interp.specs.Asked.{with_name, ShowsMember}
use Rattle.njs_interp.proofs.Kept.{Sits-widened, stacks-widened, FitsValue-widened}
use Rattle.njs_interp.proofs.Further.{grown_widens}
use Rattle.njs_interp.proofs.AskedMoves.{key_takes, key_gives}
use Rattle.njs_interp.proofs.AskedFinish.{with_taken, acts, below_two, key_is, counts_up}
use Rattle.njs_interp.proofs.asking.key.Goals as goal

pub take_two-base-requires-clause-takes : goal.take_two-base-requires-clause-takes
take_two-base-requires-clause-takes g c = key_takes c.args.at.now.op.now.kind c.requires.kind

pub finish_member-requires-clause-gives : goal.finish_member-requires-clause-gives
finish_member-requires-clause-gives g c = key_gives c.args.at.now.op.now.kind c.requires.kind

pub finish_member-requires-clause-sits : goal.finish_member-requires-clause-sits
finish_member-requires-clause-sits g c =
    Sits-widened c.args.machine.now c.member_by-answer.new.machine (grown_widens c.args.machine.now c.member_by-answer.new.machine c.member_by-answer.ensures.grows) c.args.at.now.function.now.slots
    (depth_left c.args.at.now.op.now.kind c.args.at.now.op.now.depth) c.take_two-base.new.stacks c.take_two-base.ensures.sits

pub finish_member-requires-clause-base : goal.finish_member-requires-clause-base
finish_member-requires-clause-base g c =
    FitsValue-widened c.args.machine.now c.member_by-answer.new.machine (grown_widens c.args.machine.now c.member_by-answer.new.machine c.member_by-answer.ensures.grows) c.take_two-base.result.0 c.take_two-base.ensures.fits.1.0

pub returns-clause-told : goal.returns-clause-told
returns-clause-told g c = λ known. record {
  by = λ calls frame code rest s f agrees same stands.
      let h = c.args.machine.now in
      let k = c.member_by-answer.new.machine in
      let after = c.take_two-base.new.stacks in
      let base = c.take_two-base.result.0 in
      let key = c.take_two-base.result.1 in
      let caller = c.member_by-answer.new.caller in
      let holds = g.C.Runner.holds caller known k in
      let stopped = g.C.Caller.stopped caller known in
      let x = context frame (plain_stacks h.texts after) in
      let o = member_by (content h.texts base) (content h.texts key) x s in
      let kept = stacks-widened h k (grown_widens h k c.member_by-answer.ensures.grows) c.args.at.now.function.now.slots (depth_left c.args.at.now.op.now.kind c.args.at.now.op.now.depth) after c.take_two-base.ensures.sits in
      let st : plain.Stacks = with_taken h.texts after (key ∷ base ∷ []) in
      let is : act frame code kind.Key rest (plain_stacks h.texts c.args.stacks.now) s ≡ on o st (λ r t. Goes rest (with_operands (plain_stacks k.texts after) (operands_of r ++ (plain_stacks k.texts after).operands)) t) =
      ap (λ (m : Stacks). act frame code kind.Key rest (plain_stacks h.texts m) s) c.take_two-base.ensures.is
      ∙ key_is frame code rest h.texts after base key s
      ∙ ap (λ (left : plain.Stacks). on o st (λ r t. Goes rest (with_operands left (operands_of r ++ left.operands)) t)) (sym kept)
      in
      subst (Acts holds stopped k.texts rest (plain_stacks k.texts c.finish_member.new.stacks) c.finish_member.result) (sym is)
      (acts (g.C.Caller.stands caller known k) holds stopped k.texts (ShowsMember k.texts base) (with_name base) operands_of (λ name r shown. sym (ap operands_of shown)) rest (g.met.C.Runner.holds_of caller known k) (g.met.C.Caller.stops caller known k)
      after c.finish_member.new.stacks st (below_two h.texts after key base (plain_stacks k.texts after) kept) c.member_by-answer.result c.finish_member.result o
      ((c.member_by-answer.ensures.told calls known x f agrees same).by s stands)
      c.finish_member.ensures.finished);
}

pub returns-clause-widens : goal.returns-clause-widens
returns-clause-widens g c = grown_widens c.args.machine.now c.member_by-answer.new.machine c.member_by-answer.ensures.grows

pub returns-clause-steps : goal.returns-clause-steps
returns-clause-steps g c =
    counts_up (g.C.Caller.adds c.args.caller.now c.args.steps.now c.member_by-answer.new.caller) c.args.steps.now c.member_by-answer.new.steps c.member_by-answer.result
    (λ n. g.met.C.Caller.adds_up c.args.caller.now c.member_by-answer.new.caller c.args.steps.now n) c.member_by-answer.ensures.steps
