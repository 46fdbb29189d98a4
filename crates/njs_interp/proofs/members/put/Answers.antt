use Rattle.std.proofs.Common.{[], ◌∷◌, sym, subst}
use Rattle.njs_clone.specs.Content.{content}
use Rattle.njs_code.specs.declared.op.Kind.TheVariants as kind
use Rattle.njs_meaning.specs.Members.{put_member}
use Rattle.njs_simul.specs.Step.{name_in, act}
use Rattle.njs_interp.specs.Acts.{OnHeap, Unanswered, Acts}
use Rattle.njs_interp.specs.Plain.{plain_stacks}
use Rattle.njs_interp.specs.Outcomes.{Moves}
use Rattle.njs_interp.proofs.Finishing.{took-told, took-leaves}
use Rattle.njs_interp.proofs.Kept.{Grown-Extends}
use Rattle.njs_interp.proofs.Moving.{put-moves}
use Rattle.njs_interp.proofs.members.put.Goals as goal

pub take_three-base-requires-clause-moves : goal.take_three-base-requires-clause-moves
take_three-base-requires-clause-moves g c = subst (λ k. Moves k 3 1) (sym c.requires.kind) put-moves

pub returns-clause-told : goal.returns-clause-told
returns-clause-told g c =
    let h = c.args.machine.now in
    let m = c.with_member-given.new.machine in
    let took = c.take_three-base in
    let st = took.new.stacks in
    let after = c.push_given.new.stacks in
    record {
      by = λ frame code rest s stands.
          subst (λ b. Acts (OnHeap m s) (Unanswered s) m.texts rest (plain_stacks m.texts after) c.push_given.result (act frame code kind.Put rest (plain_stacks h.texts b) s)) (sym took.ensures.is)
          (took-told c.args.at.now.function.now c.args.at.now.op.now h m c.args.stacks.now st after (took.result.2 ∷ took.result.1 ∷ took.result.0 ∷ []) rest s c.with_member-given.result c.push_given.result
          (put_member (name_in (content h.texts took.result.1)) (content h.texts took.result.0) (content h.texts took.result.2) s)
          took.ensures c.with_member-given.ensures.extends c.push_given.ensures (c.with_member-given.ensures.told.by s stands));
    }

pub returns-clause-leaves : goal.returns-clause-leaves
returns-clause-leaves g c =
    let h = c.args.machine.now in
    let m = c.with_member-given.new.machine in
    let took = c.take_three-base in
    took-leaves c.args.at.now.function.now c.args.at.now.op.now h m c.args.stacks.now took.new.stacks c.push_given.new.stacks (took.result.2 ∷ took.result.1 ∷ took.result.0 ∷ []) 3 c.with_member-given.result c.push_given.result
    (subst (λ k. Moves k 3 1) (sym c.requires.kind) put-moves) took.ensures c.with_member-given.ensures.extends c.with_member-given.ensures.fits c.push_given.ensures

pub returns-clause-grown : goal.returns-clause-grown
returns-clause-grown g c = Grown-Extends c.args.machine.now c.with_member-given.new.machine c.with_member-given.ensures.extends
