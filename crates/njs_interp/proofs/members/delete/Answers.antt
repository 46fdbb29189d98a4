use Rattle.std.proofs.Common.{[], ◌∷◌, sym, subst}
use Rattle.njs_clone.specs.Content.{content}
use Rattle.njs_code.specs.declared.op.Kind.TheVariants as kind
use Rattle.njs_meaning.specs.Members.{delete_member}
use Rattle.njs_simul.specs.Step.{name_in, act}
use Rattle.njs_interp.specs.Acts.{OnHeap, Unanswered, Acts}
use Rattle.njs_interp.specs.Plain.{plain_stacks}
use Rattle.njs_interp.specs.Outcomes.{Moves}
use Rattle.njs_interp.proofs.Finishing.{took-told, took-leaves}
use Rattle.njs_interp.proofs.Kept.{Grown-Extends}
use Rattle.njs_interp.proofs.Moving.{delete-moves}
use Rattle.njs_interp.proofs.members.delete.Goals as goal

pub take_two-base-requires-clause-moves : goal.take_two-base-requires-clause-moves
take_two-base-requires-clause-moves g c = subst (λ k. Moves k 2 1) (sym c.requires.kind) delete-moves

pub returns-clause-told : goal.returns-clause-told
returns-clause-told g c =
    let h = c.args.machine.now in
    let m = c.without_member-given.new.machine in
    let took = c.take_two-base in
    let st = took.new.stacks in
    let after = c.push_given.new.stacks in
    record {
      by = λ frame code rest s stands.
          subst (λ b. Acts (OnHeap m s) (Unanswered s) m.texts rest (plain_stacks m.texts after) c.push_given.result (act frame code kind.DeleteMember rest (plain_stacks h.texts b) s)) (sym took.ensures.is)
          (took-told c.args.at.now.function.now c.args.at.now.op.now h m c.args.stacks.now st after (took.result.1 ∷ took.result.0 ∷ []) rest s c.without_member-given.result c.push_given.result
          (delete_member (name_in (content h.texts took.result.1)) (content h.texts took.result.0) s)
          took.ensures c.without_member-given.ensures.extends c.push_given.ensures (c.without_member-given.ensures.told.by s stands));
    }

pub returns-clause-leaves : goal.returns-clause-leaves
returns-clause-leaves g c =
    let h = c.args.machine.now in
    let m = c.without_member-given.new.machine in
    let took = c.take_two-base in
    took-leaves c.args.at.now.function.now c.args.at.now.op.now h m c.args.stacks.now took.new.stacks c.push_given.new.stacks (took.result.1 ∷ took.result.0 ∷ []) 2 c.without_member-given.result c.push_given.result
    (subst (λ k. Moves k 2 1) (sym c.requires.kind) delete-moves) took.ensures c.without_member-given.ensures.extends c.without_member-given.ensures.fits c.push_given.ensures

pub returns-clause-grown : goal.returns-clause-grown
returns-clause-grown g c = Grown-Extends c.args.machine.now c.without_member-given.new.machine c.without_member-given.ensures.extends
