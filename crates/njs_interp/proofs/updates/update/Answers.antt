use Rattle.std.proofs.Common.{[], ◌∷◌, sym, subst}
use Rattle.njs_clone.specs.Content.{content}
use Rattle.njs_code.specs.declared.op.Kind.TheVariants as kind
use Rattle.njs_simul.specs.Step.{act, stepped_from}
use Rattle.njs_interp.specs.Acts.{OnHeap, Unanswered, Acts}
use Rattle.njs_interp.specs.Plain.{plain_stacks}
use Rattle.njs_interp.specs.Outcomes.{Moves}
use Rattle.njs_interp.proofs.Finishing.{took-told, took-leaves}
use Rattle.njs_interp.proofs.Kept.{Grown-Extends}
use Rattle.njs_interp.proofs.Stepped.{step-moves}
use Rattle.njs_interp.proofs.updates.update.Goals as goal

pub take_one-value-requires-clause-moves : goal.take_one-value-requires-clause-moves
take_one-value-requires-clause-moves g c = subst (λ k. Moves k 1 1) (sym c.requires.kind) (step-moves c.args.op)

pub returns-clause-told : goal.returns-clause-told
returns-clause-told g c =
    let h = c.args.machine.now in
    let m = c.stepped_from-given.new.machine in
    let took = c.take_one-value in
    let st = took.new.stacks in
    let after = c.push_given.new.stacks in
    record {
      by = λ frame code rest s stands.
          subst (λ b. Acts (OnHeap m s) (Unanswered s) m.texts rest (plain_stacks m.texts after) c.push_given.result (act frame code (kind.Step c.args.op) rest (plain_stacks h.texts b) s)) (sym took.ensures.is)
          (took-told c.args.at.now.function.now c.args.at.now.op.now h m c.args.stacks.now st after (took.result ∷ []) rest s c.stepped_from-given.result c.push_given.result
          (stepped_from c.args.op (content h.texts took.result) s)
          took.ensures c.stepped_from-given.ensures.extends c.push_given.ensures (c.stepped_from-given.ensures.told.by s stands));
    }

pub returns-clause-leaves : goal.returns-clause-leaves
returns-clause-leaves g c =
    let h = c.args.machine.now in
    let m = c.stepped_from-given.new.machine in
    let took = c.take_one-value in
    took-leaves c.args.at.now.function.now c.args.at.now.op.now h m c.args.stacks.now took.new.stacks c.push_given.new.stacks (took.result ∷ []) 1 c.stepped_from-given.result c.push_given.result
    (subst (λ k. Moves k 1 1) (sym c.requires.kind) (step-moves c.args.op)) took.ensures c.stepped_from-given.ensures.extends c.stepped_from-given.ensures.value c.push_given.ensures

pub returns-clause-grown : goal.returns-clause-grown
returns-clause-grown g c = Grown-Extends c.args.machine.now c.stepped_from-given.new.machine c.stepped_from-given.ensures.extends
