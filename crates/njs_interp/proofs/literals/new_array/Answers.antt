use Rattle.std.proofs.Common.{sym, subst, []}
use Rattle.njs_value.specs.declared.Class.TheVariants as class
use Rattle.njs_meaning.specs.declared.prototypes.Prototype.TheVariants as prototype
use Rattle.njs_interp.specs.Outcomes.{Moves, made_object}
use Rattle.njs_interp.proofs.Finishing.{took-told, took-leaves, took-none}
use Rattle.njs_interp.proofs.Kept.{Grown-Extends}
use Rattle.njs_interp.proofs.Moving.{new_array-moves}
use Rattle.njs_interp.proofs.literals.new_array.Goals as goal

pub returns-clause-told : goal.returns-clause-told
returns-clause-told g c =
    let h = c.args.machine.now in
    let m = c.made_object-given.new.machine in
    let st = c.args.stacks.now in
    let f = c.args.at.now.function.now in
    let op = c.args.at.now.op.now in
    record {
      by = λ frame code rest s stands.
          took-told f op h m st st c.push_given.new.stacks [] rest s c.made_object-given.result c.push_given.result (made_object class.Array prototype.Array s)
          (took-none f op h st 1 (subst (λ k. Moves k 0 1) (sym c.requires.kind) new_array-moves) c.requires.ready.sits)
          c.made_object-given.ensures.extends c.push_given.ensures (c.made_object-given.ensures.told.by s stands);
    }

pub returns-clause-leaves : goal.returns-clause-leaves
returns-clause-leaves g c =
    let h = c.args.machine.now in
    let m = c.made_object-given.new.machine in
    let st = c.args.stacks.now in
    let f = c.args.at.now.function.now in
    let op = c.args.at.now.op.now in
    let moves = subst (λ k. Moves k 0 1) (sym c.requires.kind) new_array-moves in
    took-leaves f op h m st st c.push_given.new.stacks [] 0 c.made_object-given.result c.push_given.result moves
    (took-none f op h st 1 moves c.requires.ready.sits) c.made_object-given.ensures.extends c.made_object-given.ensures.fits c.push_given.ensures

pub returns-clause-grown : goal.returns-clause-grown
returns-clause-grown g c = Grown-Extends c.args.machine.now c.made_object-given.new.machine c.made_object-given.ensures.extends
