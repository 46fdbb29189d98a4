use Rattle.std.proofs.Common.{◌≡◌, [], ◌∷◌, refl, sym, subst}
use Rattle.njs_clone.specs.Content.{content}
use Rattle.njs_code.specs.declared.op.Kind.TheVariants as kind
use Rattle.njs_simul.specs.Step.{name_in, act}
use Rattle.njs_interp.specs.Acts.{OnHeap, Unanswered, Acts}
use Rattle.njs_interp.specs.Plain.{plain_stacks}
use Rattle.njs_interp.specs.Outcomes.{Moves, Pushes, read_member}
use Rattle.njs_interp.proofs.Finishing.{without, over-told, over-leaves}
use Rattle.njs_interp.proofs.Kept.{Grown-Extends}
use Rattle.njs_interp.proofs.Moving.{method-moves}
use Rattle.njs_interp.proofs.members.method.Goals as goal

pub show_two-base-requires-clause-takes : goal.show_two-base-requires-clause-takes
show_two-base-requires-clause-takes c = (subst (λ k. Moves k 2 2) (sym c.requires.kind) method-moves).operands_taken

pub returns-clause-told : goal.returns-clause-told
returns-clause-told c =
    let h = c.args.machine.now in
    let m = c.member_of-given.new.machine in
    let before = c.args.stacks.now in
    let shows = c.show_two-base.ensures in
    let base = c.show_two-base.result.0 in
    let name = c.show_two-base.result.1 in
    let after = c.push_given.new.stacks in
    let given = c.member_of-given.result in
    record {
      by = λ frame code rest s stands.
          subst (λ os. Acts (OnHeap m s) (Unanswered s) m.texts rest (plain_stacks m.texts after) c.push_given.result (act frame code kind.Method rest (plain_stacks h.texts (without before os)) s)) (sym shows.is)
          (over-told c.args.at.now.function.now c.args.at.now.op.now h m 2 2 (subst (λ k. Moves k 2 2) (sym c.requires.kind) method-moves) c.member_of-given.ensures.extends before (name ∷ base ∷ []) refl shows c.requires.ready.sits (base ∷ []) (shows.fits.1.0, tt)
          after rest s given c.push_given.result (read_member (name_in (content h.texts name)) (content h.texts base) s)
          (let popped : c.pop.new.self ≡ base ∷ shows.below = cc (c.pop.ensures, shows.is) in subst (λ os. Pushes given (without before os) after c.push_given.result) popped c.push_given.ensures) (c.member_of-given.ensures.told.by s stands));
    }

pub returns-clause-leaves : goal.returns-clause-leaves
returns-clause-leaves c =
    let h = c.args.machine.now in
    let m = c.member_of-given.new.machine in
    let before = c.args.stacks.now in
    let shows = c.show_two-base.ensures in
    let base = c.show_two-base.result.0 in
    let name = c.show_two-base.result.1 in
    let after = c.push_given.new.stacks in
    let given = c.member_of-given.result in
    over-leaves c.args.at.now.function.now c.args.at.now.op.now h m 2 2 (subst (λ k. Moves k 2 2) (sym c.requires.kind) method-moves) c.member_of-given.ensures.extends before (name ∷ base ∷ []) refl shows c.requires.ready.sits (base ∷ []) (shows.fits.1.0, tt)
    after given c.push_given.result refl c.member_of-given.ensures.fits c.member_of-given.ensures.memory (let popped : c.pop.new.self ≡ base ∷ shows.below = cc (c.pop.ensures, shows.is) in subst (λ os. Pushes given (without before os) after c.push_given.result) popped c.push_given.ensures)

pub returns-clause-grown : goal.returns-clause-grown
returns-clause-grown c = Grown-Extends c.args.machine.now c.member_of-given.new.machine c.member_of-given.ensures.extends
