use Rattle.std.proofs.Common.{◌≡◌, ap, sym, ◌∙◌, subst, length, map}
use Rattle.std.proofs.lemmas.List.{length-map}
use Rattle.njs_clone.specs.Content.{content}
use Rattle.njs_code.specs.declared.op.Kind.TheVariants as kind
use Rattle.njs_simul.specs.Step.{act, finish}
use Rattle.njs_interp.specs.Plain.{plain_stacks}
use Rattle.njs_interp.specs.Acts.{Acts}
use Rattle.njs_interp.specs.Outcomes.{Moves}
use Rattle.njs_interp.specs.Held.{paid_arguments}
use Rattle.njs_interp.proofs.Kept.{stacks-widened, Widens-Extends}
use Rattle.njs_interp.proofs.ClosureScopes.{arguments-moves, given-leaves}
use Rattle.njs_interp.proofs.HeldTells.{finish-held, arguments_is}
use Rattle.njs_interp.proofs.making.call_arguments.Goals as goal

pub returns-clause-told : goal.returns-clause-told
returns-clause-told g c = λ known. record {
  by = λ calls frame code rest s f agrees same is stands.
      let at = c.args.at.now in
      let h = c.args.machine.now in
      let k = c.arguments_value-given.new.machine in
      let st = c.args.stacks.now in
      let args = c.args.call.now.args.now in
      let caller = c.arguments_value-given.new.caller in
      let holds = g.C.Runner.holds caller known k in
      let stopped = g.C.Caller.stopped caller known in
      let o = paid_arguments (length args) (map (content h.texts) args) s in
      let does : act frame code kind.Arguments rest (plain_stacks h.texts st) s ≡ finish rest (plain_stacks h.texts st) o =
      arguments_is frame code rest (plain_stacks h.texts st) s
      ∙ ap (λ vs. finish rest (plain_stacks h.texts st) (paid_arguments (length vs) vs s)) is.args_are
      ∙ ap (λ n. finish rest (plain_stacks h.texts st) (paid_arguments n (map (content h.texts) args) s)) (length-map args (content h.texts))
      in
      subst (Acts holds stopped k.texts rest (plain_stacks k.texts c.push_given.new.stacks) c.push_given.result) (sym does)
      (finish-held holds stopped k.texts rest (plain_stacks h.texts st) st c.push_given.new.stacks
      (stacks-widened h k (Widens-Extends h k c.arguments_value-given.ensures.extends) at.function.now.slots at.op.now.depth st c.requires.ready.sits)
      c.arguments_value-given.result c.push_given.result o c.push_given.ensures ((c.arguments_value-given.ensures.told known).by s stands));
}

pub returns-clause-leaves : goal.returns-clause-leaves
returns-clause-leaves g c =
    let at = c.args.at.now in
    let h = c.args.machine.now in
    let k = c.arguments_value-given.new.machine in
    given-leaves at.function.now at.op.now h k c.args.stacks.now c.push_given.new.stacks c.arguments_value-given.result c.push_given.result
    (subst (λ k. Moves k 0 1) (sym c.requires.kind) arguments-moves) (Widens-Extends h k c.arguments_value-given.ensures.extends) c.requires.ready.sits c.arguments_value-given.ensures.value c.push_given.ensures

pub returns-clause-widens : goal.returns-clause-widens
returns-clause-widens g c = Widens-Extends c.args.machine.now c.arguments_value-given.new.machine c.arguments_value-given.ensures.extends
