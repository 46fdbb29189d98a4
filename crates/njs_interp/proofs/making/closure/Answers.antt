use Rattle.std.proofs.Common.{◌≡◌, ap, sym, ◌∙◌, subst}
use Rattle.njs_code.specs.declared.op.Kind.TheVariants as kind
use Rattle.njs_simul.specs.Stacks.{inner}
use Rattle.njs_simul.specs.Step.{act, finish}
use Rattle.njs_interp.specs.Plain.{plain_stacks, number_of}
use Rattle.njs_interp.specs.Acts.{Acts}
use Rattle.njs_interp.specs.Outcomes.{Moves}
use Rattle.njs_interp.specs.Closures.{made_closure}
use Rattle.std.proofs.Common.{map}
use Rattle.njs_interp.proofs.Kept.{stacks-widened}
use Rattle.njs_interp.proofs.Reached.{ready-scope}
use Rattle.njs_interp.proofs.ClosureScopes.{closure-counted, closure_is, closure-moves, given-leaves}
use Rattle.njs_interp.proofs.HeldTells.{finish-held}
use Rattle.njs_interp.proofs.making.closure.Goals as goal

pub closure_value-given-requires-clause-scope : goal.closure_value-given-requires-clause-scope
closure_value-given-requires-clause-scope g c =
    let at = c.args.at.now in
    ready-scope at.functions.now at.function.now at.op.now c.args.machine.now c.args.stacks.now c.requires.ready c.top.result c.top.ensures.0 c.top.ensures.1

pub closure_value-given-requires-clause-counts : goal.closure_value-given-requires-clause-counts
closure_value-given-requires-clause-counts g c =
    let at = c.args.at.now in
    closure-counted at.functions.now at.function.now at.op.now c.args.machine.now c.args.stacks.now (g.C.Caller.lent c.args.caller.now).counts c.args.call.now.unit c.args.number c.args.params c.args.name.now c.top.result c.top.ensures.0
    c.requires.ready c.requires.counts c.requires.kind c.top.ensures.1

pub returns-clause-told : goal.returns-clause-told
returns-clause-told g c = λ known. record {
  by = λ calls frame code rest s f agrees same is stands.
      let at = c.args.at.now in
      let h = c.args.machine.now in
      let k = c.closure_value-given.new.machine in
      let st = c.args.stacks.now in
      let own = c.top.result in
      let caller = c.closure_value-given.new.caller in
      let holds = g.C.Runner.holds caller known k in
      let stopped = g.C.Caller.stopped caller known in
      let number = c.args.number in
      let params = c.args.params in
      let name = c.args.name.now in
      let o = made_closure c.args.call.now.unit number params own name s in
      let does : act frame code (kind.Closure number params name) rest (plain_stacks h.texts st) s ≡ finish rest (plain_stacks h.texts st) o =
      closure_is frame code rest number params name (plain_stacks h.texts st) s
      ∙ ap (λ unit. finish rest (plain_stacks h.texts st) (made_closure unit number params (record { 0 = inner (map number_of st.scopes) }) name s)) is.unit_is
      ∙ ap (λ scopes. finish rest (plain_stacks h.texts st) (made_closure c.args.call.now.unit number params (record { 0 = inner (map number_of scopes) }) name s)) c.top.ensures.1
      in
      subst (Acts holds stopped k.texts rest (plain_stacks k.texts c.push_given.new.stacks) c.push_given.result) (sym does)
      (finish-held holds stopped k.texts rest (plain_stacks h.texts st) st c.push_given.new.stacks (stacks-widened h k c.closure_value-given.ensures.widens at.function.now.slots at.op.now.depth st c.requires.ready.sits)
      c.closure_value-given.result c.push_given.result o c.push_given.ensures ((c.closure_value-given.ensures.told known).by s stands));
}

pub returns-clause-leaves : goal.returns-clause-leaves
returns-clause-leaves g c =
    let at = c.args.at.now in
    given-leaves at.function.now at.op.now c.args.machine.now c.closure_value-given.new.machine c.args.stacks.now c.push_given.new.stacks c.closure_value-given.result c.push_given.result
    (subst (λ k. Moves k 0 1) (sym c.requires.kind) (closure-moves c.args.number c.args.params c.args.name.now)) c.closure_value-given.ensures.widens c.requires.ready.sits c.closure_value-given.ensures.value c.push_given.ensures
