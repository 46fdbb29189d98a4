use Rattle.std.proofs.Common.{sym, ap, ◌∙◌}
use Rattle.njs_interp.specs.declared.stacks.Stacks.{Stacks}
use Rattle.njs_interp.proofs.Reached.{ready-scope}
use Rattle.njs_interp.proofs.Entering.{enter_takes, enter-told, enter-sits}
use Rattle.njs_interp.proofs.slots.enter.Goals as goal

pub take-value-requires-clause-takes : goal.take-value-requires-clause-takes
take-value-requires-clause-takes g c = enter_takes c.args.name.now _ c.requires.kind

pub scope_with-requires-clause-parent : goal.scope_with-requires-clause-parent
scope_with-requires-clause-parent g c = ready-scope c.args.at.now.functions.now c.args.at.now.function.now c.args.at.now.op.now c.args.machine.now c.args.stacks.now c.requires.ready c.top-own.result c.top-own.ensures.0 c.top-own.ensures.1

pub returns-in-Ok-push-clause-told : goal.returns-in-Ok-push-clause-told
returns-in-Ok-push-clause-told g c = enter-told c.args.name.now c.args.machine.now c.scope_with.new.machine c.args.stacks.now c.take-value.new.stacks c.take-value.result c.top-own.result c.top-own.ensures.0 c.take-value.ensures.is (sym (ap (λ (b : Stacks). b.scopes) c.take-value.ensures.is) ∙ c.top-own.ensures.1) c.in-Ok.scope c.push.new.self c.in-Ok.ensures.entered.0 c.in-Ok.ensures.entered.1 c.in-Ok-push.ensures.ok

pub returns-in-Ok-push-clause-leaves : goal.returns-in-Ok-push-clause-leaves
returns-in-Ok-push-clause-leaves g c = enter-sits c.args.at.now.function.now c.args.at.now.op.now c.args.name.now c.args.machine.now c.scope_with.new.machine c.take-value.new.stacks c.take-value.result c.top-own.result c.top-own.ensures.0 c.in-Ok.scope c.push.new.self c.requires.kind (sym (ap (λ (b : Stacks). b.scopes) c.take-value.ensures.is) ∙ c.top-own.ensures.1) c.in-Ok.ensures.entered.0 c.in-Ok.ensures.entered.1 c.in-Ok-push.ensures.ok c.take-value.ensures.sits
