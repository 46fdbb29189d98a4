use Rattle.njs_interp.proofs.Moves.{load_takes, load_gives}
use Rattle.njs_interp.proofs.Reached.{ready-scope, ready-slot, load-names, load-told}
use Rattle.njs_interp.proofs.slots.load.Goals as goal

pub outwards-scope-requires : goal.outwards-scope-requires
outwards-scope-requires c =
    let at = c.args.at.now in
    ready-scope at.functions.now at.function.now at.op.now c.args.machine.now c.args.stacks.now c.requires.ready c.top-own.result c.top-own.ensures.0 c.top-own.ensures.1

pub scope_get-value-requires-clause-slot : goal.scope_get-value-requires-clause-slot
scope_get-value-requires-clause-slot c =
    let at = c.args.at.now in
    ready-slot at.functions.now at.function.now at.op.now c.args.machine.now c.args.stacks.now c.requires.ready c.top-own.result c.top-own.ensures.0 c.args.up c.args.slot c.outwards-scope.result.0
    c.top-own.ensures.1 c.outwards-scope.ensures.place
    (load-names at.functions.now at.function.now at.op.now c.args.machine.now c.args.stacks.now c.requires.ready c.args.up c.args.slot c.requires.kind)

pub give-requires-clause-takes : goal.give-requires-clause-takes
give-requires-clause-takes c = load_takes c.args.up c.args.slot _ c.requires.kind

pub give-requires-clause-gives : goal.give-requires-clause-gives
give-requires-clause-gives c = load_gives c.args.up c.args.slot _ c.requires.kind

pub returns-clause-told : goal.returns-clause-told
returns-clause-told c =
    load-told c.args.machine.now c.args.up c.args.slot c.top-own.result c.top-own.ensures.0 c.outwards-scope.result.0 c.scope_get-value.result c.args.stacks.now c.give.new.stacks c.give.result
    c.top-own.ensures.1 c.outwards-scope.ensures.place c.scope_get-value.ensures.value c.give.ensures.pushed
