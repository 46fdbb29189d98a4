use Rattle.njs_interp.proofs.Moves.{load_global_takes, load_global_gives}
use Rattle.njs_interp.proofs.Reached.{ready-outermost, load_global-names, counted-within, load_global-told}
use Rattle.njs_interp.proofs.slots.load_global.Goals as goal

pub scope_get-value-requires-clause-slot : goal.scope_get-value-requires-clause-slot
scope_get-value-requires-clause-slot c =
    let at = c.args.at.now in
    ready-outermost at.functions.now at.function.now at.op.now c.args.machine.now c.args.stacks.now c.requires.ready c.args.slot
    (load_global-names at.functions.now at.function.now at.op.now c.args.machine.now c.args.stacks.now c.requires.ready c.args.slot c.requires.kind)

pub scope_get-value-requires-clause-scope : goal.scope_get-value-requires-clause-scope
scope_get-value-requires-clause-scope c =
    let at = c.args.at.now in
    counted-within c.args.machine.now.scopes 0 c.args.slot
    (ready-outermost at.functions.now at.function.now at.op.now c.args.machine.now c.args.stacks.now c.requires.ready c.args.slot
    (load_global-names at.functions.now at.function.now at.op.now c.args.machine.now c.args.stacks.now c.requires.ready c.args.slot c.requires.kind))

pub give-requires-clause-takes : goal.give-requires-clause-takes
give-requires-clause-takes c = load_global_takes c.args.slot _ c.requires.kind

pub give-requires-clause-gives : goal.give-requires-clause-gives
give-requires-clause-gives c = load_global_gives c.args.slot _ c.requires.kind

pub returns-clause-told : goal.returns-clause-told
returns-clause-told c =
    load_global-told c.args.machine.now c.args.slot c.scope_get-value.result c.args.stacks.now c.give.new.stacks c.give.result c.scope_get-value.ensures.value c.give.ensures.pushed
