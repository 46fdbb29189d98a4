use Rattle.njs_interp.proofs.Moves.{store_global_takes, store_global_gives}
use Rattle.njs_interp.proofs.Reached.{ready-outermost, ready-operand, counted-within, store_global-names, store_global-told, put-leaves, put-grown}
use Rattle.njs_interp.proofs.slots.store_global.Goals as goal

pub top-value-requires : goal.top-value-requires
top-value-requires g c =
    let at = c.args.at.now in
    ready-operand at.functions.now at.function.now at.op.now c.args.machine.now c.args.stacks.now c.requires.ready (store_global_takes c.args.slot _ c.requires.kind)

pub put-requires-clause-slot : goal.put-requires-clause-slot
put-requires-clause-slot g c =
    let at = c.args.at.now in
    ready-outermost at.functions.now at.function.now at.op.now c.args.machine.now c.args.stacks.now c.requires.ready c.args.slot (store_global-names at.functions.now at.function.now at.op.now c.args.machine.now c.args.stacks.now c.requires.ready c.args.slot c.requires.kind)

pub put-requires-clause-scope : goal.put-requires-clause-scope
put-requires-clause-scope g c =
    let at = c.args.at.now in
    counted-within c.args.machine.now.scopes 0 c.args.slot (ready-outermost at.functions.now at.function.now at.op.now c.args.machine.now c.args.stacks.now c.requires.ready c.args.slot (store_global-names at.functions.now at.function.now at.op.now c.args.machine.now c.args.stacks.now c.requires.ready c.args.slot c.requires.kind))

pub returns-clause-told : goal.returns-clause-told
returns-clause-told g c =
    store_global-told c.args.machine.now c.put.new.machine c.args.stacks.now c.args.slot c.top-value.result c.top-value.ensures.0 c.put.result c.top-value.ensures.1 c.put.ensures.put

pub returns-clause-leaves : goal.returns-clause-leaves
returns-clause-leaves g c =
    let at = c.args.at.now in
    put-leaves at.functions.now at.function.now at.op.now c.args.machine.now c.args.stacks.now c.requires.ready 0 c.args.slot c.top-value.result c.put.new.machine c.put.result (store_global_takes c.args.slot _ c.requires.kind) (store_global_gives c.args.slot _ c.requires.kind) c.put.ensures.put

pub returns-clause-grown : goal.returns-clause-grown
returns-clause-grown g c = put-grown 0 c.args.slot c.top-value.result c.args.machine.now c.put.new.machine c.put.result c.put.ensures.put
