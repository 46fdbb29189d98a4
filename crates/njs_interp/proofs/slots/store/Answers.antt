use Rattle.njs_interp.proofs.Moves.{store_takes, store_gives}
use Rattle.njs_interp.proofs.Reached.{ready-scope, ready-slot, ready-operand, store-names, store-told, put-leaves, put-grown}
use Rattle.njs_interp.proofs.slots.store.Goals as goal

pub outwards-scope-requires : goal.outwards-scope-requires
outwards-scope-requires g c =
    let at = c.args.at.now in
    ready-scope at.functions.now at.function.now at.op.now c.args.machine.now c.args.stacks.now c.requires.ready c.top-own.result c.top-own.ensures.0 c.top-own.ensures.1

pub top-value-requires : goal.top-value-requires
top-value-requires g c =
    let at = c.args.at.now in
    ready-operand at.functions.now at.function.now at.op.now c.args.machine.now c.args.stacks.now c.requires.ready (store_takes c.args.up c.args.slot _ c.requires.kind)

pub put-requires-clause-slot : goal.put-requires-clause-slot
put-requires-clause-slot g c =
    let at = c.args.at.now in
    ready-slot at.functions.now at.function.now at.op.now c.args.machine.now c.args.stacks.now c.requires.ready c.top-own.result c.top-own.ensures.0 c.args.up c.args.slot c.outwards-scope.result.0 c.top-own.ensures.1 c.outwards-scope.ensures.place
    (store-names at.functions.now at.function.now at.op.now c.args.machine.now c.args.stacks.now c.requires.ready c.args.up c.args.slot c.requires.kind)

pub returns-clause-told : goal.returns-clause-told
returns-clause-told g c =
    store-told c.args.machine.now c.put.new.machine c.args.stacks.now c.args.up c.args.slot c.top-own.result c.top-own.ensures.0 c.outwards-scope.result.0 c.top-value.result c.top-value.ensures.0 c.put.result
    c.top-own.ensures.1 c.outwards-scope.ensures.place c.top-value.ensures.1 c.put.ensures.put

pub returns-clause-leaves : goal.returns-clause-leaves
returns-clause-leaves g c =
    let at = c.args.at.now in
    put-leaves at.functions.now at.function.now at.op.now c.args.machine.now c.args.stacks.now c.requires.ready c.outwards-scope.result.0 c.args.slot c.top-value.result c.put.new.machine c.put.result
    (store_takes c.args.up c.args.slot _ c.requires.kind) (store_gives c.args.up c.args.slot _ c.requires.kind) c.put.ensures.put

pub returns-clause-grown : goal.returns-clause-grown
returns-clause-grown g c = put-grown c.outwards-scope.result.0 c.args.slot c.top-value.result c.args.machine.now c.put.new.machine c.put.result c.put.ensures.put
