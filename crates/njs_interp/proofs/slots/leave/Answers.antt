use Rattle.std.proofs.Common.{arith}
use Rattle.njs_interp.proofs.Jumped.{leave-there, leave-sits}
use Rattle.njs_interp.proofs.slots.leave.Goals as goal

pub pop-requires : goal.pop-requires
pop-requires c = omega (arith, leave-there c.args.at.now.functions.now c.args.at.now.function.now c.args.at.now.op.now c.args.machine.now c.args.stacks.now c.requires.kind c.requires.ready)

pub returns-clause-leaves : goal.returns-clause-leaves
returns-clause-leaves c = leave-sits c.args.at.now.function.now c.args.at.now.op.now c.args.machine.now c.args.stacks.now c.pop.result c.pop.new.self c.requires.kind c.pop.ensures (leave-there c.args.at.now.functions.now c.args.at.now.function.now c.args.at.now.op.now c.args.machine.now c.args.stacks.now c.requires.kind c.requires.ready) c.requires.ready.sits
