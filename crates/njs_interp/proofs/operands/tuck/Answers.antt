use Rattle.njs_interp.proofs.Tucking.{tuck-there, tuck-told, tuck-sits}
use Rattle.njs_interp.proofs.operands.tuck.Goals as goal

pub tuck-requires : goal.tuck-requires
tuck-requires c = tuck-there c.args.at.now.functions.now c.args.at.now.function.now c.args.at.now.op.now c.args.machine.now c.args.stacks.now c.args.under c.requires.kind c.requires.ready

pub returns-in-Ok-clause-told : goal.returns-in-Ok-clause-told
returns-in-Ok-clause-told c = tuck-told c.args.machine.now c.args.stacks.now c.args.under c.in-Ok.ensures.ok.0 c.in-Ok.ensures.ok.1 c.tuck.new.self c.in-Ok.ensures.ok.2 c.in-Ok.ensures.ok.3

pub returns-in-Ok-clause-leaves : goal.returns-in-Ok-clause-leaves
returns-in-Ok-clause-leaves c = tuck-sits c.args.at.now.function.now c.args.at.now.op.now c.args.machine.now c.args.stacks.now c.args.under c.in-Ok.ensures.ok.0 c.in-Ok.ensures.ok.1 c.tuck.new.self c.requires.kind c.in-Ok.ensures.ok.2 c.in-Ok.ensures.ok.3 (tuck-there c.args.at.now.functions.now c.args.at.now.function.now c.args.at.now.op.now c.args.machine.now c.args.stacks.now c.args.under c.requires.kind c.requires.ready) c.requires.ready.sits
