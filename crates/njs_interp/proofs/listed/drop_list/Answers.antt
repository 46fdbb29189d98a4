use Rattle.std.proofs.Common.{refl}
use Rattle.njs_interp.proofs.NextNames.{list-there, drop_list-told, drop_list-sits}
use Rattle.njs_interp.proofs.listed.drop_list.Goals as goal

pub take_last-requires : goal.take_last-requires
take_last-requires c = list-there c.args.at.now.functions.now c.args.at.now.function.now c.args.at.now.op.now c.args.machine.now c.args.stacks.now c.requires.kind c.requires.ready

pub returns-clause-told : goal.returns-clause-told
returns-clause-told c =
    drop_list-told c.args.machine.now c.args.stacks.now (record c.args.stacks.now { lists = c.take_last.new.lists }) c.take_last.result refl c.take_last.ensures

pub returns-clause-leaves : goal.returns-clause-leaves
returns-clause-leaves c =
    drop_list-sits c.args.machine.now c.args.stacks.now (record c.args.stacks.now { lists = c.take_last.new.lists }) c.take_last.result refl c.take_last.ensures
    c.args.at.now.function.now c.args.at.now.op.now c.requires.kind c.requires.ready.sits
