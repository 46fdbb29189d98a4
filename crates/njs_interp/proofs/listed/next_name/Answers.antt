use Rattle.njs_interp.proofs.Kept.{Grown-Extends}
use Rattle.njs_interp.proofs.Extending.{extends-gained}
use Rattle.njs_interp.proofs.NextNames.{next_name-told, next_name-stopped, next_name-leaves}
use Rattle.njs_interp.proofs.listed.next_name.Goals as goal

pub returns-in-Ok-clause-told : goal.returns-in-Ok-clause-told
returns-in-Ok-clause-told c =
    next_name-told c.args.machine.now c.name_value.new.machine c.args.stacks.now c.take_next-name.new.stacks c.take_next-name.result c.take_next-name.ensures.taken c.args.at.now.function.now c.args.at.now.op.now
    c.sizes-sizes.ensures.fits c.take_next-name.ensures.sits c.name_value.ensures.texts c.in-Ok.value c.push.new.stacks c.push.result c.in-Ok.ensures.shows c.push.ensures

pub returns-in-Ok-clause-leaves : goal.returns-in-Ok-clause-leaves
returns-in-Ok-clause-leaves c =
    next_name-leaves c.args.machine.now c.name_value.new.machine c.args.stacks.now c.take_next-name.new.stacks c.take_next-name.result c.take_next-name.ensures.taken c.args.at.now.function.now c.args.at.now.op.now
    c.take_next-name.ensures.sits c.name_value.ensures.texts c.in-Ok.value c.push.new.stacks c.push.result c.requires.kind c.in-Ok.ensures.fits c.push.ensures

pub returns-in-Ok-clause-grown : goal.returns-in-Ok-clause-grown
returns-in-Ok-clause-grown c = Grown-Extends c.args.machine.now c.name_value.new.machine (extends-gained c.args.machine.now c.name_value.new.machine c.in-Ok.ensures.texts)

pub returns-in-Err-clause-told : goal.returns-in-Err-clause-told
returns-in-Err-clause-told c =
    next_name-stopped c.args.machine.now c.name_value.new.machine c.args.stacks.now c.take_next-name.new.stacks c.take_next-name.result c.take_next-name.ensures.taken c.take_next-name.new.stacks

pub returns-in-Err-clause-grown : goal.returns-in-Err-clause-grown
returns-in-Err-clause-grown c = Grown-Extends c.args.machine.now c.name_value.new.machine (extends-gained c.args.machine.now c.name_value.new.machine c.in-Err.ensures.texts)
