use Rattle.njs_interp.proofs.NamesJump.{more-goes, none-jumps, more-sits, none-sits}
use Rattle.njs_interp.proofs.Onward.{more_names_on, more_names_goes}
use Rattle.njs_interp.proofs.step.leading.skip_names.Goals as goal

pub returns-in-Name-clause-told : goal.returns-in-Name-clause-told
returns-in-Name-clause-told c = more-goes c.args.to c.args.machine.now c.args.stacks.now c.more_names.new.stacks c.more_names.result c.more_names.ensures.told c.in-Name.is

pub returns-in-Name-clause-goes : goal.returns-in-Name-clause-goes
returns-in-Name-clause-goes c = more_names_on c.args.to c.args.at.now.op.now.kind c.requires.kind

pub returns-in-Name-clause-leaves : goal.returns-in-Name-clause-leaves
returns-in-Name-clause-leaves c = more-sits c.args.to c.args.at.now.function.now c.args.at.now.op.now c.args.machine.now c.more_names.new.stacks c.requires.kind c.more_names.ensures.leaves

pub returns-in-None-clause-told : goal.returns-in-None-clause-told
returns-in-None-clause-told c = none-jumps c.args.to c.args.machine.now c.args.stacks.now c.more_names.new.stacks c.more_names.result c.more_names.ensures.told c.in-None.is

pub returns-in-None-clause-goes : goal.returns-in-None-clause-goes
returns-in-None-clause-goes c = more_names_goes c.args.to c.args.at.now.op.now.kind c.requires.kind

pub returns-in-None-clause-leaves : goal.returns-in-None-clause-leaves
returns-in-None-clause-leaves c = none-sits c.args.to c.args.at.now.function.now c.args.at.now.op.now c.args.machine.now c.more_names.new.stacks c.requires.kind c.more_names.ensures.leaves
