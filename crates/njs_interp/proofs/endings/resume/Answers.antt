use Rattle.njs_interp.proofs.Jumped.{waits_no_more, resume_gives, resume-there, resume-told}
use Rattle.njs_interp.proofs.Kept.{given-none}
use Rattle.njs_interp.proofs.endings.resume.Goals as goal

pub pop-requires : goal.pop-requires
pop-requires c = resume-there c.args.at.now.functions.now c.args.at.now.function.now c.args.at.now.op.now c.args.machine.now c.args.stacks.now c.requires.kind c.requires.ready

pub returns-in-Normal-clause-leaves : goal.returns-in-Normal-clause-leaves
returns-in-Normal-clause-leaves c = given-none c.args.at.now.function.now c.args.at.now.op.now c.args.machine.now (record c.args.stacks.now { endings = c.pop.new.self }) (resume_gives _ c.requires.kind) (waits_no_more c.args.at.now.function.now c.args.at.now.op.now c.args.machine.now c.args.stacks.now c.pop.result c.pop.new.self c.requires.kind c.pop.ensures c.requires.ready.sits).0

pub returns-in_default-clause-told : goal.returns-in_default-clause-told
returns-in_default-clause-told c = resume-told c.args.machine.now c.args.stacks.now c.pop.result c.pop.new.self c.pop.ensures c.in_default.not-Normal

pub returns-in_default-clause-leaves : goal.returns-in_default-clause-leaves
returns-in_default-clause-leaves c = waits_no_more c.args.at.now.function.now c.args.at.now.op.now c.args.machine.now c.args.stacks.now c.pop.result c.pop.new.self c.requires.kind c.pop.ensures c.requires.ready.sits
