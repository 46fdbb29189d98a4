use Rattle.njs_interp.proofs.Kept.{Grown-Extends}
use Rattle.njs_interp.proofs.Moves.{fail_takes}
use Rattle.njs_interp.proofs.Failures.{fail-told, fail-leaves}
use Rattle.njs_interp.proofs.failing.fail.Goals as goal

pub returns-clause-told : goal.returns-clause-told
returns-clause-told g c =
    fail-told c.args.at.now.function.now c.args.at.now.op.now c.args.machine.now c.failed.new.machine c.args.stacks.now c.failed.result c.failed.ensures.extends c.requires.ready.sits c.args.failure.now c.failed.ensures.told

pub returns-clause-leaves : goal.returns-clause-leaves
returns-clause-leaves g c =
    fail-leaves c.args.at.now.function.now c.args.at.now.op.now c.args.machine.now c.failed.new.machine c.args.stacks.now c.failed.result c.failed.ensures.extends c.requires.ready.sits
    (fail_takes c.args.failure.now c.args.at.now.op.now.kind c.requires.kind) c.failed.ensures.fits

pub returns-clause-grown : goal.returns-clause-grown
returns-clause-grown g c = Grown-Extends c.args.machine.now c.failed.new.machine c.failed.ensures.extends
