use Rattle.njs_interp.proofs.Standing.{extends-nothing}
use Rattle.njs_interp.proofs.arguments.arguments.Goals as goal

pub returns-then-args-ge4294967295-clause-extends :
    goal.returns-then-args-ge4294967295-clause-extends
returns-then-args-ge4294967295-clause-extends g c = extends-nothing c.args.machine.now
