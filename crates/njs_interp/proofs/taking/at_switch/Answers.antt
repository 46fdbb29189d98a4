use Rattle.njs_interp.proofs.Going.{switch_goes}
use Rattle.njs_interp.proofs.taking.at_switch.Goals as goal

pub returns-in-Broken-None-clause-goes : goal.returns-in-Broken-None-clause-goes
returns-in-Broken-None-clause-goes c = switch_goes
