use Rattle.njs_interp.proofs.Going.{block_goes}
use Rattle.njs_interp.proofs.taking.at_block.Goals as goal

pub returns-in-Thrown-clause-goes : goal.returns-in-Thrown-clause-goes
returns-in-Thrown-clause-goes c = block_goes
