use Rattle.njs_simul.proofs.SmallTrees.{small_code}
use Rattle.njs_simul.proofs.laws.sizes_are_small.Goals as goal

pub returns : goal.returns
returns c = λ script outermost. small_code script outermost
