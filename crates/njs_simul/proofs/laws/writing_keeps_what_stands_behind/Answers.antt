use Rattle.njs_simul.proofs.Sizes.{sizes_are_true}
use Rattle.njs_simul.proofs.laws.writing_keeps_what_stands_behind.Goals as goal

pub returns : goal.returns
returns c = sizes_are_true
