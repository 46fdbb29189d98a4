use Rattle.njs_simul.proofs.Program.{program_means}
use Rattle.njs_simul.proofs.laws.code_does_what_scripts_mean.Goals as goal

pub returns : goal.returns
returns c = λ scripts outermost. program_means scripts outermost
