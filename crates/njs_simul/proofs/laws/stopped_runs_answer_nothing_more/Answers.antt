use Rattle.njs_simul.proofs.Asking.{nothing_more}
use Rattle.njs_simul.proofs.laws.stopped_runs_answer_nothing_more.Goals as goal

pub returns : goal.returns
returns c = nothing_more
