use Rattle.njs_simul.proofs.Asking.{replies_stay}
use Rattle.njs_simul.proofs.laws.runs_keep_their_replies.Goals as goal

pub returns : goal.returns
returns c = replies_stay
