use Rattle.njs_simul.proofs.Accepted.{accepted_valid}
use Rattle.njs_simul.proofs.laws.accepted_scripts_have_valid_code.Goals as goal

pub returns : goal.returns
returns c = λ script outermost accepted. accepted_valid script outermost accepted
