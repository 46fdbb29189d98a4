use Rattle.njs_simul.proofs.ValidWhole.{code_valid}
use Rattle.njs_simul.proofs.laws.sound_scripts_have_valid_code.Goals as goal

pub returns : goal.returns
returns c = λ script outermost sound. code_valid script outermost sound
