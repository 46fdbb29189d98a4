use Rattle.njs_simul.proofs.Asking.{keeps_everywhere}
use Rattle.njs_simul.proofs.laws.calls_keep_what_dictionaries_say.Goals as goal

pub returns : goal.returns
returns g c = keeps_everywhere g.S.Saying.says c.requires.stays
