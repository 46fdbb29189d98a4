use Rattle.njs_interp.proofs.Distinct.{distinct_parameters}
use Rattle.njs_interp.proofs.laws.accepted_scripts_have_distinct_parameters.Goals as goal

pub returns : goal.returns
returns c = λ script accepted. distinct_parameters script accepted
