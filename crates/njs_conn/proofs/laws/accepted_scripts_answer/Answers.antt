use Rattle.njs_conn.proofs.FirstForm.{answers}
use Rattle.njs_conn.proofs.laws.accepted_scripts_answer.Goals as goal

pub returns : goal.returns
returns c = answers
