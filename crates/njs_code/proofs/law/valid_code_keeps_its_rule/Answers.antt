use Rattle.njs_code.proofs.Facts.{code_rule}
use Rattle.njs_code.proofs.law.valid_code_keeps_its_rule.Goals as goal

pub returns : goal.returns
returns c = code_rule
