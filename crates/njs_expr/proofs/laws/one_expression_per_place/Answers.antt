use Rattle.njs_expr.proofs.Whole.{expression_once}
use Rattle.njs_expr.proofs.laws.one_expression_per_place.Goals as goal

pub returns : goal.returns
returns c = expression_once
