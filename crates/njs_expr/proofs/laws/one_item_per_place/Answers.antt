use Rattle.njs_expr.proofs.Whole.{item_once}
use Rattle.njs_expr.proofs.laws.one_item_per_place.Goals as goal

pub returns : goal.returns
returns c = item_once
