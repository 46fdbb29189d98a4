use Rattle.njs_expr.proofs.Once.{one_tree}
use Rattle.njs_expr.proofs.laws.one_tree_per_text.Goals as goal

pub returns : goal.returns
returns c = one_tree
