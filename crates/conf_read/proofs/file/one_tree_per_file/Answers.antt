use Rattle.conf_read.proofs.Whole.{one_tree}
use Rattle.conf_read.proofs.file.one_tree_per_file.Goals as goal

pub returns : goal.returns
returns c = one_tree
