-- Trees by their parts, and the parts of lists.
use Rattle.std.proofs.Common.{append_assoc}
use Rattle.std.proofs.Math.Bool.{or_assoc}
use Rattle.std.proofs.lemmas.List.{append-nil, map-append}
use Rattle.njs_tree.specs.declared.tree.Expr.{the_lemmas}

pub ruleset trees = (the_lemmas, append_assoc, append-nil, map-append, or_assoc)
