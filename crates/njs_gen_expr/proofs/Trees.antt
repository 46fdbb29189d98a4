-- Trees by their parts.
use Rattle.std.proofs.lemmas.List.{length-append}
use Rattle.njs_tree.specs.declared.tree.Expr.{the_lemmas}

pub ruleset trees = the_lemmas

pub ruleset counts = (the_lemmas, length-append)
