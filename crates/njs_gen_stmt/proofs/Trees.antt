-- Trees by their parts.
use Rattle.njs_tree.specs.declared.tree.Expr.{the_lemmas}

pub ruleset trees = the_lemmas
