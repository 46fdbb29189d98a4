-- The first refusal of two lists.
use Rattle.std.proofs.Common.{◌≡◌, List, [], ◌∷◌, ◌++◌, Result, Ok, Err, refl}
use Rattle.njs_tree.specs.declared.token.EarlyFault.{EarlyFault}
use Rattle.njs_tree.specs.declared.tree.Expr.{the_lemmas}
use Rattle.njs_early.specs.Walk.{answer}

abbrev pub and_then : Result (Unit {0}) EarlyFault → Result (Unit {0}) EarlyFault → Result (Unit {0}) EarlyFault
and_then (Ok u) later = later
and_then (Err f) later = Err f

pub answer_append : (xs ys : List EarlyFault) → answer (xs ++ ys) ≡ and_then (answer xs) (answer ys)
answer_append [] ys = refl
answer_append (x ∷ xs) ys = refl

-- a tree by its parts, and what the walk answers there
pub ruleset walking = (the_lemmas, answer_append)
