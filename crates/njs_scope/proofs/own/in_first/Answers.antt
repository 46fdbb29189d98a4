use Rattle.std.proofs.Common.{◌≡◌, ℕ, List, [], Option, ◌∙◌, subst, rules}
use Rattle.njs_tree.specs.declared.tree.Expr.{Expr, the_lemmas}
use Rattle.njs_scope.specs.Uses.{expression, first}
use Rattle.njs_scope.specs.Walked.{declared_names, declaring_all, optional_first}
use Rattle.njs_scope.proofs.own.in_first.Goals as goal

pub returns-in-Some-Var-clause-declared : goal.returns-in-Some-Var-clause-declared
unfolding expression first
returns-in-Some-Var-clause-declared c number =
    let shape : declared_names (optional_first c.args.part.now) number ≡ declared_names (declaring_all c.in-Some-Var.list) number = search (rules, the_lemmas) in
    shape ∙ subst (λ (list : List (List ℕ × Option Expr)). declared_names (declaring_all list) number ≡ []) c.as_slice.ensures (c.in_vars.ensures.declared number)
