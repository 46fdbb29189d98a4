use Rattle.njs_expr.proofs.descent.+descent.Given as goal

abbrev pub decreases-expr : goal.decreases-expr
decreases-expr g l = l.fuel

abbrev pub decreases-stmt : goal.decreases-stmt
decreases-stmt g l = l.fuel
