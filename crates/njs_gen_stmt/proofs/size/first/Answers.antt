use Rattle.std.proofs.Common.{◌≡◌, arith, rules}
use Rattle.njs_tree.specs.declared.tree.Expr.{the_lemmas}
use Rattle.njs_simul.specs.Compiled.{expression}
use Rattle.njs_gen_expr.specs.Trees as code
use Rattle.njs_gen_stmt.specs.Sized.{in_first, in_variables}
use Rattle.njs_gen_stmt.proofs.size.first.Goals as goal

pub returns-in-Some-Var : goal.returns-in-Some-Var
unfolding expression code.first
returns-in-Some-Var c first =
    let shape : in_first c.args.part.now first ≡ in_variables c.in-Some-Var.list first = search (rules, the_lemmas) in
    omega (arith, shape, c.variables.ensures first)
