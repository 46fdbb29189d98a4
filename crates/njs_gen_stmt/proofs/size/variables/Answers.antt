use Rattle.std.proofs.Common.{◌≡◌, ℕ, List, Option, subst, arith}
use Rattle.njs_tree.specs.declared.tree.Expr.{Expr}
use Rattle.njs_gen_stmt.specs.Sized.{counted, in_variables}
use Rattle.njs_gen_stmt.proofs.Lists.{from_start}
use Rattle.njs_gen_stmt.proofs.size.variables.Goals as goal

pub returns : goal.returns
returns c first =
    let all = from_start c.loop-i.i c.as_slice-list.result.now c.args.list.now (omega arith) c.as_slice-list.ensures in
    let size : c.loop-i.size ≡ counted (in_variables c.args.list.now first) =
    subst (λ (list : List (List ℕ × Option Expr)). c.loop-i.size ≡ counted (in_variables list first)) all (c.loop-i.invariant first) in
    omega arith
