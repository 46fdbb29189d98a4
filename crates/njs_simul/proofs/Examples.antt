-- Small examples of what stands in the code.
use Rattle.std.proofs.Common.{◌≡◌, ℕ, List, [], ◌∷◌, map, None, pos, arith}
use Rattle.njs_tree.specs.declared.tree.BinaryOp.TheVariants as sign
use Rattle.njs_tree.specs.declared.tree.Expr.{Expr, roll-Expr, the_lemmas}
use Rattle.njs_tree.specs.declared.tree.ExprNode.{ExprNode}
use Rattle.njs_tree.specs.declared.tree.ExprNode.TheVariants as node
use Rattle.njs_tree.specs.declared.tree.Stmt.{Stmt, roll-Stmt}
use Rattle.njs_tree.specs.declared.tree.StmtNode.{StmtNode}
use Rattle.njs_tree.specs.declared.tree.StmtNode.TheVariants as step
use Rattle.njs_code.specs.declared.op.Kind.{Kind}
use Rattle.njs_code.specs.declared.op.Kind.TheVariants as kind
use Rattle.njs_code.specs.declared.op.Op.{Op}
use Rattle.njs_simul.specs.EmissionOfStatements.{at_start}
use Rattle.njs_simul.specs.Compiled.{statement}
use Rattle.njs_simul.specs.Counts.{nodes_of_statement}

abbrev on : ExprNode → Expr
on n = roll-Expr (record { line = 1; node = n })

abbrev stands : StmtNode → Stmt
stands n = roll-Stmt (record { line = 1; node = n })

abbrev number : ℕ → Expr
number n = on (node.Num (pos n))

abbrev kinds_of : StmtNode → List Kind
kinds_of n = map (λ (o : Op). o.kind) (((statement (stands n)).means 0).emit [] (at_start []) [])

-- `1 + 2;`
sum : kinds_of (step.Expr (on (node.Binary sign.Add (number 1) (number 2))))
    ≡ kind.Charge ∷ kind.Charge ∷ kind.Charge ∷ kind.Num (pos 1) ∷ kind.Charge ∷ kind.Num (pos 2) ∷ kind.Binary sign.Add ∷ kind.Drop ∷ []
unfolding statement
sum = grind (arith, the_lemmas)

-- `for (;;) break;`: the head of the loop is five operations before the end, and behind the loop is the end
for_ever : kinds_of (step.For None None None (stands (step.Break None)))
    ≡ kind.Charge ∷ kind.Charge ∷ kind.Charge ∷ kind.Break None ∷ kind.EndBody [] (record { 0 = 0 }) ∷ kind.Jump (record { 0 = 5 }) ∷ []
unfolding statement
for_ever = grind (arith, the_lemmas)

-- they have four nodes and eight operations, and two nodes and six operations
sum_nodes : nodes_of_statement (stands (step.Expr (on (node.Binary sign.Add (number 1) (number 2))))) ≡ 4
unfolding nodes_of_statement
sum_nodes = grind (arith, the_lemmas)

sum_size : ((statement (stands (step.Expr (on (node.Binary sign.Add (number 1) (number 2)))))).means 0).size ≡ 8
unfolding statement
sum_size = grind (arith, the_lemmas)

for_nodes : nodes_of_statement (stands (step.For None None None (stands (step.Break None)))) ≡ 2
unfolding nodes_of_statement
for_nodes = grind (arith, the_lemmas)

for_size : ((statement (stands (step.For None None None (stands (step.Break None))))).means 0).size ≡ 6
unfolding statement
for_size = grind (arith, the_lemmas)
