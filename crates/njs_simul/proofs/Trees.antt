-- What each tree means and its code, by the trees in it.
use Rattle.std.proofs.Common.{◌≡◌, refl, sym, subst}
use Rattle.njs_tree.specs.declared.tree.ExprNode.{ExprNode}
use Rattle.njs_tree.specs.declared.tree.ForFirst.{ForFirst}
use Rattle.njs_tree.specs.declared.tree.ForInHead.{ForInHead}
use Rattle.njs_tree.specs.declared.tree.StmtNode.{StmtNode}
use Rattle.njs_tree.specs.declared.tree.Case.{Case}
use Rattle.njs_tree.specs.declared.tree.Expr.{Expr}
use Rattle.njs_tree.specs.declared.tree.FunctionTree.{FunctionTree}
use Rattle.njs_tree.specs.declared.tree.Stmt.{Stmt}
use Rattle.njs_tree.specs.declared.tree.ExprNode.TheOpen.{ExprNode-F, ForFirst-F, ForInHead-F, StmtNode-F, Case-F, Expr-F, FunctionTree-F, Stmt-F}
use Rattle.njs_tree.specs.declared.tree.ExprNode.TheViews.{roll-ExprNode, roll-ForFirst, roll-ForInHead, roll-StmtNode, roll-Case, roll-Expr, roll-FunctionTree, roll-Stmt}
use Rattle.njs_tree.specs.declared.tree.ExprNode.TheFolds.{map-ExprNode, fold-ExprNode, fold-roll-ExprNode, map-ForFirst, fold-ForFirst, fold-roll-ForFirst, map-ForInHead, fold-ForInHead, fold-roll-ForInHead, map-StmtNode, fold-StmtNode, fold-roll-StmtNode, map-Case, fold-Case, fold-roll-Case, map-Expr, fold-Expr, fold-roll-Expr, map-FunctionTree, fold-FunctionTree, fold-roll-FunctionTree, map-Stmt, fold-Stmt, fold-roll-Stmt}
use Rattle.njs_meaning.specs.Meaning as means
use Rattle.njs_simul.specs.Compiled as code
use Rattle.njs_simul.proofs.CodedTrees.{coded_node, coded_first, coded_head, coded_statement_node, coded_branch, coded_expression, coded_function, coded_statement, coded_node_of, coded_node_rolled, coded_first_of, coded_first_rolled, coded_head_of, coded_head_rolled, coded_statement_node_of, coded_statement_node_rolled, coded_branch_of, coded_branch_rolled, coded_expression_of, coded_expression_rolled, coded_function_of, coded_function_rolled, coded_statement_of, coded_statement_rolled}

-- ---- what they mean

pub meant_node : ExprNode → means.Of_expression
meant_node = fold-ExprNode means.Of_expression means.Of_first means.Of_expression means.Of_statement means.Of_branch means.Of_expression means.Of_function means.Of_statement means.node_part means.first_part means.head_part means.statement_part means.branch_part means.expr_part means.function_part means.stmt_part

pub meant_first : ForFirst → means.Of_first
meant_first = fold-ForFirst means.Of_expression means.Of_first means.Of_expression means.Of_statement means.Of_branch means.Of_expression means.Of_function means.Of_statement means.node_part means.first_part means.head_part means.statement_part means.branch_part means.expr_part means.function_part means.stmt_part

pub meant_head : ForInHead → means.Of_expression
meant_head = fold-ForInHead means.Of_expression means.Of_first means.Of_expression means.Of_statement means.Of_branch means.Of_expression means.Of_function means.Of_statement means.node_part means.first_part means.head_part means.statement_part means.branch_part means.expr_part means.function_part means.stmt_part

pub meant_statement_node : StmtNode → means.Of_statement
meant_statement_node = fold-StmtNode means.Of_expression means.Of_first means.Of_expression means.Of_statement means.Of_branch means.Of_expression means.Of_function means.Of_statement means.node_part means.first_part means.head_part means.statement_part means.branch_part means.expr_part means.function_part means.stmt_part

pub meant_branch : Case → means.Of_branch
meant_branch = fold-Case means.Of_expression means.Of_first means.Of_expression means.Of_statement means.Of_branch means.Of_expression means.Of_function means.Of_statement means.node_part means.first_part means.head_part means.statement_part means.branch_part means.expr_part means.function_part means.stmt_part

pub meant_expression : Expr → means.Of_expression
meant_expression = fold-Expr means.Of_expression means.Of_first means.Of_expression means.Of_statement means.Of_branch means.Of_expression means.Of_function means.Of_statement means.node_part means.first_part means.head_part means.statement_part means.branch_part means.expr_part means.function_part means.stmt_part

pub meant_function : FunctionTree → means.Of_function
meant_function = fold-FunctionTree means.Of_expression means.Of_first means.Of_expression means.Of_statement means.Of_branch means.Of_expression means.Of_function means.Of_statement means.node_part means.first_part means.head_part means.statement_part means.branch_part means.expr_part means.function_part means.stmt_part

pub meant_statement : Stmt → means.Of_statement
meant_statement = fold-Stmt means.Of_expression means.Of_first means.Of_expression means.Of_statement means.Of_branch means.Of_expression means.Of_function means.Of_statement means.node_part means.first_part means.head_part means.statement_part means.branch_part means.expr_part means.function_part means.stmt_part

abbrev pub meant_node_of : ExprNode-F ExprNode ForFirst ForInHead StmtNode Case Expr FunctionTree Stmt → means.Of_expression
meant_node_of x = means.node_part (map-ExprNode ExprNode ForFirst ForInHead StmtNode Case Expr FunctionTree Stmt means.Of_expression means.Of_first means.Of_expression means.Of_statement means.Of_branch means.Of_expression means.Of_function means.Of_statement meant_node meant_first meant_head meant_statement_node meant_branch meant_expression meant_function meant_statement x)

meant_node_rolled : (x : ExprNode-F ExprNode ForFirst ForInHead StmtNode Case Expr FunctionTree Stmt) → meant_node (roll-ExprNode x) ≡ meant_node_of x
unfolding meant_node meant_first meant_head meant_statement_node meant_branch meant_expression meant_function meant_statement
meant_node_rolled x = fold-roll-ExprNode means.Of_expression means.Of_first means.Of_expression means.Of_statement means.Of_branch means.Of_expression means.Of_function means.Of_statement means.node_part means.first_part means.head_part means.statement_part means.branch_part means.expr_part means.function_part means.stmt_part x

abbrev pub meant_first_of : ForFirst-F ExprNode ForFirst ForInHead StmtNode Case Expr FunctionTree Stmt → means.Of_first
meant_first_of x = means.first_part (map-ForFirst ExprNode ForFirst ForInHead StmtNode Case Expr FunctionTree Stmt means.Of_expression means.Of_first means.Of_expression means.Of_statement means.Of_branch means.Of_expression means.Of_function means.Of_statement meant_node meant_first meant_head meant_statement_node meant_branch meant_expression meant_function meant_statement x)

meant_first_rolled : (x : ForFirst-F ExprNode ForFirst ForInHead StmtNode Case Expr FunctionTree Stmt) → meant_first (roll-ForFirst x) ≡ meant_first_of x
unfolding meant_node meant_first meant_head meant_statement_node meant_branch meant_expression meant_function meant_statement
meant_first_rolled x = fold-roll-ForFirst means.Of_expression means.Of_first means.Of_expression means.Of_statement means.Of_branch means.Of_expression means.Of_function means.Of_statement means.node_part means.first_part means.head_part means.statement_part means.branch_part means.expr_part means.function_part means.stmt_part x

abbrev pub meant_head_of : ForInHead-F ExprNode ForFirst ForInHead StmtNode Case Expr FunctionTree Stmt → means.Of_expression
meant_head_of x = means.head_part (map-ForInHead ExprNode ForFirst ForInHead StmtNode Case Expr FunctionTree Stmt means.Of_expression means.Of_first means.Of_expression means.Of_statement means.Of_branch means.Of_expression means.Of_function means.Of_statement meant_node meant_first meant_head meant_statement_node meant_branch meant_expression meant_function meant_statement x)

meant_head_rolled : (x : ForInHead-F ExprNode ForFirst ForInHead StmtNode Case Expr FunctionTree Stmt) → meant_head (roll-ForInHead x) ≡ meant_head_of x
unfolding meant_node meant_first meant_head meant_statement_node meant_branch meant_expression meant_function meant_statement
meant_head_rolled x = fold-roll-ForInHead means.Of_expression means.Of_first means.Of_expression means.Of_statement means.Of_branch means.Of_expression means.Of_function means.Of_statement means.node_part means.first_part means.head_part means.statement_part means.branch_part means.expr_part means.function_part means.stmt_part x

abbrev pub meant_statement_node_of : StmtNode-F ExprNode ForFirst ForInHead StmtNode Case Expr FunctionTree Stmt → means.Of_statement
meant_statement_node_of x = means.statement_part (map-StmtNode ExprNode ForFirst ForInHead StmtNode Case Expr FunctionTree Stmt means.Of_expression means.Of_first means.Of_expression means.Of_statement means.Of_branch means.Of_expression means.Of_function means.Of_statement meant_node meant_first meant_head meant_statement_node meant_branch meant_expression meant_function meant_statement x)

meant_statement_node_rolled : (x : StmtNode-F ExprNode ForFirst ForInHead StmtNode Case Expr FunctionTree Stmt) → meant_statement_node (roll-StmtNode x) ≡ meant_statement_node_of x
unfolding meant_node meant_first meant_head meant_statement_node meant_branch meant_expression meant_function meant_statement
meant_statement_node_rolled x = fold-roll-StmtNode means.Of_expression means.Of_first means.Of_expression means.Of_statement means.Of_branch means.Of_expression means.Of_function means.Of_statement means.node_part means.first_part means.head_part means.statement_part means.branch_part means.expr_part means.function_part means.stmt_part x

abbrev pub meant_branch_of : Case-F ExprNode ForFirst ForInHead StmtNode Case Expr FunctionTree Stmt → means.Of_branch
meant_branch_of x = means.branch_part (map-Case ExprNode ForFirst ForInHead StmtNode Case Expr FunctionTree Stmt means.Of_expression means.Of_first means.Of_expression means.Of_statement means.Of_branch means.Of_expression means.Of_function means.Of_statement meant_node meant_first meant_head meant_statement_node meant_branch meant_expression meant_function meant_statement x)

meant_branch_rolled : (x : Case-F ExprNode ForFirst ForInHead StmtNode Case Expr FunctionTree Stmt) → meant_branch (roll-Case x) ≡ meant_branch_of x
unfolding meant_node meant_first meant_head meant_statement_node meant_branch meant_expression meant_function meant_statement
meant_branch_rolled x = fold-roll-Case means.Of_expression means.Of_first means.Of_expression means.Of_statement means.Of_branch means.Of_expression means.Of_function means.Of_statement means.node_part means.first_part means.head_part means.statement_part means.branch_part means.expr_part means.function_part means.stmt_part x

abbrev pub meant_expression_of : Expr-F ExprNode ForFirst ForInHead StmtNode Case Expr FunctionTree Stmt → means.Of_expression
meant_expression_of x = means.expr_part (map-Expr ExprNode ForFirst ForInHead StmtNode Case Expr FunctionTree Stmt means.Of_expression means.Of_first means.Of_expression means.Of_statement means.Of_branch means.Of_expression means.Of_function means.Of_statement meant_node meant_first meant_head meant_statement_node meant_branch meant_expression meant_function meant_statement x)

meant_expression_rolled : (x : Expr-F ExprNode ForFirst ForInHead StmtNode Case Expr FunctionTree Stmt) → meant_expression (roll-Expr x) ≡ meant_expression_of x
unfolding meant_node meant_first meant_head meant_statement_node meant_branch meant_expression meant_function meant_statement
meant_expression_rolled x = fold-roll-Expr means.Of_expression means.Of_first means.Of_expression means.Of_statement means.Of_branch means.Of_expression means.Of_function means.Of_statement means.node_part means.first_part means.head_part means.statement_part means.branch_part means.expr_part means.function_part means.stmt_part x

abbrev pub meant_function_of : FunctionTree-F ExprNode ForFirst ForInHead StmtNode Case Expr FunctionTree Stmt → means.Of_function
meant_function_of x = means.function_part (map-FunctionTree ExprNode ForFirst ForInHead StmtNode Case Expr FunctionTree Stmt means.Of_expression means.Of_first means.Of_expression means.Of_statement means.Of_branch means.Of_expression means.Of_function means.Of_statement meant_node meant_first meant_head meant_statement_node meant_branch meant_expression meant_function meant_statement x)

meant_function_rolled : (x : FunctionTree-F ExprNode ForFirst ForInHead StmtNode Case Expr FunctionTree Stmt) → meant_function (roll-FunctionTree x) ≡ meant_function_of x
unfolding meant_node meant_first meant_head meant_statement_node meant_branch meant_expression meant_function meant_statement
meant_function_rolled x = fold-roll-FunctionTree means.Of_expression means.Of_first means.Of_expression means.Of_statement means.Of_branch means.Of_expression means.Of_function means.Of_statement means.node_part means.first_part means.head_part means.statement_part means.branch_part means.expr_part means.function_part means.stmt_part x

abbrev pub meant_statement_of : Stmt-F ExprNode ForFirst ForInHead StmtNode Case Expr FunctionTree Stmt → means.Of_statement
meant_statement_of x = means.stmt_part (map-Stmt ExprNode ForFirst ForInHead StmtNode Case Expr FunctionTree Stmt means.Of_expression means.Of_first means.Of_expression means.Of_statement means.Of_branch means.Of_expression means.Of_function means.Of_statement meant_node meant_first meant_head meant_statement_node meant_branch meant_expression meant_function meant_statement x)

meant_statement_rolled : (x : Stmt-F ExprNode ForFirst ForInHead StmtNode Case Expr FunctionTree Stmt) → meant_statement (roll-Stmt x) ≡ meant_statement_of x
unfolding meant_node meant_first meant_head meant_statement_node meant_branch meant_expression meant_function meant_statement
meant_statement_rolled x = fold-roll-Stmt means.Of_expression means.Of_first means.Of_expression means.Of_statement means.Of_branch means.Of_expression means.Of_function means.Of_statement means.node_part means.first_part means.head_part means.statement_part means.branch_part means.expr_part means.function_part means.stmt_part x

-- ---- what holds of both, by the trees in it

pub node_from : (Q : means.Of_expression → code.Of_expression → Type 0) (x : ExprNode-F ExprNode ForFirst ForInHead StmtNode Case Expr FunctionTree Stmt) → Q (meant_node_of x) (coded_node_of x) → Q (meant_node (roll-ExprNode x)) (coded_node (roll-ExprNode x))
node_from Q x t = subst (λ p. Q p (coded_node (roll-ExprNode x))) (sym (meant_node_rolled x)) (subst (λ q. Q (meant_node_of x) q) (sym (coded_node_rolled x)) t)

pub first_from : (Q : means.Of_first → code.Of_first → Type 0) (x : ForFirst-F ExprNode ForFirst ForInHead StmtNode Case Expr FunctionTree Stmt) → Q (meant_first_of x) (coded_first_of x) → Q (meant_first (roll-ForFirst x)) (coded_first (roll-ForFirst x))
first_from Q x t = subst (λ p. Q p (coded_first (roll-ForFirst x))) (sym (meant_first_rolled x)) (subst (λ q. Q (meant_first_of x) q) (sym (coded_first_rolled x)) t)

pub head_from : (Q : means.Of_expression → code.Of_expression → Type 0) (x : ForInHead-F ExprNode ForFirst ForInHead StmtNode Case Expr FunctionTree Stmt) → Q (meant_head_of x) (coded_head_of x) → Q (meant_head (roll-ForInHead x)) (coded_head (roll-ForInHead x))
head_from Q x t = subst (λ p. Q p (coded_head (roll-ForInHead x))) (sym (meant_head_rolled x)) (subst (λ q. Q (meant_head_of x) q) (sym (coded_head_rolled x)) t)

pub statement_node_from : (Q : means.Of_statement → code.Of_statement → Type 0) (x : StmtNode-F ExprNode ForFirst ForInHead StmtNode Case Expr FunctionTree Stmt) → Q (meant_statement_node_of x) (coded_statement_node_of x) → Q (meant_statement_node (roll-StmtNode x)) (coded_statement_node (roll-StmtNode x))
statement_node_from Q x t = subst (λ p. Q p (coded_statement_node (roll-StmtNode x))) (sym (meant_statement_node_rolled x)) (subst (λ q. Q (meant_statement_node_of x) q) (sym (coded_statement_node_rolled x)) t)

pub branch_from : (Q : means.Of_branch → code.Of_branch → Type 0) (x : Case-F ExprNode ForFirst ForInHead StmtNode Case Expr FunctionTree Stmt) → Q (meant_branch_of x) (coded_branch_of x) → Q (meant_branch (roll-Case x)) (coded_branch (roll-Case x))
branch_from Q x t = subst (λ p. Q p (coded_branch (roll-Case x))) (sym (meant_branch_rolled x)) (subst (λ q. Q (meant_branch_of x) q) (sym (coded_branch_rolled x)) t)

pub expression_from : (Q : means.Of_expression → code.Of_expression → Type 0) (x : Expr-F ExprNode ForFirst ForInHead StmtNode Case Expr FunctionTree Stmt) → Q (meant_expression_of x) (coded_expression_of x) → Q (meant_expression (roll-Expr x)) (coded_expression (roll-Expr x))
expression_from Q x t = subst (λ p. Q p (coded_expression (roll-Expr x))) (sym (meant_expression_rolled x)) (subst (λ q. Q (meant_expression_of x) q) (sym (coded_expression_rolled x)) t)

pub function_from : (Q : means.Of_function → code.Of_function → Type 0) (x : FunctionTree-F ExprNode ForFirst ForInHead StmtNode Case Expr FunctionTree Stmt) → Q (meant_function_of x) (coded_function_of x) → Q (meant_function (roll-FunctionTree x)) (coded_function (roll-FunctionTree x))
function_from Q x t = subst (λ p. Q p (coded_function (roll-FunctionTree x))) (sym (meant_function_rolled x)) (subst (λ q. Q (meant_function_of x) q) (sym (coded_function_rolled x)) t)

pub statement_from : (Q : means.Of_statement → code.Of_statement → Type 0) (x : Stmt-F ExprNode ForFirst ForInHead StmtNode Case Expr FunctionTree Stmt) → Q (meant_statement_of x) (coded_statement_of x) → Q (meant_statement (roll-Stmt x)) (coded_statement (roll-Stmt x))
statement_from Q x t = subst (λ p. Q p (coded_statement (roll-Stmt x))) (sym (meant_statement_rolled x)) (subst (λ q. Q (meant_statement_of x) q) (sym (coded_statement_rolled x)) t)

-- ---- whole trees

pub meant_all : means.expression ≡ meant_expression
unfolding means.expression meant_expression
meant_all = refl

pub meant_statements : means.statement ≡ meant_statement
unfolding means.statement meant_statement
meant_statements = refl
