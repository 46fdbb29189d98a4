-- How many nodes each tree has, by the trees in it.
use Rattle.std.proofs.Common.{◌≡◌, ℕ, refl, sym, subst}
use Rattle.njs_tree.specs.declared.tree.ExprNode.{ExprNode}
use Rattle.njs_tree.specs.declared.tree.ForFirst.{ForFirst}
use Rattle.njs_tree.specs.declared.tree.ForInHead.{ForInHead}
use Rattle.njs_tree.specs.declared.tree.StmtNode.{StmtNode}
use Rattle.njs_tree.specs.declared.tree.Case.{Case}
use Rattle.njs_tree.specs.declared.tree.Expr.{Expr}
use Rattle.njs_tree.specs.declared.tree.FunctionTree.{FunctionTree}
use Rattle.njs_tree.specs.declared.tree.Stmt.{Stmt}
use Rattle.njs_tree.specs.declared.tree.ExprNode.TheOpen.{ExprNode-F, ForFirst-F, ForInHead-F, StmtNode-F, Case-F, Expr-F, FunctionTree-F, Stmt-F}
use Rattle.njs_tree.specs.declared.tree.ExprNode.TheViews.{roll-ExprNode, roll-ForFirst, roll-ForInHead, roll-StmtNode, roll-Case, roll-Expr, roll-FunctionTree, roll-Stmt}
use Rattle.njs_tree.specs.declared.tree.ExprNode.TheFolds.{map-ExprNode, fold-ExprNode, fold-roll-ExprNode, map-ForFirst, fold-ForFirst, fold-roll-ForFirst, map-ForInHead, fold-ForInHead, fold-roll-ForInHead, map-StmtNode, fold-StmtNode, fold-roll-StmtNode, map-Case, fold-Case, fold-roll-Case, map-Expr, fold-Expr, fold-roll-Expr, map-FunctionTree, fold-FunctionTree, fold-roll-FunctionTree, map-Stmt, fold-Stmt, fold-roll-Stmt}
use Rattle.njs_simul.specs.Compiled as code
use Rattle.njs_simul.specs.Counts.{node_count, first_count, head_count, statement_count, branch_count, expr_count, function_count, stmt_count, nodes_of_expression, nodes_of_statement}
use Rattle.njs_simul.proofs.CodedTrees.{coded_node, coded_first, coded_head, coded_statement_node, coded_branch, coded_expression, coded_function, coded_statement, coded_node_of, coded_node_rolled, coded_first_of, coded_first_rolled, coded_head_of, coded_head_rolled, coded_statement_node_of, coded_statement_node_rolled, coded_branch_of, coded_branch_rolled, coded_expression_of, coded_expression_rolled, coded_function_of, coded_function_rolled, coded_statement_of, coded_statement_rolled}

-- ---- how many

pub count_node : ExprNode → ℕ
count_node = fold-ExprNode ℕ ℕ ℕ ℕ ℕ ℕ ℕ ℕ node_count first_count head_count statement_count branch_count expr_count function_count stmt_count

pub count_first : ForFirst → ℕ
count_first = fold-ForFirst ℕ ℕ ℕ ℕ ℕ ℕ ℕ ℕ node_count first_count head_count statement_count branch_count expr_count function_count stmt_count

pub count_head : ForInHead → ℕ
count_head = fold-ForInHead ℕ ℕ ℕ ℕ ℕ ℕ ℕ ℕ node_count first_count head_count statement_count branch_count expr_count function_count stmt_count

pub count_statement_node : StmtNode → ℕ
count_statement_node = fold-StmtNode ℕ ℕ ℕ ℕ ℕ ℕ ℕ ℕ node_count first_count head_count statement_count branch_count expr_count function_count stmt_count

pub count_branch : Case → ℕ
count_branch = fold-Case ℕ ℕ ℕ ℕ ℕ ℕ ℕ ℕ node_count first_count head_count statement_count branch_count expr_count function_count stmt_count

pub count_expression : Expr → ℕ
count_expression = fold-Expr ℕ ℕ ℕ ℕ ℕ ℕ ℕ ℕ node_count first_count head_count statement_count branch_count expr_count function_count stmt_count

pub count_function : FunctionTree → ℕ
count_function = fold-FunctionTree ℕ ℕ ℕ ℕ ℕ ℕ ℕ ℕ node_count first_count head_count statement_count branch_count expr_count function_count stmt_count

pub count_statement : Stmt → ℕ
count_statement = fold-Stmt ℕ ℕ ℕ ℕ ℕ ℕ ℕ ℕ node_count first_count head_count statement_count branch_count expr_count function_count stmt_count

abbrev pub count_node_of : ExprNode-F ExprNode ForFirst ForInHead StmtNode Case Expr FunctionTree Stmt → ℕ
count_node_of x = node_count (map-ExprNode ExprNode ForFirst ForInHead StmtNode Case Expr FunctionTree Stmt ℕ ℕ ℕ ℕ ℕ ℕ ℕ ℕ count_node count_first count_head count_statement_node count_branch count_expression count_function count_statement x)

pub count_node_rolled : (x : ExprNode-F ExprNode ForFirst ForInHead StmtNode Case Expr FunctionTree Stmt) → count_node (roll-ExprNode x) ≡ count_node_of x
unfolding count_node count_first count_head count_statement_node count_branch count_expression count_function count_statement
count_node_rolled x = fold-roll-ExprNode ℕ ℕ ℕ ℕ ℕ ℕ ℕ ℕ node_count first_count head_count statement_count branch_count expr_count function_count stmt_count x

abbrev pub count_first_of : ForFirst-F ExprNode ForFirst ForInHead StmtNode Case Expr FunctionTree Stmt → ℕ
count_first_of x = first_count (map-ForFirst ExprNode ForFirst ForInHead StmtNode Case Expr FunctionTree Stmt ℕ ℕ ℕ ℕ ℕ ℕ ℕ ℕ count_node count_first count_head count_statement_node count_branch count_expression count_function count_statement x)

pub count_first_rolled : (x : ForFirst-F ExprNode ForFirst ForInHead StmtNode Case Expr FunctionTree Stmt) → count_first (roll-ForFirst x) ≡ count_first_of x
unfolding count_node count_first count_head count_statement_node count_branch count_expression count_function count_statement
count_first_rolled x = fold-roll-ForFirst ℕ ℕ ℕ ℕ ℕ ℕ ℕ ℕ node_count first_count head_count statement_count branch_count expr_count function_count stmt_count x

abbrev pub count_head_of : ForInHead-F ExprNode ForFirst ForInHead StmtNode Case Expr FunctionTree Stmt → ℕ
count_head_of x = head_count (map-ForInHead ExprNode ForFirst ForInHead StmtNode Case Expr FunctionTree Stmt ℕ ℕ ℕ ℕ ℕ ℕ ℕ ℕ count_node count_first count_head count_statement_node count_branch count_expression count_function count_statement x)

pub count_head_rolled : (x : ForInHead-F ExprNode ForFirst ForInHead StmtNode Case Expr FunctionTree Stmt) → count_head (roll-ForInHead x) ≡ count_head_of x
unfolding count_node count_first count_head count_statement_node count_branch count_expression count_function count_statement
count_head_rolled x = fold-roll-ForInHead ℕ ℕ ℕ ℕ ℕ ℕ ℕ ℕ node_count first_count head_count statement_count branch_count expr_count function_count stmt_count x

abbrev pub count_statement_node_of : StmtNode-F ExprNode ForFirst ForInHead StmtNode Case Expr FunctionTree Stmt → ℕ
count_statement_node_of x = statement_count (map-StmtNode ExprNode ForFirst ForInHead StmtNode Case Expr FunctionTree Stmt ℕ ℕ ℕ ℕ ℕ ℕ ℕ ℕ count_node count_first count_head count_statement_node count_branch count_expression count_function count_statement x)

pub count_statement_node_rolled : (x : StmtNode-F ExprNode ForFirst ForInHead StmtNode Case Expr FunctionTree Stmt) → count_statement_node (roll-StmtNode x) ≡ count_statement_node_of x
unfolding count_node count_first count_head count_statement_node count_branch count_expression count_function count_statement
count_statement_node_rolled x = fold-roll-StmtNode ℕ ℕ ℕ ℕ ℕ ℕ ℕ ℕ node_count first_count head_count statement_count branch_count expr_count function_count stmt_count x

abbrev pub count_branch_of : Case-F ExprNode ForFirst ForInHead StmtNode Case Expr FunctionTree Stmt → ℕ
count_branch_of x = branch_count (map-Case ExprNode ForFirst ForInHead StmtNode Case Expr FunctionTree Stmt ℕ ℕ ℕ ℕ ℕ ℕ ℕ ℕ count_node count_first count_head count_statement_node count_branch count_expression count_function count_statement x)

pub count_branch_rolled : (x : Case-F ExprNode ForFirst ForInHead StmtNode Case Expr FunctionTree Stmt) → count_branch (roll-Case x) ≡ count_branch_of x
unfolding count_node count_first count_head count_statement_node count_branch count_expression count_function count_statement
count_branch_rolled x = fold-roll-Case ℕ ℕ ℕ ℕ ℕ ℕ ℕ ℕ node_count first_count head_count statement_count branch_count expr_count function_count stmt_count x

abbrev pub count_expression_of : Expr-F ExprNode ForFirst ForInHead StmtNode Case Expr FunctionTree Stmt → ℕ
count_expression_of x = expr_count (map-Expr ExprNode ForFirst ForInHead StmtNode Case Expr FunctionTree Stmt ℕ ℕ ℕ ℕ ℕ ℕ ℕ ℕ count_node count_first count_head count_statement_node count_branch count_expression count_function count_statement x)

pub count_expression_rolled : (x : Expr-F ExprNode ForFirst ForInHead StmtNode Case Expr FunctionTree Stmt) → count_expression (roll-Expr x) ≡ count_expression_of x
unfolding count_node count_first count_head count_statement_node count_branch count_expression count_function count_statement
count_expression_rolled x = fold-roll-Expr ℕ ℕ ℕ ℕ ℕ ℕ ℕ ℕ node_count first_count head_count statement_count branch_count expr_count function_count stmt_count x

abbrev pub count_function_of : FunctionTree-F ExprNode ForFirst ForInHead StmtNode Case Expr FunctionTree Stmt → ℕ
count_function_of x = function_count (map-FunctionTree ExprNode ForFirst ForInHead StmtNode Case Expr FunctionTree Stmt ℕ ℕ ℕ ℕ ℕ ℕ ℕ ℕ count_node count_first count_head count_statement_node count_branch count_expression count_function count_statement x)

pub count_function_rolled : (x : FunctionTree-F ExprNode ForFirst ForInHead StmtNode Case Expr FunctionTree Stmt) → count_function (roll-FunctionTree x) ≡ count_function_of x
unfolding count_node count_first count_head count_statement_node count_branch count_expression count_function count_statement
count_function_rolled x = fold-roll-FunctionTree ℕ ℕ ℕ ℕ ℕ ℕ ℕ ℕ node_count first_count head_count statement_count branch_count expr_count function_count stmt_count x

abbrev pub count_statement_of : Stmt-F ExprNode ForFirst ForInHead StmtNode Case Expr FunctionTree Stmt → ℕ
count_statement_of x = stmt_count (map-Stmt ExprNode ForFirst ForInHead StmtNode Case Expr FunctionTree Stmt ℕ ℕ ℕ ℕ ℕ ℕ ℕ ℕ count_node count_first count_head count_statement_node count_branch count_expression count_function count_statement x)

pub count_statement_rolled : (x : Stmt-F ExprNode ForFirst ForInHead StmtNode Case Expr FunctionTree Stmt) → count_statement (roll-Stmt x) ≡ count_statement_of x
unfolding count_node count_first count_head count_statement_node count_branch count_expression count_function count_statement
count_statement_rolled x = fold-roll-Stmt ℕ ℕ ℕ ℕ ℕ ℕ ℕ ℕ node_count first_count head_count statement_count branch_count expr_count function_count stmt_count x

-- ---- with the code

pub node_from : (Q : ℕ → code.Of_expression → Type 0) (x : ExprNode-F ExprNode ForFirst ForInHead StmtNode Case Expr FunctionTree Stmt) → Q (count_node_of x) (coded_node_of x) → Q (count_node (roll-ExprNode x)) (coded_node (roll-ExprNode x))
node_from Q x t = subst (λ p. Q p (coded_node (roll-ExprNode x))) (sym (count_node_rolled x)) (subst (λ q. Q (count_node_of x) q) (sym (coded_node_rolled x)) t)

pub first_from : (Q : ℕ → code.Of_first → Type 0) (x : ForFirst-F ExprNode ForFirst ForInHead StmtNode Case Expr FunctionTree Stmt) → Q (count_first_of x) (coded_first_of x) → Q (count_first (roll-ForFirst x)) (coded_first (roll-ForFirst x))
first_from Q x t = subst (λ p. Q p (coded_first (roll-ForFirst x))) (sym (count_first_rolled x)) (subst (λ q. Q (count_first_of x) q) (sym (coded_first_rolled x)) t)

pub head_from : (Q : ℕ → code.Of_expression → Type 0) (x : ForInHead-F ExprNode ForFirst ForInHead StmtNode Case Expr FunctionTree Stmt) → Q (count_head_of x) (coded_head_of x) → Q (count_head (roll-ForInHead x)) (coded_head (roll-ForInHead x))
head_from Q x t = subst (λ p. Q p (coded_head (roll-ForInHead x))) (sym (count_head_rolled x)) (subst (λ q. Q (count_head_of x) q) (sym (coded_head_rolled x)) t)

pub statement_node_from : (Q : ℕ → code.Of_statement → Type 0) (x : StmtNode-F ExprNode ForFirst ForInHead StmtNode Case Expr FunctionTree Stmt) → Q (count_statement_node_of x) (coded_statement_node_of x) → Q (count_statement_node (roll-StmtNode x)) (coded_statement_node (roll-StmtNode x))
statement_node_from Q x t = subst (λ p. Q p (coded_statement_node (roll-StmtNode x))) (sym (count_statement_node_rolled x)) (subst (λ q. Q (count_statement_node_of x) q) (sym (coded_statement_node_rolled x)) t)

pub branch_from : (Q : ℕ → code.Of_branch → Type 0) (x : Case-F ExprNode ForFirst ForInHead StmtNode Case Expr FunctionTree Stmt) → Q (count_branch_of x) (coded_branch_of x) → Q (count_branch (roll-Case x)) (coded_branch (roll-Case x))
branch_from Q x t = subst (λ p. Q p (coded_branch (roll-Case x))) (sym (count_branch_rolled x)) (subst (λ q. Q (count_branch_of x) q) (sym (coded_branch_rolled x)) t)

pub expression_from : (Q : ℕ → code.Of_expression → Type 0) (x : Expr-F ExprNode ForFirst ForInHead StmtNode Case Expr FunctionTree Stmt) → Q (count_expression_of x) (coded_expression_of x) → Q (count_expression (roll-Expr x)) (coded_expression (roll-Expr x))
expression_from Q x t = subst (λ p. Q p (coded_expression (roll-Expr x))) (sym (count_expression_rolled x)) (subst (λ q. Q (count_expression_of x) q) (sym (coded_expression_rolled x)) t)

pub function_from : (Q : ℕ → code.Of_function → Type 0) (x : FunctionTree-F ExprNode ForFirst ForInHead StmtNode Case Expr FunctionTree Stmt) → Q (count_function_of x) (coded_function_of x) → Q (count_function (roll-FunctionTree x)) (coded_function (roll-FunctionTree x))
function_from Q x t = subst (λ p. Q p (coded_function (roll-FunctionTree x))) (sym (count_function_rolled x)) (subst (λ q. Q (count_function_of x) q) (sym (coded_function_rolled x)) t)

pub statement_from : (Q : ℕ → code.Of_statement → Type 0) (x : Stmt-F ExprNode ForFirst ForInHead StmtNode Case Expr FunctionTree Stmt) → Q (count_statement_of x) (coded_statement_of x) → Q (count_statement (roll-Stmt x)) (coded_statement (roll-Stmt x))
statement_from Q x t = subst (λ p. Q p (coded_statement (roll-Stmt x))) (sym (count_statement_rolled x)) (subst (λ q. Q (count_statement_of x) q) (sym (coded_statement_rolled x)) t)

-- ---- whole trees

pub count_all : nodes_of_expression ≡ count_expression
unfolding nodes_of_expression count_expression
count_all = refl

pub count_statements : nodes_of_statement ≡ count_statement
unfolding nodes_of_statement count_statement
count_statements = refl
