-- What each tree refuses early, by the trees in it.
use Rattle.std.proofs.Common.{◌≡◌, refl}
use Rattle.njs_tree.specs.declared.tree.ExprNode.{ExprNode}
use Rattle.njs_tree.specs.declared.tree.ForFirst.{ForFirst}
use Rattle.njs_tree.specs.declared.tree.ForInHead.{ForInHead}
use Rattle.njs_tree.specs.declared.tree.StmtNode.{StmtNode}
use Rattle.njs_tree.specs.declared.tree.Case.{Case}
use Rattle.njs_tree.specs.declared.tree.Expr.{Expr}
use Rattle.njs_tree.specs.declared.tree.FunctionTree.{FunctionTree}
use Rattle.njs_tree.specs.declared.tree.Stmt.{Stmt}
use Rattle.njs_tree.specs.declared.tree.ExprNode.TheOpen.{ExprNode-F, ForFirst-F, ForInHead-F, StmtNode-F, Case-F, Expr-F, FunctionTree-F, Stmt-F}
use Rattle.njs_tree.specs.declared.tree.ExprNode.TheViews.{roll-ExprNode, roll-ForFirst, roll-ForInHead, roll-StmtNode, roll-Case, roll-Expr, roll-FunctionTree, roll-Stmt}
use Rattle.njs_tree.specs.declared.tree.ExprNode.TheFolds.{map-ExprNode, fold-ExprNode, fold-roll-ExprNode, map-ForFirst, fold-ForFirst, fold-roll-ForFirst, map-ForInHead, fold-ForInHead, fold-roll-ForInHead, map-StmtNode, fold-StmtNode, fold-roll-StmtNode, map-Case, fold-Case, fold-roll-Case, map-Expr, fold-Expr, fold-roll-Expr, map-FunctionTree, fold-FunctionTree, fold-roll-FunctionTree, map-Stmt, fold-Stmt, fold-roll-Stmt}
use Rattle.njs_tree.specs.Early.{Refusals, OnLine, Seen, SeenNode, SeenHead, node_step, first_step, head_step, step_step, case_step, expr_step, function_step, stmt_step, seen, of_stmt}

pub seen_node : ExprNode → SeenNode
seen_node = fold-ExprNode SeenNode SeenHead SeenHead OnLine Refusals Seen OnLine Refusals node_step first_step head_step step_step case_step expr_step function_step stmt_step

pub seen_first : ForFirst → SeenHead
seen_first = fold-ForFirst SeenNode SeenHead SeenHead OnLine Refusals Seen OnLine Refusals node_step first_step head_step step_step case_step expr_step function_step stmt_step

pub seen_head : ForInHead → SeenHead
seen_head = fold-ForInHead SeenNode SeenHead SeenHead OnLine Refusals Seen OnLine Refusals node_step first_step head_step step_step case_step expr_step function_step stmt_step

pub seen_statement_node : StmtNode → OnLine
seen_statement_node = fold-StmtNode SeenNode SeenHead SeenHead OnLine Refusals Seen OnLine Refusals node_step first_step head_step step_step case_step expr_step function_step stmt_step

pub seen_branch : Case → Refusals
seen_branch = fold-Case SeenNode SeenHead SeenHead OnLine Refusals Seen OnLine Refusals node_step first_step head_step step_step case_step expr_step function_step stmt_step

pub seen_expression : Expr → Seen
seen_expression = fold-Expr SeenNode SeenHead SeenHead OnLine Refusals Seen OnLine Refusals node_step first_step head_step step_step case_step expr_step function_step stmt_step

pub seen_function : FunctionTree → OnLine
seen_function = fold-FunctionTree SeenNode SeenHead SeenHead OnLine Refusals Seen OnLine Refusals node_step first_step head_step step_step case_step expr_step function_step stmt_step

pub seen_statement : Stmt → Refusals
seen_statement = fold-Stmt SeenNode SeenHead SeenHead OnLine Refusals Seen OnLine Refusals node_step first_step head_step step_step case_step expr_step function_step stmt_step

abbrev pub seen_node_of : ExprNode-F ExprNode ForFirst ForInHead StmtNode Case Expr FunctionTree Stmt → SeenNode
seen_node_of x = node_step (map-ExprNode ExprNode ForFirst ForInHead StmtNode Case Expr FunctionTree Stmt SeenNode SeenHead SeenHead OnLine Refusals Seen OnLine Refusals seen_node seen_first seen_head seen_statement_node seen_branch seen_expression seen_function seen_statement x)

pub seen_node_rolled : (x : ExprNode-F ExprNode ForFirst ForInHead StmtNode Case Expr FunctionTree Stmt) → seen_node (roll-ExprNode x) ≡ seen_node_of x
unfolding seen_node seen_first seen_head seen_statement_node seen_branch seen_expression seen_function seen_statement
seen_node_rolled x = fold-roll-ExprNode SeenNode SeenHead SeenHead OnLine Refusals Seen OnLine Refusals node_step first_step head_step step_step case_step expr_step function_step stmt_step x

abbrev pub seen_first_of : ForFirst-F ExprNode ForFirst ForInHead StmtNode Case Expr FunctionTree Stmt → SeenHead
seen_first_of x = first_step (map-ForFirst ExprNode ForFirst ForInHead StmtNode Case Expr FunctionTree Stmt SeenNode SeenHead SeenHead OnLine Refusals Seen OnLine Refusals seen_node seen_first seen_head seen_statement_node seen_branch seen_expression seen_function seen_statement x)

pub seen_first_rolled : (x : ForFirst-F ExprNode ForFirst ForInHead StmtNode Case Expr FunctionTree Stmt) → seen_first (roll-ForFirst x) ≡ seen_first_of x
unfolding seen_node seen_first seen_head seen_statement_node seen_branch seen_expression seen_function seen_statement
seen_first_rolled x = fold-roll-ForFirst SeenNode SeenHead SeenHead OnLine Refusals Seen OnLine Refusals node_step first_step head_step step_step case_step expr_step function_step stmt_step x

abbrev pub seen_head_of : ForInHead-F ExprNode ForFirst ForInHead StmtNode Case Expr FunctionTree Stmt → SeenHead
seen_head_of x = head_step (map-ForInHead ExprNode ForFirst ForInHead StmtNode Case Expr FunctionTree Stmt SeenNode SeenHead SeenHead OnLine Refusals Seen OnLine Refusals seen_node seen_first seen_head seen_statement_node seen_branch seen_expression seen_function seen_statement x)

pub seen_head_rolled : (x : ForInHead-F ExprNode ForFirst ForInHead StmtNode Case Expr FunctionTree Stmt) → seen_head (roll-ForInHead x) ≡ seen_head_of x
unfolding seen_node seen_first seen_head seen_statement_node seen_branch seen_expression seen_function seen_statement
seen_head_rolled x = fold-roll-ForInHead SeenNode SeenHead SeenHead OnLine Refusals Seen OnLine Refusals node_step first_step head_step step_step case_step expr_step function_step stmt_step x

abbrev pub seen_statement_node_of : StmtNode-F ExprNode ForFirst ForInHead StmtNode Case Expr FunctionTree Stmt → OnLine
seen_statement_node_of x = step_step (map-StmtNode ExprNode ForFirst ForInHead StmtNode Case Expr FunctionTree Stmt SeenNode SeenHead SeenHead OnLine Refusals Seen OnLine Refusals seen_node seen_first seen_head seen_statement_node seen_branch seen_expression seen_function seen_statement x)

pub seen_statement_node_rolled : (x : StmtNode-F ExprNode ForFirst ForInHead StmtNode Case Expr FunctionTree Stmt) → seen_statement_node (roll-StmtNode x) ≡ seen_statement_node_of x
unfolding seen_node seen_first seen_head seen_statement_node seen_branch seen_expression seen_function seen_statement
seen_statement_node_rolled x = fold-roll-StmtNode SeenNode SeenHead SeenHead OnLine Refusals Seen OnLine Refusals node_step first_step head_step step_step case_step expr_step function_step stmt_step x

abbrev pub seen_branch_of : Case-F ExprNode ForFirst ForInHead StmtNode Case Expr FunctionTree Stmt → Refusals
seen_branch_of x = case_step (map-Case ExprNode ForFirst ForInHead StmtNode Case Expr FunctionTree Stmt SeenNode SeenHead SeenHead OnLine Refusals Seen OnLine Refusals seen_node seen_first seen_head seen_statement_node seen_branch seen_expression seen_function seen_statement x)

pub seen_branch_rolled : (x : Case-F ExprNode ForFirst ForInHead StmtNode Case Expr FunctionTree Stmt) → seen_branch (roll-Case x) ≡ seen_branch_of x
unfolding seen_node seen_first seen_head seen_statement_node seen_branch seen_expression seen_function seen_statement
seen_branch_rolled x = fold-roll-Case SeenNode SeenHead SeenHead OnLine Refusals Seen OnLine Refusals node_step first_step head_step step_step case_step expr_step function_step stmt_step x

abbrev pub seen_expression_of : Expr-F ExprNode ForFirst ForInHead StmtNode Case Expr FunctionTree Stmt → Seen
seen_expression_of x = expr_step (map-Expr ExprNode ForFirst ForInHead StmtNode Case Expr FunctionTree Stmt SeenNode SeenHead SeenHead OnLine Refusals Seen OnLine Refusals seen_node seen_first seen_head seen_statement_node seen_branch seen_expression seen_function seen_statement x)

pub seen_expression_rolled : (x : Expr-F ExprNode ForFirst ForInHead StmtNode Case Expr FunctionTree Stmt) → seen_expression (roll-Expr x) ≡ seen_expression_of x
unfolding seen_node seen_first seen_head seen_statement_node seen_branch seen_expression seen_function seen_statement
seen_expression_rolled x = fold-roll-Expr SeenNode SeenHead SeenHead OnLine Refusals Seen OnLine Refusals node_step first_step head_step step_step case_step expr_step function_step stmt_step x

abbrev pub seen_function_of : FunctionTree-F ExprNode ForFirst ForInHead StmtNode Case Expr FunctionTree Stmt → OnLine
seen_function_of x = function_step (map-FunctionTree ExprNode ForFirst ForInHead StmtNode Case Expr FunctionTree Stmt SeenNode SeenHead SeenHead OnLine Refusals Seen OnLine Refusals seen_node seen_first seen_head seen_statement_node seen_branch seen_expression seen_function seen_statement x)

pub seen_function_rolled : (x : FunctionTree-F ExprNode ForFirst ForInHead StmtNode Case Expr FunctionTree Stmt) → seen_function (roll-FunctionTree x) ≡ seen_function_of x
unfolding seen_node seen_first seen_head seen_statement_node seen_branch seen_expression seen_function seen_statement
seen_function_rolled x = fold-roll-FunctionTree SeenNode SeenHead SeenHead OnLine Refusals Seen OnLine Refusals node_step first_step head_step step_step case_step expr_step function_step stmt_step x

abbrev pub seen_statement_of : Stmt-F ExprNode ForFirst ForInHead StmtNode Case Expr FunctionTree Stmt → Refusals
seen_statement_of x = stmt_step (map-Stmt ExprNode ForFirst ForInHead StmtNode Case Expr FunctionTree Stmt SeenNode SeenHead SeenHead OnLine Refusals Seen OnLine Refusals seen_node seen_first seen_head seen_statement_node seen_branch seen_expression seen_function seen_statement x)

pub seen_statement_rolled : (x : Stmt-F ExprNode ForFirst ForInHead StmtNode Case Expr FunctionTree Stmt) → seen_statement (roll-Stmt x) ≡ seen_statement_of x
unfolding seen_node seen_first seen_head seen_statement_node seen_branch seen_expression seen_function seen_statement
seen_statement_rolled x = fold-roll-Stmt SeenNode SeenHead SeenHead OnLine Refusals Seen OnLine Refusals node_step first_step head_step step_step case_step expr_step function_step stmt_step x

pub seen_all : seen ≡ seen_expression
unfolding seen seen_expression
seen_all = refl

pub seen_statements : of_stmt ≡ seen_statement
unfolding of_stmt seen_statement
seen_statements = refl
