-- The code of each tree, by the trees in it.
use Rattle.std.proofs.Common.{◌≡◌, refl}
use Rattle.njs_tree.specs.declared.tree.ExprNode.{ExprNode}
use Rattle.njs_tree.specs.declared.tree.ForFirst.{ForFirst}
use Rattle.njs_tree.specs.declared.tree.ForInHead.{ForInHead}
use Rattle.njs_tree.specs.declared.tree.StmtNode.{StmtNode}
use Rattle.njs_tree.specs.declared.tree.Case.{Case}
use Rattle.njs_tree.specs.declared.tree.Expr.{Expr}
use Rattle.njs_tree.specs.declared.tree.FunctionTree.{FunctionTree}
use Rattle.njs_tree.specs.declared.tree.Stmt.{Stmt}
use Rattle.njs_tree.specs.declared.tree.ExprNode.TheOpen.{ExprNode-F, ForFirst-F, ForInHead-F, StmtNode-F, Case-F, Expr-F, FunctionTree-F, Stmt-F}
use Rattle.njs_tree.specs.declared.tree.ExprNode.TheViews.{roll-ExprNode, roll-ForFirst, roll-ForInHead, roll-StmtNode, roll-Case, roll-Expr, roll-FunctionTree, roll-Stmt}
use Rattle.njs_tree.specs.declared.tree.ExprNode.TheFolds.{map-ExprNode, fold-ExprNode, fold-roll-ExprNode, map-ForFirst, fold-ForFirst, fold-roll-ForFirst, map-ForInHead, fold-ForInHead, fold-roll-ForInHead, map-StmtNode, fold-StmtNode, fold-roll-StmtNode, map-Case, fold-Case, fold-roll-Case, map-Expr, fold-Expr, fold-roll-Expr, map-FunctionTree, fold-FunctionTree, fold-roll-FunctionTree, map-Stmt, fold-Stmt, fold-roll-Stmt}
use Rattle.njs_simul.specs.Compiled as code

pub coded_node : ExprNode → code.Of_expression
coded_node = fold-ExprNode code.Of_expression code.Of_first code.Of_expression code.Of_statement code.Of_branch code.Of_expression code.Of_function code.Of_statement code.node_part code.first_part code.head_part code.statement_part code.branch_part code.expr_part code.function_part code.stmt_part

pub coded_first : ForFirst → code.Of_first
coded_first = fold-ForFirst code.Of_expression code.Of_first code.Of_expression code.Of_statement code.Of_branch code.Of_expression code.Of_function code.Of_statement code.node_part code.first_part code.head_part code.statement_part code.branch_part code.expr_part code.function_part code.stmt_part

pub coded_head : ForInHead → code.Of_expression
coded_head = fold-ForInHead code.Of_expression code.Of_first code.Of_expression code.Of_statement code.Of_branch code.Of_expression code.Of_function code.Of_statement code.node_part code.first_part code.head_part code.statement_part code.branch_part code.expr_part code.function_part code.stmt_part

pub coded_statement_node : StmtNode → code.Of_statement
coded_statement_node = fold-StmtNode code.Of_expression code.Of_first code.Of_expression code.Of_statement code.Of_branch code.Of_expression code.Of_function code.Of_statement code.node_part code.first_part code.head_part code.statement_part code.branch_part code.expr_part code.function_part code.stmt_part

pub coded_branch : Case → code.Of_branch
coded_branch = fold-Case code.Of_expression code.Of_first code.Of_expression code.Of_statement code.Of_branch code.Of_expression code.Of_function code.Of_statement code.node_part code.first_part code.head_part code.statement_part code.branch_part code.expr_part code.function_part code.stmt_part

pub coded_expression : Expr → code.Of_expression
coded_expression = fold-Expr code.Of_expression code.Of_first code.Of_expression code.Of_statement code.Of_branch code.Of_expression code.Of_function code.Of_statement code.node_part code.first_part code.head_part code.statement_part code.branch_part code.expr_part code.function_part code.stmt_part

pub coded_function : FunctionTree → code.Of_function
coded_function = fold-FunctionTree code.Of_expression code.Of_first code.Of_expression code.Of_statement code.Of_branch code.Of_expression code.Of_function code.Of_statement code.node_part code.first_part code.head_part code.statement_part code.branch_part code.expr_part code.function_part code.stmt_part

pub coded_statement : Stmt → code.Of_statement
coded_statement = fold-Stmt code.Of_expression code.Of_first code.Of_expression code.Of_statement code.Of_branch code.Of_expression code.Of_function code.Of_statement code.node_part code.first_part code.head_part code.statement_part code.branch_part code.expr_part code.function_part code.stmt_part

abbrev pub coded_node_of : ExprNode-F ExprNode ForFirst ForInHead StmtNode Case Expr FunctionTree Stmt → code.Of_expression
coded_node_of x = code.node_part (map-ExprNode ExprNode ForFirst ForInHead StmtNode Case Expr FunctionTree Stmt code.Of_expression code.Of_first code.Of_expression code.Of_statement code.Of_branch code.Of_expression code.Of_function code.Of_statement coded_node coded_first coded_head coded_statement_node coded_branch coded_expression coded_function coded_statement x)

pub coded_node_rolled : (x : ExprNode-F ExprNode ForFirst ForInHead StmtNode Case Expr FunctionTree Stmt) → coded_node (roll-ExprNode x) ≡ coded_node_of x
unfolding coded_node coded_first coded_head coded_statement_node coded_branch coded_expression coded_function coded_statement
coded_node_rolled x = fold-roll-ExprNode code.Of_expression code.Of_first code.Of_expression code.Of_statement code.Of_branch code.Of_expression code.Of_function code.Of_statement code.node_part code.first_part code.head_part code.statement_part code.branch_part code.expr_part code.function_part code.stmt_part x

abbrev pub coded_first_of : ForFirst-F ExprNode ForFirst ForInHead StmtNode Case Expr FunctionTree Stmt → code.Of_first
coded_first_of x = code.first_part (map-ForFirst ExprNode ForFirst ForInHead StmtNode Case Expr FunctionTree Stmt code.Of_expression code.Of_first code.Of_expression code.Of_statement code.Of_branch code.Of_expression code.Of_function code.Of_statement coded_node coded_first coded_head coded_statement_node coded_branch coded_expression coded_function coded_statement x)

pub coded_first_rolled : (x : ForFirst-F ExprNode ForFirst ForInHead StmtNode Case Expr FunctionTree Stmt) → coded_first (roll-ForFirst x) ≡ coded_first_of x
unfolding coded_node coded_first coded_head coded_statement_node coded_branch coded_expression coded_function coded_statement
coded_first_rolled x = fold-roll-ForFirst code.Of_expression code.Of_first code.Of_expression code.Of_statement code.Of_branch code.Of_expression code.Of_function code.Of_statement code.node_part code.first_part code.head_part code.statement_part code.branch_part code.expr_part code.function_part code.stmt_part x

abbrev pub coded_head_of : ForInHead-F ExprNode ForFirst ForInHead StmtNode Case Expr FunctionTree Stmt → code.Of_expression
coded_head_of x = code.head_part (map-ForInHead ExprNode ForFirst ForInHead StmtNode Case Expr FunctionTree Stmt code.Of_expression code.Of_first code.Of_expression code.Of_statement code.Of_branch code.Of_expression code.Of_function code.Of_statement coded_node coded_first coded_head coded_statement_node coded_branch coded_expression coded_function coded_statement x)

pub coded_head_rolled : (x : ForInHead-F ExprNode ForFirst ForInHead StmtNode Case Expr FunctionTree Stmt) → coded_head (roll-ForInHead x) ≡ coded_head_of x
unfolding coded_node coded_first coded_head coded_statement_node coded_branch coded_expression coded_function coded_statement
coded_head_rolled x = fold-roll-ForInHead code.Of_expression code.Of_first code.Of_expression code.Of_statement code.Of_branch code.Of_expression code.Of_function code.Of_statement code.node_part code.first_part code.head_part code.statement_part code.branch_part code.expr_part code.function_part code.stmt_part x

abbrev pub coded_statement_node_of : StmtNode-F ExprNode ForFirst ForInHead StmtNode Case Expr FunctionTree Stmt → code.Of_statement
coded_statement_node_of x = code.statement_part (map-StmtNode ExprNode ForFirst ForInHead StmtNode Case Expr FunctionTree Stmt code.Of_expression code.Of_first code.Of_expression code.Of_statement code.Of_branch code.Of_expression code.Of_function code.Of_statement coded_node coded_first coded_head coded_statement_node coded_branch coded_expression coded_function coded_statement x)

pub coded_statement_node_rolled : (x : StmtNode-F ExprNode ForFirst ForInHead StmtNode Case Expr FunctionTree Stmt) → coded_statement_node (roll-StmtNode x) ≡ coded_statement_node_of x
unfolding coded_node coded_first coded_head coded_statement_node coded_branch coded_expression coded_function coded_statement
coded_statement_node_rolled x = fold-roll-StmtNode code.Of_expression code.Of_first code.Of_expression code.Of_statement code.Of_branch code.Of_expression code.Of_function code.Of_statement code.node_part code.first_part code.head_part code.statement_part code.branch_part code.expr_part code.function_part code.stmt_part x

abbrev pub coded_branch_of : Case-F ExprNode ForFirst ForInHead StmtNode Case Expr FunctionTree Stmt → code.Of_branch
coded_branch_of x = code.branch_part (map-Case ExprNode ForFirst ForInHead StmtNode Case Expr FunctionTree Stmt code.Of_expression code.Of_first code.Of_expression code.Of_statement code.Of_branch code.Of_expression code.Of_function code.Of_statement coded_node coded_first coded_head coded_statement_node coded_branch coded_expression coded_function coded_statement x)

pub coded_branch_rolled : (x : Case-F ExprNode ForFirst ForInHead StmtNode Case Expr FunctionTree Stmt) → coded_branch (roll-Case x) ≡ coded_branch_of x
unfolding coded_node coded_first coded_head coded_statement_node coded_branch coded_expression coded_function coded_statement
coded_branch_rolled x = fold-roll-Case code.Of_expression code.Of_first code.Of_expression code.Of_statement code.Of_branch code.Of_expression code.Of_function code.Of_statement code.node_part code.first_part code.head_part code.statement_part code.branch_part code.expr_part code.function_part code.stmt_part x

abbrev pub coded_expression_of : Expr-F ExprNode ForFirst ForInHead StmtNode Case Expr FunctionTree Stmt → code.Of_expression
coded_expression_of x = code.expr_part (map-Expr ExprNode ForFirst ForInHead StmtNode Case Expr FunctionTree Stmt code.Of_expression code.Of_first code.Of_expression code.Of_statement code.Of_branch code.Of_expression code.Of_function code.Of_statement coded_node coded_first coded_head coded_statement_node coded_branch coded_expression coded_function coded_statement x)

pub coded_expression_rolled : (x : Expr-F ExprNode ForFirst ForInHead StmtNode Case Expr FunctionTree Stmt) → coded_expression (roll-Expr x) ≡ coded_expression_of x
unfolding coded_node coded_first coded_head coded_statement_node coded_branch coded_expression coded_function coded_statement
coded_expression_rolled x = fold-roll-Expr code.Of_expression code.Of_first code.Of_expression code.Of_statement code.Of_branch code.Of_expression code.Of_function code.Of_statement code.node_part code.first_part code.head_part code.statement_part code.branch_part code.expr_part code.function_part code.stmt_part x

abbrev pub coded_function_of : FunctionTree-F ExprNode ForFirst ForInHead StmtNode Case Expr FunctionTree Stmt → code.Of_function
coded_function_of x = code.function_part (map-FunctionTree ExprNode ForFirst ForInHead StmtNode Case Expr FunctionTree Stmt code.Of_expression code.Of_first code.Of_expression code.Of_statement code.Of_branch code.Of_expression code.Of_function code.Of_statement coded_node coded_first coded_head coded_statement_node coded_branch coded_expression coded_function coded_statement x)

pub coded_function_rolled : (x : FunctionTree-F ExprNode ForFirst ForInHead StmtNode Case Expr FunctionTree Stmt) → coded_function (roll-FunctionTree x) ≡ coded_function_of x
unfolding coded_node coded_first coded_head coded_statement_node coded_branch coded_expression coded_function coded_statement
coded_function_rolled x = fold-roll-FunctionTree code.Of_expression code.Of_first code.Of_expression code.Of_statement code.Of_branch code.Of_expression code.Of_function code.Of_statement code.node_part code.first_part code.head_part code.statement_part code.branch_part code.expr_part code.function_part code.stmt_part x

abbrev pub coded_statement_of : Stmt-F ExprNode ForFirst ForInHead StmtNode Case Expr FunctionTree Stmt → code.Of_statement
coded_statement_of x = code.stmt_part (map-Stmt ExprNode ForFirst ForInHead StmtNode Case Expr FunctionTree Stmt code.Of_expression code.Of_first code.Of_expression code.Of_statement code.Of_branch code.Of_expression code.Of_function code.Of_statement coded_node coded_first coded_head coded_statement_node coded_branch coded_expression coded_function coded_statement x)

pub coded_statement_rolled : (x : Stmt-F ExprNode ForFirst ForInHead StmtNode Case Expr FunctionTree Stmt) → coded_statement (roll-Stmt x) ≡ coded_statement_of x
unfolding coded_node coded_first coded_head coded_statement_node coded_branch coded_expression coded_function coded_statement
coded_statement_rolled x = fold-roll-Stmt code.Of_expression code.Of_first code.Of_expression code.Of_statement code.Of_branch code.Of_expression code.Of_function code.Of_statement code.node_part code.first_part code.head_part code.statement_part code.branch_part code.expr_part code.function_part code.stmt_part x

pub coded_all : code.expression ≡ coded_expression
unfolding code.expression coded_expression
coded_all = refl

pub coded_statements : code.statement ≡ coded_statement
unfolding code.statement coded_statement
coded_statements = refl
