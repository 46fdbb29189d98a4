-- The nodes of trees, by their cases.
use Rattle.std.specs.Prelude.{ℕ, ℤ, pos, Bool, false, ◌==◌}
use Rattle.njs_tree.specs.declared.tree.Expr.{Expr, out-Expr}
use Rattle.njs_tree.specs.declared.tree.ExprNode.{ExprNode, ExprNode-F, out-ExprNode}
use Rattle.njs_tree.specs.declared.tree.Stmt.{Stmt, out-Stmt}
use Rattle.njs_tree.specs.declared.tree.StmtNode.{StmtNode, StmtNode-F, out-StmtNode}
use Rattle.njs_tree.specs.declared.tree.ForFirst.{ForFirst}
use Rattle.njs_tree.specs.declared.tree.ForInHead.{ForInHead}
use Rattle.njs_tree.specs.declared.tree.Case.{Case}
use Rattle.njs_tree.specs.declared.tree.FunctionTree.{FunctionTree}

abbrev pub ExprCases : Type 0
ExprCases = ExprNode-F ExprNode ForFirst ForInHead StmtNode Case Expr FunctionTree Stmt

abbrev pub StmtCases : Type 0
StmtCases = StmtNode-F ExprNode ForFirst ForInHead StmtNode Case Expr FunctionTree Stmt

abbrev pub expr_node : Expr → ExprCases
expr_node e = out-ExprNode (out-Expr e).node

abbrev pub stmt_node : Stmt → StmtCases
stmt_node s = out-StmtNode (out-Stmt s).node

-- the status 200, the one that handlers answer so far
abbrev pub is_ok_status : ℤ → Bool
is_ok_status (pos n) = n == 200
is_ok_status _ = false
