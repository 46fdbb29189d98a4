-- Whether each tree is sound, and its code, by the trees in it.
use Rattle.std.proofs.Common.{◌≡◌, Bool, refl, sym, subst}
use Rattle.njs_tree.specs.declared.tree.ExprNode.{ExprNode}
use Rattle.njs_tree.specs.declared.tree.ForFirst.{ForFirst}
use Rattle.njs_tree.specs.declared.tree.ForInHead.{ForInHead}
use Rattle.njs_tree.specs.declared.tree.StmtNode.{StmtNode}
use Rattle.njs_tree.specs.declared.tree.Case.{Case}
use Rattle.njs_tree.specs.declared.tree.Expr.{Expr}
use Rattle.njs_tree.specs.declared.tree.FunctionTree.{FunctionTree}
use Rattle.njs_tree.specs.declared.tree.Stmt.{Stmt}
use Rattle.njs_tree.specs.declared.tree.ExprNode.TheOpen.{ExprNode-F, ForFirst-F, ForInHead-F, StmtNode-F, Case-F, Expr-F, FunctionTree-F, Stmt-F}
use Rattle.njs_tree.specs.declared.tree.ExprNode.TheViews.{roll-ExprNode, roll-ForFirst, roll-ForInHead, roll-StmtNode, roll-Case, roll-Expr, roll-FunctionTree, roll-Stmt}
use Rattle.njs_tree.specs.declared.tree.ExprNode.TheFolds.{map-ExprNode, fold-ExprNode, fold-roll-ExprNode, map-ForFirst, fold-ForFirst, fold-roll-ForFirst, map-ForInHead, fold-ForInHead, fold-roll-ForInHead, map-StmtNode, fold-StmtNode, fold-roll-StmtNode, map-Case, fold-Case, fold-roll-Case, map-Expr, fold-Expr, fold-roll-Expr, map-FunctionTree, fold-FunctionTree, fold-roll-FunctionTree, map-Stmt, fold-Stmt, fold-roll-Stmt}
use Rattle.njs_simul.specs.Compiled as code
use Rattle.njs_simul.specs.Sound.{node_sound, first_sound, head_sound, statement_sound, branch_sound, expr_sound, function_sound, stmt_sound, is_sound_expression, is_sound_statement}
use Rattle.njs_simul.proofs.CodedTrees.{coded_node, coded_first, coded_head, coded_statement_node, coded_branch, coded_expression, coded_function, coded_statement, coded_node_of, coded_node_rolled, coded_first_of, coded_first_rolled, coded_head_of, coded_head_rolled, coded_statement_node_of, coded_statement_node_rolled, coded_branch_of, coded_branch_rolled, coded_expression_of, coded_expression_rolled, coded_function_of, coded_function_rolled, coded_statement_of, coded_statement_rolled}

-- ---- whether it is sound

pub sound_node : ExprNode → Bool
sound_node = fold-ExprNode Bool Bool Bool Bool Bool Bool Bool Bool node_sound first_sound head_sound statement_sound branch_sound expr_sound function_sound stmt_sound

pub sound_first : ForFirst → Bool
sound_first = fold-ForFirst Bool Bool Bool Bool Bool Bool Bool Bool node_sound first_sound head_sound statement_sound branch_sound expr_sound function_sound stmt_sound

pub sound_head : ForInHead → Bool
sound_head = fold-ForInHead Bool Bool Bool Bool Bool Bool Bool Bool node_sound first_sound head_sound statement_sound branch_sound expr_sound function_sound stmt_sound

pub sound_statement_node : StmtNode → Bool
sound_statement_node = fold-StmtNode Bool Bool Bool Bool Bool Bool Bool Bool node_sound first_sound head_sound statement_sound branch_sound expr_sound function_sound stmt_sound

pub sound_branch : Case → Bool
sound_branch = fold-Case Bool Bool Bool Bool Bool Bool Bool Bool node_sound first_sound head_sound statement_sound branch_sound expr_sound function_sound stmt_sound

pub sound_expression : Expr → Bool
sound_expression = fold-Expr Bool Bool Bool Bool Bool Bool Bool Bool node_sound first_sound head_sound statement_sound branch_sound expr_sound function_sound stmt_sound

pub sound_function : FunctionTree → Bool
sound_function = fold-FunctionTree Bool Bool Bool Bool Bool Bool Bool Bool node_sound first_sound head_sound statement_sound branch_sound expr_sound function_sound stmt_sound

pub sound_statement : Stmt → Bool
sound_statement = fold-Stmt Bool Bool Bool Bool Bool Bool Bool Bool node_sound first_sound head_sound statement_sound branch_sound expr_sound function_sound stmt_sound

abbrev pub sound_node_of : ExprNode-F ExprNode ForFirst ForInHead StmtNode Case Expr FunctionTree Stmt → Bool
sound_node_of x = node_sound (map-ExprNode ExprNode ForFirst ForInHead StmtNode Case Expr FunctionTree Stmt Bool Bool Bool Bool Bool Bool Bool Bool sound_node sound_first sound_head sound_statement_node sound_branch sound_expression sound_function sound_statement x)

pub sound_node_rolled : (x : ExprNode-F ExprNode ForFirst ForInHead StmtNode Case Expr FunctionTree Stmt) → sound_node (roll-ExprNode x) ≡ sound_node_of x
unfolding sound_node sound_first sound_head sound_statement_node sound_branch sound_expression sound_function sound_statement
sound_node_rolled x = fold-roll-ExprNode Bool Bool Bool Bool Bool Bool Bool Bool node_sound first_sound head_sound statement_sound branch_sound expr_sound function_sound stmt_sound x

abbrev pub sound_first_of : ForFirst-F ExprNode ForFirst ForInHead StmtNode Case Expr FunctionTree Stmt → Bool
sound_first_of x = first_sound (map-ForFirst ExprNode ForFirst ForInHead StmtNode Case Expr FunctionTree Stmt Bool Bool Bool Bool Bool Bool Bool Bool sound_node sound_first sound_head sound_statement_node sound_branch sound_expression sound_function sound_statement x)

pub sound_first_rolled : (x : ForFirst-F ExprNode ForFirst ForInHead StmtNode Case Expr FunctionTree Stmt) → sound_first (roll-ForFirst x) ≡ sound_first_of x
unfolding sound_node sound_first sound_head sound_statement_node sound_branch sound_expression sound_function sound_statement
sound_first_rolled x = fold-roll-ForFirst Bool Bool Bool Bool Bool Bool Bool Bool node_sound first_sound head_sound statement_sound branch_sound expr_sound function_sound stmt_sound x

abbrev pub sound_head_of : ForInHead-F ExprNode ForFirst ForInHead StmtNode Case Expr FunctionTree Stmt → Bool
sound_head_of x = head_sound (map-ForInHead ExprNode ForFirst ForInHead StmtNode Case Expr FunctionTree Stmt Bool Bool Bool Bool Bool Bool Bool Bool sound_node sound_first sound_head sound_statement_node sound_branch sound_expression sound_function sound_statement x)

pub sound_head_rolled : (x : ForInHead-F ExprNode ForFirst ForInHead StmtNode Case Expr FunctionTree Stmt) → sound_head (roll-ForInHead x) ≡ sound_head_of x
unfolding sound_node sound_first sound_head sound_statement_node sound_branch sound_expression sound_function sound_statement
sound_head_rolled x = fold-roll-ForInHead Bool Bool Bool Bool Bool Bool Bool Bool node_sound first_sound head_sound statement_sound branch_sound expr_sound function_sound stmt_sound x

abbrev pub sound_statement_node_of : StmtNode-F ExprNode ForFirst ForInHead StmtNode Case Expr FunctionTree Stmt → Bool
sound_statement_node_of x = statement_sound (map-StmtNode ExprNode ForFirst ForInHead StmtNode Case Expr FunctionTree Stmt Bool Bool Bool Bool Bool Bool Bool Bool sound_node sound_first sound_head sound_statement_node sound_branch sound_expression sound_function sound_statement x)

pub sound_statement_node_rolled : (x : StmtNode-F ExprNode ForFirst ForInHead StmtNode Case Expr FunctionTree Stmt) → sound_statement_node (roll-StmtNode x) ≡ sound_statement_node_of x
unfolding sound_node sound_first sound_head sound_statement_node sound_branch sound_expression sound_function sound_statement
sound_statement_node_rolled x = fold-roll-StmtNode Bool Bool Bool Bool Bool Bool Bool Bool node_sound first_sound head_sound statement_sound branch_sound expr_sound function_sound stmt_sound x

abbrev pub sound_branch_of : Case-F ExprNode ForFirst ForInHead StmtNode Case Expr FunctionTree Stmt → Bool
sound_branch_of x = branch_sound (map-Case ExprNode ForFirst ForInHead StmtNode Case Expr FunctionTree Stmt Bool Bool Bool Bool Bool Bool Bool Bool sound_node sound_first sound_head sound_statement_node sound_branch sound_expression sound_function sound_statement x)

pub sound_branch_rolled : (x : Case-F ExprNode ForFirst ForInHead StmtNode Case Expr FunctionTree Stmt) → sound_branch (roll-Case x) ≡ sound_branch_of x
unfolding sound_node sound_first sound_head sound_statement_node sound_branch sound_expression sound_function sound_statement
sound_branch_rolled x = fold-roll-Case Bool Bool Bool Bool Bool Bool Bool Bool node_sound first_sound head_sound statement_sound branch_sound expr_sound function_sound stmt_sound x

abbrev pub sound_expression_of : Expr-F ExprNode ForFirst ForInHead StmtNode Case Expr FunctionTree Stmt → Bool
sound_expression_of x = expr_sound (map-Expr ExprNode ForFirst ForInHead StmtNode Case Expr FunctionTree Stmt Bool Bool Bool Bool Bool Bool Bool Bool sound_node sound_first sound_head sound_statement_node sound_branch sound_expression sound_function sound_statement x)

pub sound_expression_rolled : (x : Expr-F ExprNode ForFirst ForInHead StmtNode Case Expr FunctionTree Stmt) → sound_expression (roll-Expr x) ≡ sound_expression_of x
unfolding sound_node sound_first sound_head sound_statement_node sound_branch sound_expression sound_function sound_statement
sound_expression_rolled x = fold-roll-Expr Bool Bool Bool Bool Bool Bool Bool Bool node_sound first_sound head_sound statement_sound branch_sound expr_sound function_sound stmt_sound x

abbrev pub sound_function_of : FunctionTree-F ExprNode ForFirst ForInHead StmtNode Case Expr FunctionTree Stmt → Bool
sound_function_of x = function_sound (map-FunctionTree ExprNode ForFirst ForInHead StmtNode Case Expr FunctionTree Stmt Bool Bool Bool Bool Bool Bool Bool Bool sound_node sound_first sound_head sound_statement_node sound_branch sound_expression sound_function sound_statement x)

pub sound_function_rolled : (x : FunctionTree-F ExprNode ForFirst ForInHead StmtNode Case Expr FunctionTree Stmt) → sound_function (roll-FunctionTree x) ≡ sound_function_of x
unfolding sound_node sound_first sound_head sound_statement_node sound_branch sound_expression sound_function sound_statement
sound_function_rolled x = fold-roll-FunctionTree Bool Bool Bool Bool Bool Bool Bool Bool node_sound first_sound head_sound statement_sound branch_sound expr_sound function_sound stmt_sound x

abbrev pub sound_statement_of : Stmt-F ExprNode ForFirst ForInHead StmtNode Case Expr FunctionTree Stmt → Bool
sound_statement_of x = stmt_sound (map-Stmt ExprNode ForFirst ForInHead StmtNode Case Expr FunctionTree Stmt Bool Bool Bool Bool Bool Bool Bool Bool sound_node sound_first sound_head sound_statement_node sound_branch sound_expression sound_function sound_statement x)

pub sound_statement_rolled : (x : Stmt-F ExprNode ForFirst ForInHead StmtNode Case Expr FunctionTree Stmt) → sound_statement (roll-Stmt x) ≡ sound_statement_of x
unfolding sound_node sound_first sound_head sound_statement_node sound_branch sound_expression sound_function sound_statement
sound_statement_rolled x = fold-roll-Stmt Bool Bool Bool Bool Bool Bool Bool Bool node_sound first_sound head_sound statement_sound branch_sound expr_sound function_sound stmt_sound x

-- ---- what holds of both, by the trees in it

pub node_from : (Q : Bool → code.Of_expression → Type 0) (x : ExprNode-F ExprNode ForFirst ForInHead StmtNode Case Expr FunctionTree Stmt) → Q (sound_node_of x) (coded_node_of x) → Q (sound_node (roll-ExprNode x)) (coded_node (roll-ExprNode x))
node_from Q x t = subst (λ p. Q p (coded_node (roll-ExprNode x))) (sym (sound_node_rolled x)) (subst (λ q. Q (sound_node_of x) q) (sym (coded_node_rolled x)) t)

pub first_from : (Q : Bool → code.Of_first → Type 0) (x : ForFirst-F ExprNode ForFirst ForInHead StmtNode Case Expr FunctionTree Stmt) → Q (sound_first_of x) (coded_first_of x) → Q (sound_first (roll-ForFirst x)) (coded_first (roll-ForFirst x))
first_from Q x t = subst (λ p. Q p (coded_first (roll-ForFirst x))) (sym (sound_first_rolled x)) (subst (λ q. Q (sound_first_of x) q) (sym (coded_first_rolled x)) t)

pub head_from : (Q : Bool → code.Of_expression → Type 0) (x : ForInHead-F ExprNode ForFirst ForInHead StmtNode Case Expr FunctionTree Stmt) → Q (sound_head_of x) (coded_head_of x) → Q (sound_head (roll-ForInHead x)) (coded_head (roll-ForInHead x))
head_from Q x t = subst (λ p. Q p (coded_head (roll-ForInHead x))) (sym (sound_head_rolled x)) (subst (λ q. Q (sound_head_of x) q) (sym (coded_head_rolled x)) t)

pub statement_node_from : (Q : Bool → code.Of_statement → Type 0) (x : StmtNode-F ExprNode ForFirst ForInHead StmtNode Case Expr FunctionTree Stmt) → Q (sound_statement_node_of x) (coded_statement_node_of x) → Q (sound_statement_node (roll-StmtNode x)) (coded_statement_node (roll-StmtNode x))
statement_node_from Q x t = subst (λ p. Q p (coded_statement_node (roll-StmtNode x))) (sym (sound_statement_node_rolled x)) (subst (λ q. Q (sound_statement_node_of x) q) (sym (coded_statement_node_rolled x)) t)

pub branch_from : (Q : Bool → code.Of_branch → Type 0) (x : Case-F ExprNode ForFirst ForInHead StmtNode Case Expr FunctionTree Stmt) → Q (sound_branch_of x) (coded_branch_of x) → Q (sound_branch (roll-Case x)) (coded_branch (roll-Case x))
branch_from Q x t = subst (λ p. Q p (coded_branch (roll-Case x))) (sym (sound_branch_rolled x)) (subst (λ q. Q (sound_branch_of x) q) (sym (coded_branch_rolled x)) t)

pub expression_from : (Q : Bool → code.Of_expression → Type 0) (x : Expr-F ExprNode ForFirst ForInHead StmtNode Case Expr FunctionTree Stmt) → Q (sound_expression_of x) (coded_expression_of x) → Q (sound_expression (roll-Expr x)) (coded_expression (roll-Expr x))
expression_from Q x t = subst (λ p. Q p (coded_expression (roll-Expr x))) (sym (sound_expression_rolled x)) (subst (λ q. Q (sound_expression_of x) q) (sym (coded_expression_rolled x)) t)

pub function_from : (Q : Bool → code.Of_function → Type 0) (x : FunctionTree-F ExprNode ForFirst ForInHead StmtNode Case Expr FunctionTree Stmt) → Q (sound_function_of x) (coded_function_of x) → Q (sound_function (roll-FunctionTree x)) (coded_function (roll-FunctionTree x))
function_from Q x t = subst (λ p. Q p (coded_function (roll-FunctionTree x))) (sym (sound_function_rolled x)) (subst (λ q. Q (sound_function_of x) q) (sym (coded_function_rolled x)) t)

pub statement_from : (Q : Bool → code.Of_statement → Type 0) (x : Stmt-F ExprNode ForFirst ForInHead StmtNode Case Expr FunctionTree Stmt) → Q (sound_statement_of x) (coded_statement_of x) → Q (sound_statement (roll-Stmt x)) (coded_statement (roll-Stmt x))
statement_from Q x t = subst (λ p. Q p (coded_statement (roll-Stmt x))) (sym (sound_statement_rolled x)) (subst (λ q. Q (sound_statement_of x) q) (sym (coded_statement_rolled x)) t)

-- ---- whole trees

pub sound_all : is_sound_expression ≡ sound_expression
unfolding is_sound_expression sound_expression
sound_all = refl

pub sound_statements : is_sound_statement ≡ sound_statement
unfolding is_sound_statement sound_statement
sound_statements = refl
