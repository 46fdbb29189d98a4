-- What every tree means, and the functions in it, end from every state as the calls in them do: by induction on trees.
use Rattle.std.proofs.Common.{◌≡◌, ℕ, List, [], ◌∷◌, map, Option, Some, None, sym, subst}
use Rattle.njs_tree.specs.declared.tree.ExprNode.{ExprNode}
use Rattle.njs_tree.specs.declared.tree.ForFirst.{ForFirst}
use Rattle.njs_tree.specs.declared.tree.ForInHead.{ForInHead}
use Rattle.njs_tree.specs.declared.tree.StmtNode.{StmtNode}
use Rattle.njs_tree.specs.declared.tree.Case.{Case}
use Rattle.njs_tree.specs.declared.tree.Expr.{Expr}
use Rattle.njs_tree.specs.declared.tree.FunctionTree.{FunctionTree}
use Rattle.njs_tree.specs.declared.tree.Stmt.{Stmt}
use Rattle.njs_tree.specs.declared.tree.ExprNode.TheOpen.{ExprNode-F, ForFirst-F, ForInHead-F, StmtNode-F, Case-F, Expr-F, FunctionTree-F, Stmt-F}
use Rattle.njs_tree.specs.declared.tree.ExprNode.TheShapes.{former-ExprNode-Array-0, former-ExprNode-Object-0, former-ForFirst-Var-0, former-StmtNode-Block-0, former-StmtNode-If-2, former-StmtNode-For-0, former-StmtNode-For-1, former-StmtNode-Switch-1, former-StmtNode-Try-1, former-StmtNode-Try-2}
use Rattle.njs_tree.specs.declared.tree.ExprNode.TheViews.{roll-ExprNode, roll-ForFirst, roll-ForInHead, roll-StmtNode, roll-Case, roll-Expr, roll-FunctionTree, roll-Stmt}
use Rattle.njs_tree.specs.declared.tree.ExprNode.TheFolds.{map-ExprNode, map-ForFirst, map-ForInHead, map-StmtNode, map-Case, map-Expr, map-FunctionTree, map-Stmt, ind-Expr, ind-Stmt}
use Rattle.njs_meaning.specs.State.{State, Gives}
use Rattle.njs_meaning.specs.Primitives.{Null, Truth, Number, Characters}
use Rattle.njs_meaning.specs.Values.{Simple}
use Rattle.njs_meaning.specs.References.{Expression, Named}
use Rattle.njs_meaning.specs.Completions.{Normal, Broken, Continued, in_turn}
use Rattle.njs_meaning.specs.Parts.{one, two, each}
use Rattle.njs_meaning.specs.Meaning as means
use Rattle.njs_simul.proofs.AskingSteps.{IsThrough}
use Rattle.njs_simul.proofs.AlwaysExpressions as expr
use Rattle.njs_simul.proofs.AlwaysExpressions.{Every, IfAny, Always}
use Rattle.njs_simul.proofs.AlwaysStatements as stmt
use Rattle.njs_simul.proofs.AlwaysStatements.{StatementAlways, EachStatementAlways, CaughtAlways, LastAlways, BranchAlways}
use Rattle.njs_simul.proofs.AlwaysParts.{Whatever, PartAlways, part_leaf, part_one, part_two, part_three, part_four, part_each, part_held, part_each_named, part_each_held, part_each_named_held, part_vars, part_undeclared, part_declaration, part_function}
use Rattle.njs_simul.proofs.Trees.{meant_all, meant_statements, meant_node, meant_node_of, node_from, meant_first, meant_first_of, first_from, meant_head, meant_head_of, head_from, meant_statement_node, meant_statement_node_of, statement_node_from, meant_branch, meant_branch_of, branch_from, meant_expression, meant_expression_of, expression_from, meant_function, meant_function_of, function_from, meant_statement, meant_statement_of, statement_from}

module _ (R : State → State → Type 0) (through : IsThrough R) where
  -- ---- what is so of each tree

  abbrev AlwaysExprNode : ExprNode → Type 0
  AlwaysExprNode x = PartAlways R (Always R) (meant_node x)

  abbrev AlwaysForFirst : ForFirst → Type 0
  AlwaysForFirst x = PartAlways R (Always R) (meant_first x)

  abbrev AlwaysForInHead : ForInHead → Type 0
  AlwaysForInHead x = PartAlways R (Always R) (meant_head x)

  abbrev AlwaysStmtNode : StmtNode → Type 0
  AlwaysStmtNode x = PartAlways R (StatementAlways R) (meant_statement_node x)

  abbrev AlwaysCase : Case → Type 0
  AlwaysCase x = PartAlways R (BranchAlways R) (meant_branch x)

  abbrev AlwaysExpr : Expr → Type 0
  AlwaysExpr x = PartAlways R (Always R) (meant_expression x)

  abbrev AlwaysFunctionTree : FunctionTree → Type 0
  AlwaysFunctionTree x = PartAlways R Whatever (meant_function x)

  abbrev AlwaysStmt : Stmt → Type 0
  AlwaysStmt x = PartAlways R (StatementAlways R) (meant_statement x)

  -- with what is so of it
  abbrev WithExprNode : Type 0
  WithExprNode = (x : ExprNode) × AlwaysExprNode x

  abbrev WithForFirst : Type 0
  WithForFirst = (x : ForFirst) × AlwaysForFirst x

  abbrev WithForInHead : Type 0
  WithForInHead = (x : ForInHead) × AlwaysForInHead x

  abbrev WithStmtNode : Type 0
  WithStmtNode = (x : StmtNode) × AlwaysStmtNode x

  abbrev WithCase : Type 0
  WithCase = (x : Case) × AlwaysCase x

  abbrev WithExpr : Type 0
  WithExpr = (x : Expr) × AlwaysExpr x

  abbrev WithFunctionTree : Type 0
  WithFunctionTree = (x : FunctionTree) × AlwaysFunctionTree x

  abbrev WithStmt : Type 0
  WithStmt = (x : Stmt) × AlwaysStmt x

  abbrev only_node : ExprNode-F WithExprNode WithForFirst WithForInHead WithStmtNode WithCase WithExpr WithFunctionTree WithStmt → ExprNode-F ExprNode ForFirst ForInHead StmtNode Case Expr FunctionTree Stmt
  only_node y = map-ExprNode WithExprNode WithForFirst WithForInHead WithStmtNode WithCase WithExpr WithFunctionTree WithStmt ExprNode ForFirst ForInHead StmtNode Case Expr FunctionTree Stmt (λ e. e.0) (λ e. e.0) (λ e. e.0) (λ e. e.0) (λ e. e.0) (λ e. e.0) (λ e. e.0) (λ e. e.0) y

  abbrev only_first : ForFirst-F WithExprNode WithForFirst WithForInHead WithStmtNode WithCase WithExpr WithFunctionTree WithStmt → ForFirst-F ExprNode ForFirst ForInHead StmtNode Case Expr FunctionTree Stmt
  only_first y = map-ForFirst WithExprNode WithForFirst WithForInHead WithStmtNode WithCase WithExpr WithFunctionTree WithStmt ExprNode ForFirst ForInHead StmtNode Case Expr FunctionTree Stmt (λ e. e.0) (λ e. e.0) (λ e. e.0) (λ e. e.0) (λ e. e.0) (λ e. e.0) (λ e. e.0) (λ e. e.0) y

  abbrev only_head : ForInHead-F WithExprNode WithForFirst WithForInHead WithStmtNode WithCase WithExpr WithFunctionTree WithStmt → ForInHead-F ExprNode ForFirst ForInHead StmtNode Case Expr FunctionTree Stmt
  only_head y = map-ForInHead WithExprNode WithForFirst WithForInHead WithStmtNode WithCase WithExpr WithFunctionTree WithStmt ExprNode ForFirst ForInHead StmtNode Case Expr FunctionTree Stmt (λ e. e.0) (λ e. e.0) (λ e. e.0) (λ e. e.0) (λ e. e.0) (λ e. e.0) (λ e. e.0) (λ e. e.0) y

  abbrev only_statement_node : StmtNode-F WithExprNode WithForFirst WithForInHead WithStmtNode WithCase WithExpr WithFunctionTree WithStmt → StmtNode-F ExprNode ForFirst ForInHead StmtNode Case Expr FunctionTree Stmt
  only_statement_node y = map-StmtNode WithExprNode WithForFirst WithForInHead WithStmtNode WithCase WithExpr WithFunctionTree WithStmt ExprNode ForFirst ForInHead StmtNode Case Expr FunctionTree Stmt (λ e. e.0) (λ e. e.0) (λ e. e.0) (λ e. e.0) (λ e. e.0) (λ e. e.0) (λ e. e.0) (λ e. e.0) y

  abbrev only_branch : Case-F WithExprNode WithForFirst WithForInHead WithStmtNode WithCase WithExpr WithFunctionTree WithStmt → Case-F ExprNode ForFirst ForInHead StmtNode Case Expr FunctionTree Stmt
  only_branch y = map-Case WithExprNode WithForFirst WithForInHead WithStmtNode WithCase WithExpr WithFunctionTree WithStmt ExprNode ForFirst ForInHead StmtNode Case Expr FunctionTree Stmt (λ e. e.0) (λ e. e.0) (λ e. e.0) (λ e. e.0) (λ e. e.0) (λ e. e.0) (λ e. e.0) (λ e. e.0) y

  abbrev only_expression : Expr-F WithExprNode WithForFirst WithForInHead WithStmtNode WithCase WithExpr WithFunctionTree WithStmt → Expr-F ExprNode ForFirst ForInHead StmtNode Case Expr FunctionTree Stmt
  only_expression y = map-Expr WithExprNode WithForFirst WithForInHead WithStmtNode WithCase WithExpr WithFunctionTree WithStmt ExprNode ForFirst ForInHead StmtNode Case Expr FunctionTree Stmt (λ e. e.0) (λ e. e.0) (λ e. e.0) (λ e. e.0) (λ e. e.0) (λ e. e.0) (λ e. e.0) (λ e. e.0) y

  abbrev only_function : FunctionTree-F WithExprNode WithForFirst WithForInHead WithStmtNode WithCase WithExpr WithFunctionTree WithStmt → FunctionTree-F ExprNode ForFirst ForInHead StmtNode Case Expr FunctionTree Stmt
  only_function y = map-FunctionTree WithExprNode WithForFirst WithForInHead WithStmtNode WithCase WithExpr WithFunctionTree WithStmt ExprNode ForFirst ForInHead StmtNode Case Expr FunctionTree Stmt (λ e. e.0) (λ e. e.0) (λ e. e.0) (λ e. e.0) (λ e. e.0) (λ e. e.0) (λ e. e.0) (λ e. e.0) y

  abbrev only_statement : Stmt-F WithExprNode WithForFirst WithForInHead WithStmtNode WithCase WithExpr WithFunctionTree WithStmt → Stmt-F ExprNode ForFirst ForInHead StmtNode Case Expr FunctionTree Stmt
  only_statement y = map-Stmt WithExprNode WithForFirst WithForInHead WithStmtNode WithCase WithExpr WithFunctionTree WithStmt ExprNode ForFirst ForInHead StmtNode Case Expr FunctionTree Stmt (λ e. e.0) (λ e. e.0) (λ e. e.0) (λ e. e.0) (λ e. e.0) (λ e. e.0) (λ e. e.0) (λ e. e.0) y

  -- ---- lists of trees, and trees that may be missing

  always_expressions : (ys : List WithExpr) → Every (PartAlways R (Always R)) (map meant_expression (map (λ e. e.0) ys))
  always_expressions [] = tt
  always_expressions (y ∷ ys) = (y.1, always_expressions ys)

  always_elements : (ys : List (Option WithExpr)) → Every (IfAny (PartAlways R (Always R))) (former-ExprNode-Array-0.map Expr means.Of_expression meant_expression (former-ExprNode-Array-0.map WithExpr Expr (λ e. e.0) ys))
  always_elements [] = tt
  always_elements (None ∷ ys) = (tt, always_elements ys)
  always_elements (Some y ∷ ys) = (y.1, always_elements ys)

  always_fields : (ys : List (List ℕ × WithExpr)) → Every (λ p. PartAlways R (Always R) p.1) (former-ExprNode-Object-0.map Expr means.Of_expression meant_expression (former-ExprNode-Object-0.map WithExpr Expr (λ e. e.0) ys))
  always_fields [] = tt
  always_fields (y ∷ ys) = (y.1.1, always_fields ys)

  always_statements : (ys : List WithStmt) → Every (PartAlways R (StatementAlways R)) (former-StmtNode-Block-0.map Stmt means.Of_statement meant_statement (former-StmtNode-Block-0.map WithStmt Stmt (λ e. e.0) ys))
  always_statements [] = tt
  always_statements (y ∷ ys) = (y.1, always_statements ys)

  always_cases : (ys : List WithCase) → Every (PartAlways R (BranchAlways R)) (former-StmtNode-Switch-1.map Case means.Of_branch meant_branch (former-StmtNode-Switch-1.map WithCase Case (λ e. e.0) ys))
  always_cases [] = tt
  always_cases (y ∷ ys) = (y.1, always_cases ys)

  always_held : (ys : Option WithExpr) → IfAny (PartAlways R (Always R)) (former-StmtNode-For-1.map Expr means.Of_expression meant_expression (former-StmtNode-For-1.map WithExpr Expr (λ e. e.0) ys))
  always_held None = tt
  always_held (Some y) = y.1

  always_held_first : (ys : Option WithForFirst) → IfAny (PartAlways R (Always R)) (former-StmtNode-For-0.map ForFirst means.Of_first meant_first (former-StmtNode-For-0.map WithForFirst ForFirst (λ e. e.0) ys))
  always_held_first None = tt
  always_held_first (Some y) = y.1

  always_held_statement : (ys : Option WithStmt) → IfAny (PartAlways R (StatementAlways R)) (former-StmtNode-If-2.map Stmt means.Of_statement meant_statement (former-StmtNode-If-2.map WithStmt Stmt (λ e. e.0) ys))
  always_held_statement None = tt
  always_held_statement (Some y) = y.1

  always_named : (ys : List (List ℕ × Option WithExpr)) → Every (λ p. IfAny (PartAlways R (Always R)) p.1) (former-ForFirst-Var-0.map Expr means.Of_expression meant_expression (former-ForFirst-Var-0.map WithExpr Expr (λ e. e.0) ys))
  always_named [] = tt
  always_named ((name, None) ∷ ys) = (tt, always_named ys)
  always_named ((name, Some y) ∷ ys) = (y.1, always_named ys)

  -- ---- expressions

  of_one : (f : Expression → Expression) → ((m : Expression) → Always R m → Always R (f m)) → (a : WithExpr) → PartAlways R (Always R) (one (meant_expression a.0) f)
  of_one f go a = part_one R (Always R) (Always R) (meant_expression a.0) f go a.1

  of_two : (f : Expression → Expression → Expression) → ((m n : Expression) → Always R m → Always R n → Always R (f m n)) → (a b : WithExpr)
      → PartAlways R (Always R) (two (meant_expression a.0) (meant_expression b.0) f)
  of_two f go a b = part_two R (Always R) (Always R) (Always R) (meant_expression a.0) (meant_expression b.0) f go a.1 b.1

  -- an expression with a list of them
  of_list : (f : Expression → List Expression → Expression) → ((m : Expression) (ms : List Expression) → Always R m → Every (Always R) ms → Always R (f m ms)) → (a : WithExpr) (bs : List WithExpr)
      → PartAlways R (Always R) (two (meant_expression a.0) (each (map meant_expression (map (λ e. e.0) bs))) f)
  of_list f go a bs = part_two R (Always R) (Every (Always R)) (Always R) (meant_expression a.0) _ f go a.1 (part_each R (Always R) _ (always_expressions bs))

  node_by : (y : ExprNode-F WithExprNode WithForFirst WithForInHead WithStmtNode WithCase WithExpr WithFunctionTree WithStmt) → PartAlways R (Always R) (meant_node_of (only_node y))
  node_by (ExprNode-F.Comma a b) = of_two means.comma (expr.always_comma R through) a b
  node_by (ExprNode-F.Assign f a b) = of_two (means.assignment f) (expr.always_assignment R through f) a b
  node_by (ExprNode-F.Cond a b d) =
      part_three R (Always R) (Always R) (Always R) (Always R) (meant_expression a.0) (meant_expression b.0) (meant_expression d.0) means.conditional (expr.always_conditional R through) a.1 b.1 d.1
  node_by (ExprNode-F.Logical f a b) = of_two (means.either f) (expr.always_either R through f) a b
  node_by (ExprNode-F.Binary f a b) = of_two (means.both f) (expr.always_both R through f) a b
  node_by (ExprNode-F.Unary f a) = of_one (means.sole f) (expr.always_sole R through f) a
  node_by (ExprNode-F.Update f prefix a) = of_one (means.stepping f prefix) (expr.always_stepping R through f prefix) a
  node_by (ExprNode-F.Call a bs) = of_list means.calling (expr.always_calling R through) a bs
  node_by (ExprNode-F.Member a name) = of_one (λ m. means.member m name) (λ m h. expr.always_member R through m name h) a
  node_by (ExprNode-F.Index a b) = of_two means.index (expr.always_index R through) a b
  node_by (ExprNode-F.New a bs) = of_list means.making (expr.always_making R through) a bs
  node_by (ExprNode-F.Num n) = part_leaf R (Always R) _ (expr.always_is_value R through (Simple (Number n)))
  node_by (ExprNode-F.Str text) = part_leaf R (Always R) _ (expr.always_is_value R through (Simple (Characters text)))
  node_by (ExprNode-F.Name text) = record { functions = λ first. tt; means = λ first. expr.always_name R through text }
  node_by ExprNode-F.This = part_leaf R (Always R) _ (expr.always_this_value R through)
  node_by ExprNode-F.Null = part_leaf R (Always R) _ (expr.always_is_value R through (Simple Null))
  node_by (ExprNode-F.Bool b) = part_leaf R (Always R) _ (expr.always_is_value R through (Simple (Truth b)))
  node_by (ExprNode-F.Array elements) = part_one R (Every (IfAny (Always R))) (Always R) _ means.array (expr.always_array R through) (part_each_held R (Always R) _ (always_elements elements))
  node_by (ExprNode-F.Object fields) =
      part_one R (Every (λ (p : List ℕ × Expression). Always R p.1)) (Always R) _ means.object (expr.always_object R through) (part_each_named R (Always R) _ (always_fields fields))
  node_by (ExprNode-F.Function f) = part_one R Whatever (Always R) (meant_function f.0) means.function (λ made h. expr.always_function R through made) f.1

  expression_by : (y : Expr-F WithExprNode WithForFirst WithForInHead WithStmtNode WithCase WithExpr WithFunctionTree WithStmt) → PartAlways R (Always R) (meant_expression_of (only_expression y))
  expression_by y = part_one R (Always R) (Always R) (meant_node y.node.0) means.begun (expr.always_begun R through) y.node.1

  head_by : (y : ForInHead-F WithExprNode WithForFirst WithForInHead WithStmtNode WithCase WithExpr WithFunctionTree WithStmt) → PartAlways R (Always R) (meant_head_of (only_head y))
  head_by (ForInHead-F.ForInHead::Var text) = part_vars R (Always R) (text ∷ []) _ (part_leaf R (Always R) (λ x s. Gives (Named text) s) (expr.always_name R through text))
  head_by (ForInHead-F.Target a) = a.1

  -- ---- what stands first in the head of a `for`, cases of a `switch`, and functions

  always_declaring : (ys : List (List ℕ × Option WithExpr)) → PartAlways R (Always R) (means.declaring (former-ForFirst-Var-0.map Expr means.Of_expression meant_expression (former-ForFirst-Var-0.map WithExpr Expr (λ e. e.0) ys)))
  always_declaring ys =
      part_vars R (Always R) _ _
      (part_one R (Every (λ (p : List ℕ × Option Expression). IfAny (Always R) p.1)) (Always R) _ means.declare (stmt.always_declare R through) (part_each_named_held R (Always R) _ (always_named ys)))

  first_by : (y : ForFirst-F WithExprNode WithForFirst WithForInHead WithStmtNode WithCase WithExpr WithFunctionTree WithStmt) → PartAlways R (Always R) (meant_first_of (only_first y))
  first_by (ForFirst-F.ForFirst::Var ys) = always_declaring ys
  first_by (ForFirst-F.ForFirst::Expr a) = part_one R (Always R) (Always R) (meant_expression a.0) means.value_and_on (stmt.always_value_and_on R through) a.1

  branch_by : (y : Case-F WithExprNode WithForFirst WithForInHead WithStmtNode WithCase WithExpr WithFunctionTree WithStmt) → PartAlways R (BranchAlways R) (meant_branch_of (only_branch y))
  branch_by y =
      part_two R (IfAny (Always R)) (EachStatementAlways R) (BranchAlways R) _ _ (λ test body. record { test = test; body = body }) (λ test body h k. record { test = h; body = k })
      (part_held R (Always R) _ (always_held y.test)) (part_each R (StatementAlways R) _ (always_statements y.body))

  function_by : (y : FunctionTree-F WithExprNode WithForFirst WithForInHead WithStmtNode WithCase WithExpr WithFunctionTree WithStmt) → PartAlways R Whatever (meant_function_of (only_function y))
  function_by y = part_function R through y.name y.params _ (part_each R (StatementAlways R) _ (always_statements y.body))

  -- ---- statements

  always_caught : (ys : Option (List ℕ × List WithStmt)) → PartAlways R (CaughtAlways R) (means.caught_part (former-StmtNode-Try-1.map Stmt means.Of_statement meant_statement (former-StmtNode-Try-1.map WithStmt Stmt (λ e. e.0) ys)))
  always_caught None = part_leaf R (CaughtAlways R) None tt
  always_caught (Some y) =
      part_one R (EachStatementAlways R) (CaughtAlways R) _ (λ body. Some (y.0, body)) (λ body h. h)
      (part_undeclared R (EachStatementAlways R) _ (part_each R (StatementAlways R) _ (always_statements y.1)))

  always_last : (ys : Option (List WithStmt)) → PartAlways R (LastAlways R) (means.last_part (former-StmtNode-Try-2.map Stmt means.Of_statement meant_statement (former-StmtNode-Try-2.map WithStmt Stmt (λ e. e.0) ys)))
  always_last None = part_leaf R (LastAlways R) None tt
  always_last (Some ys) = part_one R (EachStatementAlways R) (LastAlways R) _ Some (λ body h. h) (part_each R (StatementAlways R) _ (always_statements ys))

  statement_node_by : (y : StmtNode-F WithExprNode WithForFirst WithForInHead WithStmtNode WithCase WithExpr WithFunctionTree WithStmt) → PartAlways R (StatementAlways R) (meant_statement_node_of (only_statement_node y))
  statement_node_by (StmtNode-F.Block body) =
      part_one R (EachStatementAlways R) (StatementAlways R) _ (λ body. means.plain (in_turn body)) (λ body h labels. stmt.always_in_turn R through body h) (part_each R (StatementAlways R) _ (always_statements body))
  statement_node_by (StmtNode-F.StmtNode::Var ys) = part_one R (Always R) (StatementAlways R) _ means.plain (λ run h labels. h) (always_declaring ys)
  statement_node_by StmtNode-F.Empty = part_leaf R (StatementAlways R) _ (stmt.always_ends_with R through Normal)
  statement_node_by (StmtNode-F.StmtNode::Expr a) =
      part_one R (Always R) (StatementAlways R) (meant_expression a.0) (λ a. means.plain (means.value_and_on a)) (λ a h labels. stmt.always_value_and_on R through a h) a.1
  statement_node_by (StmtNode-F.If a body other) =
      part_three R (Always R) (StatementAlways R) (IfAny (StatementAlways R)) (StatementAlways R) (meant_expression a.0) (meant_statement body.0) _ means.if_else (stmt.always_if_else R through)
      a.1 body.1 (part_held R (StatementAlways R) _ (always_held_statement other))
  statement_node_by (StmtNode-F.Do body a) =
      part_two R (StatementAlways R) (Always R) (StatementAlways R) (meant_statement body.0) (meant_expression a.0) means.do_loop (stmt.always_do_loop R through) body.1 a.1
  statement_node_by (StmtNode-F.While a body) =
      part_two R (Always R) (StatementAlways R) (StatementAlways R) (meant_expression a.0) (meant_statement body.0) means.while_loop (stmt.always_while_loop R through) a.1 body.1
  statement_node_by (StmtNode-F.For first a update body) =
      part_four R (IfAny (Always R)) (IfAny (Always R)) (IfAny (Always R)) (StatementAlways R) (StatementAlways R) _ _ _ (meant_statement body.0) means.for_loop (stmt.always_for_loop R through)
      (part_held R (Always R) _ (always_held_first first)) (part_held R (Always R) _ (always_held a)) (part_held R (Always R) _ (always_held update)) body.1
  statement_node_by (StmtNode-F.ForIn h a body) =
      part_three R (Always R) (Always R) (StatementAlways R) (StatementAlways R) (meant_head h.0) (meant_expression a.0) (meant_statement body.0) means.for_in (stmt.always_for_in R through) h.1 a.1 body.1
  statement_node_by (StmtNode-F.Continue label) = part_leaf R (StatementAlways R) _ (stmt.always_ends_with R through (Continued label))
  statement_node_by (StmtNode-F.Break label) = part_leaf R (StatementAlways R) _ (stmt.always_ends_with R through (Broken label))
  statement_node_by (StmtNode-F.Return a) = part_one R (IfAny (Always R)) (StatementAlways R) _ means.return (stmt.always_return R through) (part_held R (Always R) _ (always_held a))
  statement_node_by (StmtNode-F.Throw a) = part_one R (Always R) (StatementAlways R) (meant_expression a.0) means.throw_value (stmt.always_throw_value R through) a.1
  statement_node_by (StmtNode-F.Switch a cases) =
      part_two R (Always R) (Every (BranchAlways R)) (StatementAlways R) (meant_expression a.0) _ means.switch (stmt.always_switch R through) a.1 (part_each R (BranchAlways R) _ (always_cases cases))
  statement_node_by (StmtNode-F.Try body caught last) =
      part_three R (EachStatementAlways R) (CaughtAlways R) (LastAlways R) (StatementAlways R) _ _ _ means.try_catch (stmt.always_try_catch R through)
      (part_each R (StatementAlways R) _ (always_statements body)) (always_caught caught) (always_last last)
  statement_node_by (StmtNode-F.Label label body) = part_one R (StatementAlways R) (StatementAlways R) (meant_statement body.0) (means.labelled label) (stmt.always_labelled R through label) body.1
  statement_node_by (StmtNode-F.FunctionDecl f) =
      part_declaration R Whatever (StatementAlways R) (meant_function f.0) means.declared_as means.declaration (λ made h. stmt.always_ends_with R through Normal) f.1

  statement_by : (y : Stmt-F WithExprNode WithForFirst WithForInHead WithStmtNode WithCase WithExpr WithFunctionTree WithStmt) → PartAlways R (StatementAlways R) (meant_statement_of (only_statement y))
  statement_by y = part_one R (StatementAlways R) (StatementAlways R) (meant_statement_node y.node.0) means.begun_statement (stmt.always_begun_statement R through) y.node.1

  -- ---- every tree

  node_step : (x : ExprNode-F ExprNode ForFirst ForInHead StmtNode Case Expr FunctionTree Stmt) (y : ExprNode-F WithExprNode WithForFirst WithForInHead WithStmtNode WithCase WithExpr WithFunctionTree WithStmt) → only_node y ≡ x → AlwaysExprNode (roll-ExprNode x)
  node_step x y is = node_from (λ p q. PartAlways R (Always R) p) x (subst (λ x. PartAlways R (Always R) (meant_node_of x)) is (node_by y))

  first_step : (x : ForFirst-F ExprNode ForFirst ForInHead StmtNode Case Expr FunctionTree Stmt) (y : ForFirst-F WithExprNode WithForFirst WithForInHead WithStmtNode WithCase WithExpr WithFunctionTree WithStmt) → only_first y ≡ x → AlwaysForFirst (roll-ForFirst x)
  first_step x y is = first_from (λ p q. PartAlways R (Always R) p) x (subst (λ x. PartAlways R (Always R) (meant_first_of x)) is (first_by y))

  head_step : (x : ForInHead-F ExprNode ForFirst ForInHead StmtNode Case Expr FunctionTree Stmt) (y : ForInHead-F WithExprNode WithForFirst WithForInHead WithStmtNode WithCase WithExpr WithFunctionTree WithStmt) → only_head y ≡ x → AlwaysForInHead (roll-ForInHead x)
  head_step x y is = head_from (λ p q. PartAlways R (Always R) p) x (subst (λ x. PartAlways R (Always R) (meant_head_of x)) is (head_by y))

  statement_node_step : (x : StmtNode-F ExprNode ForFirst ForInHead StmtNode Case Expr FunctionTree Stmt) (y : StmtNode-F WithExprNode WithForFirst WithForInHead WithStmtNode WithCase WithExpr WithFunctionTree WithStmt) → only_statement_node y ≡ x → AlwaysStmtNode (roll-StmtNode x)
  statement_node_step x y is = statement_node_from (λ p q. PartAlways R (StatementAlways R) p) x (subst (λ x. PartAlways R (StatementAlways R) (meant_statement_node_of x)) is (statement_node_by y))

  branch_step : (x : Case-F ExprNode ForFirst ForInHead StmtNode Case Expr FunctionTree Stmt) (y : Case-F WithExprNode WithForFirst WithForInHead WithStmtNode WithCase WithExpr WithFunctionTree WithStmt) → only_branch y ≡ x → AlwaysCase (roll-Case x)
  branch_step x y is = branch_from (λ p q. PartAlways R (BranchAlways R) p) x (subst (λ x. PartAlways R (BranchAlways R) (meant_branch_of x)) is (branch_by y))

  expression_step : (x : Expr-F ExprNode ForFirst ForInHead StmtNode Case Expr FunctionTree Stmt) (y : Expr-F WithExprNode WithForFirst WithForInHead WithStmtNode WithCase WithExpr WithFunctionTree WithStmt) → only_expression y ≡ x → AlwaysExpr (roll-Expr x)
  expression_step x y is = expression_from (λ p q. PartAlways R (Always R) p) x (subst (λ x. PartAlways R (Always R) (meant_expression_of x)) is (expression_by y))

  function_step : (x : FunctionTree-F ExprNode ForFirst ForInHead StmtNode Case Expr FunctionTree Stmt) (y : FunctionTree-F WithExprNode WithForFirst WithForInHead WithStmtNode WithCase WithExpr WithFunctionTree WithStmt) → only_function y ≡ x → AlwaysFunctionTree (roll-FunctionTree x)
  function_step x y is = function_from (λ p q. PartAlways R Whatever p) x (subst (λ x. PartAlways R Whatever (meant_function_of x)) is (function_by y))

  statement_step : (x : Stmt-F ExprNode ForFirst ForInHead StmtNode Case Expr FunctionTree Stmt) (y : Stmt-F WithExprNode WithForFirst WithForInHead WithStmtNode WithCase WithExpr WithFunctionTree WithStmt) → only_statement y ≡ x → AlwaysStmt (roll-Stmt x)
  statement_step x y is = statement_from (λ p q. PartAlways R (StatementAlways R) p) x (subst (λ x. PartAlways R (StatementAlways R) (meant_statement_of x)) is (statement_by y))

  every_expression : (e : Expr) → AlwaysExpr e
  every_expression = ind-Expr AlwaysExprNode AlwaysForFirst AlwaysForInHead AlwaysStmtNode AlwaysCase AlwaysExpr AlwaysFunctionTree AlwaysStmt node_step first_step head_step statement_node_step branch_step expression_step function_step statement_step

  every_statement : (s : Stmt) → AlwaysStmt s
  every_statement = ind-Stmt AlwaysExprNode AlwaysForFirst AlwaysForInHead AlwaysStmtNode AlwaysCase AlwaysExpr AlwaysFunctionTree AlwaysStmt node_step first_step head_step statement_node_step branch_step expression_step function_step statement_step

  pub always_expression : (e : Expr) → PartAlways R (Always R) (means.expression e)
  always_expression e = subst (λ p. PartAlways R (Always R) (p e)) (sym meant_all) (every_expression e)

  pub always_statement : (s : Stmt) → PartAlways R (StatementAlways R) (means.statement s)
  always_statement s = subst (λ p. PartAlways R (StatementAlways R) (p s)) (sym meant_statements) (every_statement s)
