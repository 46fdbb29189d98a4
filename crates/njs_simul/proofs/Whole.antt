-- Every tree means what its code does: by induction on trees.
use Rattle.std.proofs.Common.{◌≡◌, ℕ, List, [], ◌∷◌, map, true, Option, Some, None, refl, ap, sym, subst}
use Rattle.njs_tree.specs.declared.tree.ExprNode.{ExprNode}
use Rattle.njs_tree.specs.declared.tree.ForFirst.{ForFirst}
use Rattle.njs_tree.specs.declared.tree.ForInHead.{ForInHead}
use Rattle.njs_tree.specs.declared.tree.StmtNode.{StmtNode}
use Rattle.njs_tree.specs.declared.tree.Case.{Case}
use Rattle.njs_tree.specs.declared.tree.Expr.{Expr}
use Rattle.njs_tree.specs.declared.tree.FunctionTree.{FunctionTree}
use Rattle.njs_tree.specs.declared.tree.Stmt.{Stmt}
use Rattle.njs_tree.specs.declared.tree.ExprNode.TheOpen.{ExprNode-F, ForFirst-F, ForInHead-F, StmtNode-F, Case-F, Expr-F, FunctionTree-F, Stmt-F}
use Rattle.njs_tree.specs.declared.tree.ExprNode.TheShapes.{former-ExprNode-Array-0, former-ExprNode-Object-0, former-ForFirst-Var-0, former-StmtNode-Block-0, former-StmtNode-If-2, former-StmtNode-For-0, former-StmtNode-For-1, former-StmtNode-Switch-1, former-StmtNode-Try-1, former-StmtNode-Try-2}
use Rattle.njs_tree.specs.declared.tree.ExprNode.TheViews.{roll-ExprNode, roll-ForFirst, roll-ForInHead, roll-StmtNode, roll-Case, roll-Expr, roll-FunctionTree, roll-Stmt}
use Rattle.njs_tree.specs.declared.tree.ExprNode.TheFolds.{map-ExprNode, map-ForFirst, map-ForInHead, map-StmtNode, map-Case, map-Expr, map-FunctionTree, map-Stmt, ind-Expr, ind-Stmt}
use Rattle.njs_meaning.specs.State.{State, Gives, and_then}
use Rattle.njs_meaning.specs.Running.{Context}
use Rattle.njs_meaning.specs.Scopes.{assign_name}
use Rattle.njs_meaning.specs.Places.{Around}
use Rattle.njs_meaning.specs.References.{Expression, evaluated}
use Rattle.njs_meaning.specs.Completions.{Normal, Statement, in_turn}
use Rattle.njs_meaning.specs.Parts.{one, two, each}
use Rattle.njs_meaning.specs.Meaning as means
use Rattle.njs_meaning.specs.Meaning.{Made, First, Branch}
use Rattle.njs_simul.specs.Emission as emit
use Rattle.njs_simul.specs.Emission.{Coded}
use Rattle.njs_simul.specs.EmissionOfStatements as write
use Rattle.njs_simul.specs.EmissionOfStatements.{CodedStatement, CodedPart, CodedBranch}
use Rattle.njs_simul.specs.Compiled as code
use Rattle.njs_simul.specs.Compiled.{Placed, in_own_name, bare_name}
use Rattle.njs_simul.specs.Fits.{Names}
use Rattle.njs_simul.specs.Laws.{Given, ExpressionTied, StatementTied}
use Rattle.njs_simul.proofs.Pairs.{Each, Held, Named}
use Rattle.njs_simul.proofs.Objects.{given_then}
use Rattle.njs_simul.proofs.Statements.{HeldTied, NamedHeldTied, HeldStatementTied, declaring_tied, evaluate_tied}
use Rattle.njs_simul.proofs.Loops.{FirstTied, HeldFirstTied}
use Rattle.njs_simul.proofs.Switches.{BranchTied, BranchesTied}
use Rattle.njs_simul.proofs.Tries.{CaughtTied, LastTied}
use Rattle.njs_simul.proofs.TiedExpressions as expr
use Rattle.njs_simul.proofs.TiedStatements as stmt
use Rattle.njs_simul.proofs.TiedParts.{PartsTied, tied_leaf, tied_one, tied_two, tied_three, tied_four, tied_each, tied_held, tied_each_named, tied_each_held, tied_each_named_held, tied_vars, tied_undeclared, tied_further}
use Rattle.njs_simul.proofs.TiedFunctions.{MadeTied, FunctionPartTied, statements_of, function_part_tied, tied_declaration}
use Rattle.njs_simul.proofs.CodedTrees.{coded_all, coded_statements, coded_node, coded_node_of, coded_first, coded_first_of, coded_head, coded_head_of, coded_statement_node, coded_statement_node_of, coded_branch, coded_branch_of, coded_expression, coded_expression_of, coded_function, coded_function_of, coded_statement, coded_statement_of}
use Rattle.njs_simul.proofs.Trees.{meant_all, meant_statements, meant_node, meant_node_of, node_from, meant_first, meant_first_of, first_from, meant_head, meant_head_of, head_from, meant_statement_node, meant_statement_node_of, statement_node_from, meant_branch, meant_branch_of, branch_from, meant_expression, meant_expression_of, expression_from, meant_function, meant_function_of, function_from, meant_statement, meant_statement_of, statement_from}

module _ (env : Names) (unit : ℕ) where
  -- ---- what is so of each meaning and its code

  abbrev Expressed : Around → Expression → Coded → Type 0
  Expressed names m c = ExpressionTied env unit names m c

  abbrev Begun : Around → Expression → Coded → Type 0
  Begun names m c = ExpressionTied env unit names (means.begun m) c

  abbrev Stated : Around → Statement → CodedStatement → Type 0
  Stated names m c = StatementTied env unit names m c

  abbrev BegunStated : Around → Statement → CodedStatement → Type 0
  BegunStated names m c = StatementTied env unit names (means.begun_statement m) c

  abbrev Firsts : Around → First → CodedPart → Type 0
  Firsts names m c = FirstTied env unit names m c

  abbrev Branches : Around → Branch → CodedBranch → Type 0
  Branches names m c = BranchTied env unit names m c

  -- a function as an expression
  abbrev MadeInOwnName : Around → Made → Made → Type 0
  MadeInOwnName names m c = (m ≡ c) × (env unit m.number ≡ in_own_name m.name names)

  -- ---- what is so of each tree

  abbrev TiedExprNode : ExprNode → Type 0
  TiedExprNode x = PartsTied env unit Begun (meant_node x) (coded_node x)

  abbrev TiedForFirst : ForFirst → Type 0
  TiedForFirst x = PartsTied env unit Firsts (meant_first x) (coded_first x)

  abbrev TiedForInHead : ForInHead → Type 0
  TiedForInHead x = PartsTied env unit Expressed (meant_head x) (coded_head x)

  abbrev TiedStmtNode : StmtNode → Type 0
  TiedStmtNode x = PartsTied env unit BegunStated (meant_statement_node x) (coded_statement_node x)

  abbrev TiedCase : Case → Type 0
  TiedCase x = PartsTied env unit Branches (meant_branch x) (coded_branch x)

  abbrev TiedExpr : Expr → Type 0
  TiedExpr x = PartsTied env unit Expressed (meant_expression x) (coded_expression x)

  abbrev TiedFunctionTree : FunctionTree → Type 0
  TiedFunctionTree x = FunctionPartTied env unit (meant_function x) (coded_function x)

  abbrev TiedStmt : Stmt → Type 0
  TiedStmt x = PartsTied env unit Stated (meant_statement x) (coded_statement x)

  -- with what is so of it
  abbrev WithExprNode : Type 0
  WithExprNode = (x : ExprNode) × TiedExprNode x

  abbrev WithForFirst : Type 0
  WithForFirst = (x : ForFirst) × TiedForFirst x

  abbrev WithForInHead : Type 0
  WithForInHead = (x : ForInHead) × TiedForInHead x

  abbrev WithStmtNode : Type 0
  WithStmtNode = (x : StmtNode) × TiedStmtNode x

  abbrev WithCase : Type 0
  WithCase = (x : Case) × TiedCase x

  abbrev WithExpr : Type 0
  WithExpr = (x : Expr) × TiedExpr x

  abbrev WithFunctionTree : Type 0
  WithFunctionTree = (x : FunctionTree) × TiedFunctionTree x

  abbrev WithStmt : Type 0
  WithStmt = (x : Stmt) × TiedStmt x

  abbrev only_node : ExprNode-F WithExprNode WithForFirst WithForInHead WithStmtNode WithCase WithExpr WithFunctionTree WithStmt → ExprNode-F ExprNode ForFirst ForInHead StmtNode Case Expr FunctionTree Stmt
  only_node y = map-ExprNode WithExprNode WithForFirst WithForInHead WithStmtNode WithCase WithExpr WithFunctionTree WithStmt ExprNode ForFirst ForInHead StmtNode Case Expr FunctionTree Stmt (λ e. e.0) (λ e. e.0) (λ e. e.0) (λ e. e.0) (λ e. e.0) (λ e. e.0) (λ e. e.0) (λ e. e.0) y

  abbrev only_first : ForFirst-F WithExprNode WithForFirst WithForInHead WithStmtNode WithCase WithExpr WithFunctionTree WithStmt → ForFirst-F ExprNode ForFirst ForInHead StmtNode Case Expr FunctionTree Stmt
  only_first y = map-ForFirst WithExprNode WithForFirst WithForInHead WithStmtNode WithCase WithExpr WithFunctionTree WithStmt ExprNode ForFirst ForInHead StmtNode Case Expr FunctionTree Stmt (λ e. e.0) (λ e. e.0) (λ e. e.0) (λ e. e.0) (λ e. e.0) (λ e. e.0) (λ e. e.0) (λ e. e.0) y

  abbrev only_head : ForInHead-F WithExprNode WithForFirst WithForInHead WithStmtNode WithCase WithExpr WithFunctionTree WithStmt → ForInHead-F ExprNode ForFirst ForInHead StmtNode Case Expr FunctionTree Stmt
  only_head y = map-ForInHead WithExprNode WithForFirst WithForInHead WithStmtNode WithCase WithExpr WithFunctionTree WithStmt ExprNode ForFirst ForInHead StmtNode Case Expr FunctionTree Stmt (λ e. e.0) (λ e. e.0) (λ e. e.0) (λ e. e.0) (λ e. e.0) (λ e. e.0) (λ e. e.0) (λ e. e.0) y

  abbrev only_statement_node : StmtNode-F WithExprNode WithForFirst WithForInHead WithStmtNode WithCase WithExpr WithFunctionTree WithStmt → StmtNode-F ExprNode ForFirst ForInHead StmtNode Case Expr FunctionTree Stmt
  only_statement_node y = map-StmtNode WithExprNode WithForFirst WithForInHead WithStmtNode WithCase WithExpr WithFunctionTree WithStmt ExprNode ForFirst ForInHead StmtNode Case Expr FunctionTree Stmt (λ e. e.0) (λ e. e.0) (λ e. e.0) (λ e. e.0) (λ e. e.0) (λ e. e.0) (λ e. e.0) (λ e. e.0) y

  abbrev only_branch : Case-F WithExprNode WithForFirst WithForInHead WithStmtNode WithCase WithExpr WithFunctionTree WithStmt → Case-F ExprNode ForFirst ForInHead StmtNode Case Expr FunctionTree Stmt
  only_branch y = map-Case WithExprNode WithForFirst WithForInHead WithStmtNode WithCase WithExpr WithFunctionTree WithStmt ExprNode ForFirst ForInHead StmtNode Case Expr FunctionTree Stmt (λ e. e.0) (λ e. e.0) (λ e. e.0) (λ e. e.0) (λ e. e.0) (λ e. e.0) (λ e. e.0) (λ e. e.0) y

  abbrev only_expression : Expr-F WithExprNode WithForFirst WithForInHead WithStmtNode WithCase WithExpr WithFunctionTree WithStmt → Expr-F ExprNode ForFirst ForInHead StmtNode Case Expr FunctionTree Stmt
  only_expression y = map-Expr WithExprNode WithForFirst WithForInHead WithStmtNode WithCase WithExpr WithFunctionTree WithStmt ExprNode ForFirst ForInHead StmtNode Case Expr FunctionTree Stmt (λ e. e.0) (λ e. e.0) (λ e. e.0) (λ e. e.0) (λ e. e.0) (λ e. e.0) (λ e. e.0) (λ e. e.0) y

  abbrev only_function : FunctionTree-F WithExprNode WithForFirst WithForInHead WithStmtNode WithCase WithExpr WithFunctionTree WithStmt → FunctionTree-F ExprNode ForFirst ForInHead StmtNode Case Expr FunctionTree Stmt
  only_function y = map-FunctionTree WithExprNode WithForFirst WithForInHead WithStmtNode WithCase WithExpr WithFunctionTree WithStmt ExprNode ForFirst ForInHead StmtNode Case Expr FunctionTree Stmt (λ e. e.0) (λ e. e.0) (λ e. e.0) (λ e. e.0) (λ e. e.0) (λ e. e.0) (λ e. e.0) (λ e. e.0) y

  abbrev only_statement : Stmt-F WithExprNode WithForFirst WithForInHead WithStmtNode WithCase WithExpr WithFunctionTree WithStmt → Stmt-F ExprNode ForFirst ForInHead StmtNode Case Expr FunctionTree Stmt
  only_statement y = map-Stmt WithExprNode WithForFirst WithForInHead WithStmtNode WithCase WithExpr WithFunctionTree WithStmt ExprNode ForFirst ForInHead StmtNode Case Expr FunctionTree Stmt (λ e. e.0) (λ e. e.0) (λ e. e.0) (λ e. e.0) (λ e. e.0) (λ e. e.0) (λ e. e.0) (λ e. e.0) y

  -- ---- lists of trees, and trees that may be missing

  expressions_tied : (ys : List WithExpr) → Each (PartsTied env unit Expressed) (map meant_expression (map (λ e. e.0) ys)) (map coded_expression (map (λ e. e.0) ys))
  expressions_tied [] = tt
  expressions_tied (y ∷ ys) = (y.1, expressions_tied ys)

  elements_tied : (ys : List (Option WithExpr))
      → Each (Held (PartsTied env unit Expressed)) (former-ExprNode-Array-0.map Expr means.Of_expression meant_expression (former-ExprNode-Array-0.map WithExpr Expr (λ e. e.0) ys))
      (former-ExprNode-Array-0.map Expr code.Of_expression coded_expression (former-ExprNode-Array-0.map WithExpr Expr (λ e. e.0) ys))
  elements_tied [] = tt
  elements_tied (None ∷ ys) = (tt, elements_tied ys)
  elements_tied (Some y ∷ ys) = (y.1, elements_tied ys)

  fields_tied : (ys : List (List ℕ × WithExpr))
      → Each (Named (PartsTied env unit Expressed)) (former-ExprNode-Object-0.map Expr means.Of_expression meant_expression (former-ExprNode-Object-0.map WithExpr Expr (λ e. e.0) ys))
      (former-ExprNode-Object-0.map Expr code.Of_expression coded_expression (former-ExprNode-Object-0.map WithExpr Expr (λ e. e.0) ys))
  fields_tied [] = tt
  fields_tied (y ∷ ys) = ((refl, y.1.1), fields_tied ys)

  function_expression_tied : (f : WithFunctionTree) → PartsTied env unit Begun (one (meant_function f.0) means.function) (code.function_expression (coded_function f.0))
  function_expression_tied f =
      let p = meant_function f.0 in let q = coded_function f.0 in
      tied_one env unit MadeInOwnName Begun p (code.further_in (λ first. in_own_name (q.means first).name) q) means.function emit.function
      (λ names m c r. subst (λ c. Begun names (means.function m) (emit.function c)) r.0 (expr.function_tied env unit names m r.1))
      (tied_further env unit (MadeTied env unit) MadeInOwnName (λ first. in_own_name (q.means first).name) p q
      (λ first names r. (r.0, subst (λ made. env unit (p.means first).number ≡ in_own_name made.name names) (sym r.0) r.1)) f.1.none f.1.tied)

  -- ---- expressions

  of_one : (f : Expression → Expression) (g : Coded → Coded) → ((names : Around) (m : Expression) (c : Coded) → Expressed names m c → Begun names (f m) (g c))
      → (a : WithExpr) → PartsTied env unit Begun (one (meant_expression a.0) f) (one (coded_expression a.0) g)
  of_one f g go a = tied_one env unit Expressed Begun (meant_expression a.0) (coded_expression a.0) f g go a.1

  of_two : (f : Expression → Expression → Expression) (g : Coded → Coded → Coded)
      → ((names : Around) (m n : Expression) (c d : Coded) → Expressed names m c → Expressed names n d → Begun names (f m n) (g c d))
      → (a b : WithExpr) → PartsTied env unit Begun (two (meant_expression a.0) (meant_expression b.0) f) (two (coded_expression a.0) (coded_expression b.0) g)
  of_two f g go a b =
      tied_two env unit Expressed Expressed Begun (meant_expression a.0) (coded_expression a.0) (meant_expression b.0) (coded_expression b.0) f g (λ names m c n d r s. go names m n c d r s) a.1 b.1

  -- an expression with a list of them
  of_list : (f : Expression → List Expression → Expression) (g : Coded → List Coded → Coded)
      → ((names : Around) (m : Expression) (ms : List Expression) (c : Coded) (cs : List Coded) → Expressed names m c → Each (Expressed names) ms cs → Begun names (f m ms) (g c cs))
      → (a : WithExpr) (bs : List WithExpr)
      → PartsTied env unit Begun (two (meant_expression a.0) (each (map meant_expression (map (λ e. e.0) bs))) f) (two (coded_expression a.0) (each (map coded_expression (map (λ e. e.0) bs))) g)
  of_list f g go a bs =
      tied_two env unit Expressed (λ names. Each (Expressed names)) Begun (meant_expression a.0) (coded_expression a.0) _ _ f g (λ names m c ms cs r s. go names m ms c cs r s) a.1
      (tied_each env unit Expressed _ _ (expressions_tied bs))

  name_part_tied : (text : List ℕ) → PartsTied env unit Begun (means.name_part text) (code.name_part text)
  name_part_tied text = record {
    size = refl;
    count = λ first. refl;
    functions = λ first names k. tt;
    declared = λ first. refl;
    declares = λ first names k. tt;
    vars = refl;
    named = refl;
    means = λ first names k. expr.name_tied env unit names text;
  }

  node_by : (y : ExprNode-F WithExprNode WithForFirst WithForInHead WithStmtNode WithCase WithExpr WithFunctionTree WithStmt) → PartsTied env unit Begun (meant_node_of (only_node y)) (coded_node_of (only_node y))
  node_by (ExprNode-F.Comma a b) = of_two means.comma emit.comma (λ names. expr.comma_tied env unit names) a b
  node_by (ExprNode-F.Assign f a b) = of_two (means.assignment f) (emit.assignment f) (λ names. expr.assignment_tied env unit names f) a b
  node_by (ExprNode-F.Cond a b d) =
      tied_three env unit Expressed Expressed Expressed Begun (meant_expression a.0) (coded_expression a.0) (meant_expression b.0) (coded_expression b.0) (meant_expression d.0) (coded_expression d.0)
      means.conditional emit.conditional (λ names m c m' c' m2 c2 r s t. expr.conditional_tied env unit names m m' m2 c c' c2 r s t) a.1 b.1 d.1
  node_by (ExprNode-F.Logical f a b) = of_two (means.either f) (emit.either f) (λ names. expr.either_tied env unit names f) a b
  node_by (ExprNode-F.Binary f a b) = of_two (means.both f) (emit.both f) (λ names. expr.both_tied env unit names f) a b
  node_by (ExprNode-F.Unary f a) = of_one (means.sole f) (emit.sole f) (λ names. expr.sole_tied env unit names f) a
  node_by (ExprNode-F.Update f prefix a) = of_one (means.stepping f prefix) (emit.stepping f prefix) (λ names. expr.stepping_tied env unit names f prefix) a
  node_by (ExprNode-F.Call a bs) = of_list means.calling emit.calling (λ names. expr.calling_tied env unit names) a bs
  node_by (ExprNode-F.Member a name) = of_one (λ m. means.member m name) (λ c. emit.member c name) (λ names m c r. expr.member_tied env unit names m c name r) a
  node_by (ExprNode-F.Index a b) = of_two means.index emit.index (λ names. expr.index_tied env unit names) a b
  node_by (ExprNode-F.New a bs) = of_list means.making emit.making (λ names. expr.making_tied env unit names) a bs
  node_by (ExprNode-F.Num n) = tied_leaf env unit Begun _ _ (λ names. expr.number_tied env unit names n)
  node_by (ExprNode-F.Str text) = tied_leaf env unit Begun _ _ (λ names. expr.text_tied env unit names text)
  node_by (ExprNode-F.Name text) = name_part_tied text
  node_by ExprNode-F.This = tied_leaf env unit Begun _ _ (λ names. expr.this_tied env unit names)
  node_by ExprNode-F.Null = tied_leaf env unit Begun _ _ (λ names. expr.null_tied env unit names)
  node_by (ExprNode-F.Bool b) = tied_leaf env unit Begun _ _ (λ names. expr.truth_tied env unit names b)
  node_by (ExprNode-F.Array elements) =
      tied_one env unit (λ names. Each (Held (Expressed names))) Begun _ _ means.array emit.array (λ names. expr.array_tied env unit names) (tied_each_held env unit Expressed _ _ (elements_tied elements))
  node_by (ExprNode-F.Object fields) =
      tied_one env unit (λ names. Each (Named (Expressed names))) Begun _ _ means.object emit.object (λ names. expr.object_tied env unit names) (tied_each_named env unit Expressed _ _ (fields_tied fields))
  node_by (ExprNode-F.Function f) = function_expression_tied f

  expression_by : (y : Expr-F WithExprNode WithForFirst WithForInHead WithStmtNode WithCase WithExpr WithFunctionTree WithStmt) → PartsTied env unit Expressed (meant_expression_of (only_expression y)) (coded_expression_of (only_expression y))
  expression_by y = tied_one env unit Begun Expressed (meant_node y.node.0) (coded_node y.node.0) means.begun (λ c. c) (λ names m c r. r) y.node.1

  head_by : (y : ForInHead-F WithExprNode WithForFirst WithForInHead WithStmtNode WithCase WithExpr WithFunctionTree WithStmt) → PartsTied env unit Expressed (meant_head_of (only_head y)) (coded_head_of (only_head y))
  head_by (ForInHead-F.ForInHead::Var text) = tied_vars env unit Expressed (text ∷ []) (text ∷ []) _ _ refl (tied_leaf env unit Expressed _ (bare_name text) (λ names. stmt.bare_name_tied env unit names text))
  head_by (ForInHead-F.Target a) = a.1

  -- ---- lists of what statements have in them, and what may be missing in them

  statements_tied : (ys : List WithStmt) → Each (PartsTied env unit Stated) (former-StmtNode-Block-0.map Stmt means.Of_statement meant_statement (former-StmtNode-Block-0.map WithStmt Stmt (λ e. e.0) ys)) (former-StmtNode-Block-0.map Stmt code.Of_statement coded_statement (former-StmtNode-Block-0.map WithStmt Stmt (λ e. e.0) ys))
  statements_tied [] = tt
  statements_tied (y ∷ ys) = (y.1, statements_tied ys)

  cases_tied : (ys : List WithCase) → Each (PartsTied env unit Branches) (former-StmtNode-Switch-1.map Case means.Of_branch meant_branch (former-StmtNode-Switch-1.map WithCase Case (λ e. e.0) ys)) (former-StmtNode-Switch-1.map Case code.Of_branch coded_branch (former-StmtNode-Switch-1.map WithCase Case (λ e. e.0) ys))
  cases_tied [] = tt
  cases_tied (y ∷ ys) = (y.1, cases_tied ys)

  held_tied : (ys : Option WithExpr) → Held (PartsTied env unit Expressed) (former-StmtNode-For-1.map Expr means.Of_expression meant_expression (former-StmtNode-For-1.map WithExpr Expr (λ e. e.0) ys)) (former-StmtNode-For-1.map Expr code.Of_expression coded_expression (former-StmtNode-For-1.map WithExpr Expr (λ e. e.0) ys))
  held_tied None = tt
  held_tied (Some y) = y.1

  held_first_tied : (ys : Option WithForFirst) → Held (PartsTied env unit Firsts) (former-StmtNode-For-0.map ForFirst means.Of_first meant_first (former-StmtNode-For-0.map WithForFirst ForFirst (λ e. e.0) ys)) (former-StmtNode-For-0.map ForFirst code.Of_first coded_first (former-StmtNode-For-0.map WithForFirst ForFirst (λ e. e.0) ys))
  held_first_tied None = tt
  held_first_tied (Some y) = y.1

  held_statement_tied : (ys : Option WithStmt) → Held (PartsTied env unit Stated) (former-StmtNode-If-2.map Stmt means.Of_statement meant_statement (former-StmtNode-If-2.map WithStmt Stmt (λ e. e.0) ys)) (former-StmtNode-If-2.map Stmt code.Of_statement coded_statement (former-StmtNode-If-2.map WithStmt Stmt (λ e. e.0) ys))
  held_statement_tied None = tt
  held_statement_tied (Some y) = y.1

  named_tied : (ys : List (List ℕ × Option WithExpr)) → Each (Named (Held (PartsTied env unit Expressed))) (former-ForFirst-Var-0.map Expr means.Of_expression meant_expression (former-ForFirst-Var-0.map WithExpr Expr (λ e. e.0) ys)) (former-ForFirst-Var-0.map Expr code.Of_expression coded_expression (former-ForFirst-Var-0.map WithExpr Expr (λ e. e.0) ys))
  named_tied [] = tt
  named_tied ((name, None) ∷ ys) = ((refl, tt), named_tied ys)
  named_tied ((name, Some y) ∷ ys) = ((refl, y.1), named_tied ys)

  same_names : (ys : List (List ℕ × Option WithExpr)) → map (λ v. v.0) (former-ForFirst-Var-0.map Expr means.Of_expression meant_expression (former-ForFirst-Var-0.map WithExpr Expr (λ e. e.0) ys)) ≡ map (λ v. v.0) (former-ForFirst-Var-0.map Expr code.Of_expression coded_expression (former-ForFirst-Var-0.map WithExpr Expr (λ e. e.0) ys))
  same_names [] = refl
  same_names (y ∷ ys) = ap (λ names. y.0 ∷ names) (same_names ys)

  -- ---- in the words of the lemmas about statements

  held_so : (names : Around) (m : Option Expression) (c : Option Coded) → Held (Expressed names) m c → HeldTied env unit names m c
  held_so names None None t = tt
  held_so names (Some m) (Some c) t = t
  held_so names None (Some c) t = absurd t
  held_so names (Some m) None t = absurd t

  held_statement_so : (names : Around) (m : Option Statement) (c : Option CodedStatement) → Held (Stated names) m c → HeldStatementTied env unit names m c
  held_statement_so names None None t = tt
  held_statement_so names (Some m) (Some c) t = t
  held_statement_so names None (Some c) t = absurd t
  held_statement_so names (Some m) None t = absurd t

  held_first_so : (names : Around) (m : Option First) (c : Option CodedPart) → Held (Firsts names) m c → HeldFirstTied env unit names m c
  held_first_so names None None t = tt
  held_first_so names (Some m) (Some c) t = t
  held_first_so names None (Some c) t = absurd t
  held_first_so names (Some m) None t = absurd t

  named_so : (names : Around) (ms : List (List ℕ × Option Expression)) (cs : List (List ℕ × Option Coded)) → Each (Named (Held (Expressed names))) ms cs → NamedHeldTied env unit names ms cs
  named_so names [] [] t = tt
  named_so names (m ∷ ms) (c ∷ cs) t = (t.0.0, held_so names m.1 c.1 t.0.1, named_so names ms cs t.1)
  named_so names [] (c ∷ cs) t = absurd t
  named_so names (m ∷ ms) [] t = absurd t

  branches_so : (names : Around) (ms : List Branch) (cs : List CodedBranch) → Each (Branches names) ms cs → BranchesTied env unit names ms cs
  branches_so names [] [] t = tt
  branches_so names (m ∷ ms) (c ∷ cs) t = (t.0, branches_so names ms cs t.1)
  branches_so names [] (c ∷ cs) t = absurd t
  branches_so names (m ∷ ms) [] t = absurd t

  -- ---- what stands first in the head of a `for`, and cases of a `switch`

  normal_declare : (vs : List (List ℕ × Option Expression)) (x : Context) (s : State) → Given (λ d. d ≡ Normal) (means.declare vs x s)
  normal_declare [] x s = refl
  normal_declare ((name, None) ∷ vs) x s = normal_declare vs x s
  normal_declare ((name, Some a) ∷ vs) x s =
      given_then (λ d. d ≡ Normal) (evaluated a x s) (λ v s. and_then (assign_name name v x s) (λ w s. means.declare vs x s))
      (λ v t. given_then (λ d. d ≡ Normal) (assign_name name v x t) (λ w s. means.declare vs x s) (λ w u. normal_declare vs x u))

  declaring_first : (names : Around) (ms : List (List ℕ × Option Expression)) (cs : List (List ℕ × Option Coded)) → Each (Named (Held (Expressed names))) ms cs → Firsts names (means.declare ms) (write.declaring cs)
  declaring_first names ms cs t = record { part = declaring_tied env unit names ms cs (named_so names ms cs t); normal = normal_declare ms }

  value_first : (names : Around) (m : Expression) (c : Coded) → Expressed names m c → Firsts names (means.value_and_on m) (write.evaluate c)
  value_first names m c t = record { part = evaluate_tied env unit names m c t; normal = λ x s. given_then (λ d. d ≡ Normal) (evaluated m x s) (λ v s. Gives Normal s) (λ v t. refl) }

  declaring_part_tied : (ys : List (List ℕ × Option WithExpr)) → PartsTied env unit Firsts (means.declaring (former-ForFirst-Var-0.map Expr means.Of_expression meant_expression (former-ForFirst-Var-0.map WithExpr Expr (λ e. e.0) ys))) (code.declaring (former-ForFirst-Var-0.map Expr code.Of_expression coded_expression (former-ForFirst-Var-0.map WithExpr Expr (λ e. e.0) ys)))
  declaring_part_tied ys =
      tied_vars env unit Firsts _ _ _ _ (same_names ys)
      (tied_one env unit (λ names. Each (Named (Held (Expressed names)))) Firsts _ _ means.declare write.declaring declaring_first (tied_each_named_held env unit Expressed _ _ (named_tied ys)))

  first_by : (y : ForFirst-F WithExprNode WithForFirst WithForInHead WithStmtNode WithCase WithExpr WithFunctionTree WithStmt) → PartsTied env unit Firsts (meant_first_of (only_first y)) (coded_first_of (only_first y))
  first_by (ForFirst-F.ForFirst::Var ys) = declaring_part_tied ys
  first_by (ForFirst-F.ForFirst::Expr a) = tied_one env unit Expressed Firsts (meant_expression a.0) (coded_expression a.0) means.value_and_on write.evaluate value_first a.1

  branch_by : (y : Case-F WithExprNode WithForFirst WithForInHead WithStmtNode WithCase WithExpr WithFunctionTree WithStmt) → PartsTied env unit Branches (meant_branch_of (only_branch y)) (coded_branch_of (only_branch y))
  branch_by y =
      tied_two env unit (λ names. Held (Expressed names)) (λ names. Each (Stated names)) Branches _ _ _ _ (λ test body. record { test = test; body = body }) (λ test body. record { test = test; body = body })
      (λ names m c ms cs r s. record { test = held_so names m c r; body = statements_of env unit names ms cs s })
      (tied_held env unit Expressed _ _ (held_tied y.test)) (tied_each env unit Stated _ _ (statements_tied y.body))

  -- ---- functions

  function_by : (y : FunctionTree-F WithExprNode WithForFirst WithForInHead WithStmtNode WithCase WithExpr WithFunctionTree WithStmt) → FunctionPartTied env unit (meant_function_of (only_function y)) (coded_function_of (only_function y))
  function_by y = function_part_tied env unit y.name y.params _ _ (tied_each env unit Stated _ _ (statements_tied y.body))

  -- ---- statements

  -- the block of a `catch`, in the scope with its name
  caught_tied : (ys : Option (List ℕ × List WithStmt)) → PartsTied env unit (λ names m c. CaughtTied env unit names m c) (means.caught_part (former-StmtNode-Try-1.map Stmt means.Of_statement meant_statement (former-StmtNode-Try-1.map WithStmt Stmt (λ e. e.0) ys))) (code.caught_part (former-StmtNode-Try-1.map Stmt code.Of_statement coded_statement (former-StmtNode-Try-1.map WithStmt Stmt (λ e. e.0) ys)))
  caught_tied None = tied_leaf env unit (λ names m c. CaughtTied env unit names m c) None None (λ names. tt)
  caught_tied (Some y) =
      let InCatch : Around → List Statement → List CodedStatement → Type 0 = λ names. Each (Stated (((y.0, true) ∷ []) ∷ names)) in
      tied_one env unit InCatch (λ names m c. CaughtTied env unit names m c) _ _ (λ body. Some (y.0, body)) (λ body. Some (y.0, body)) (λ names ms cs r. (refl, statements_of env unit _ ms cs r))
      (tied_further env unit (λ names. Each (Stated names)) InCatch (λ first around. ((y.0, true) ∷ []) ∷ around) _ _ (λ first names r. r) (λ first. refl)
      (tied_undeclared env unit (λ names. Each (Stated names)) _ _ (tied_each env unit Stated _ _ (statements_tied y.1))))

  last_tied : (ys : Option (List WithStmt)) → PartsTied env unit (λ names m c. LastTied env unit names m c) (means.last_part (former-StmtNode-Try-2.map Stmt means.Of_statement meant_statement (former-StmtNode-Try-2.map WithStmt Stmt (λ e. e.0) ys))) (code.last_part (former-StmtNode-Try-2.map Stmt code.Of_statement coded_statement (former-StmtNode-Try-2.map WithStmt Stmt (λ e. e.0) ys)))
  last_tied None = tied_leaf env unit (λ names m c. LastTied env unit names m c) None None (λ names. tt)
  last_tied (Some ys) =
      tied_one env unit (λ names. Each (Stated names)) (λ names m c. LastTied env unit names m c) _ _ Some Some (λ names ms cs r. statements_of env unit names ms cs r) (tied_each env unit Stated _ _ (statements_tied ys))

  statement_node_by : (y : StmtNode-F WithExprNode WithForFirst WithForInHead WithStmtNode WithCase WithExpr WithFunctionTree WithStmt) → PartsTied env unit BegunStated (meant_statement_node_of (only_statement_node y)) (coded_statement_node_of (only_statement_node y))
  statement_node_by (StmtNode-F.Block body) =
      tied_one env unit (λ names. Each (Stated names)) BegunStated _ _ (λ body. means.plain (in_turn body)) write.block (λ names ms cs r. stmt.block_tied env unit names ms cs (statements_of env unit names ms cs r))
      (tied_each env unit Stated _ _ (statements_tied body))
  statement_node_by (StmtNode-F.StmtNode::Var ys) =
      tied_one env unit Firsts BegunStated _ _ means.plain write.statement_of (λ names m c r. stmt.plain_tied env unit names m c r.part) (declaring_part_tied ys)
  statement_node_by StmtNode-F.Empty = tied_leaf env unit BegunStated _ _ (λ names. stmt.empty_tied env unit names)
  statement_node_by (StmtNode-F.StmtNode::Expr a) =
      tied_one env unit Expressed BegunStated (meant_expression a.0) (coded_expression a.0) (λ a. means.plain (means.value_and_on a)) (λ a. write.statement_of (write.evaluate a)) (λ names. stmt.value_tied env unit names) a.1
  statement_node_by (StmtNode-F.If a body other) =
      tied_three env unit Expressed Stated (λ names. Held (Stated names)) BegunStated (meant_expression a.0) (coded_expression a.0) (meant_statement body.0) (coded_statement body.0) _ _ means.if_else write.if_else
      (λ names m c b cb d cd r s t. stmt.if_tied env unit names m b d c cb cd r s (held_statement_so names d cd t)) a.1 body.1 (tied_held env unit Stated _ _ (held_statement_tied other))
  statement_node_by (StmtNode-F.Do body a) =
      tied_two env unit Stated Expressed BegunStated (meant_statement body.0) (coded_statement body.0) (meant_expression a.0) (coded_expression a.0) means.do_loop write.do_loop
      (λ names b cb m c s r. stmt.do_tied env unit names b m cb c s r) body.1 a.1
  statement_node_by (StmtNode-F.While a body) =
      tied_two env unit Expressed Stated BegunStated (meant_expression a.0) (coded_expression a.0) (meant_statement body.0) (coded_statement body.0) means.while_loop write.while_loop
      (λ names m c b cb r s. stmt.while_tied env unit names m b c cb r s) a.1 body.1
  statement_node_by (StmtNode-F.For first a update body) =
      tied_four env unit (λ names. Held (Firsts names)) (λ names. Held (Expressed names)) (λ names. Held (Expressed names)) Stated BegunStated _ _ _ _ _ _ (meant_statement body.0) (coded_statement body.0) means.for_loop write.for_loop
      (λ names f cf m c u cu b cb r s t v. stmt.for_tied env unit names f m u b cf c cu cb (held_first_so names f cf r) (held_so names m c s) (held_so names u cu t) v)
      (tied_held env unit Firsts _ _ (held_first_tied first)) (tied_held env unit Expressed _ _ (held_tied a)) (tied_held env unit Expressed _ _ (held_tied update)) body.1
  statement_node_by (StmtNode-F.ForIn h a body) =
      tied_three env unit Expressed Expressed Stated BegunStated (meant_head h.0) (coded_head h.0) (meant_expression a.0) (coded_expression a.0) (meant_statement body.0) (coded_statement body.0) means.for_in write.for_in
      (λ names m c v cv b cb r s t. stmt.for_in_tied env unit names m v b c cv cb r s t) h.1 a.1 body.1
  statement_node_by (StmtNode-F.Continue label) = tied_leaf env unit BegunStated _ _ (λ names. stmt.continue_tied env unit names label)
  statement_node_by (StmtNode-F.Break label) = tied_leaf env unit BegunStated _ _ (λ names. stmt.break_tied env unit names label)
  statement_node_by (StmtNode-F.Return a) =
      tied_one env unit (λ names. Held (Expressed names)) BegunStated _ _ means.return write.return (λ names m c r. stmt.return_tied env unit names m c (held_so names m c r)) (tied_held env unit Expressed _ _ (held_tied a))
  statement_node_by (StmtNode-F.Throw a) = tied_one env unit Expressed BegunStated (meant_expression a.0) (coded_expression a.0) means.throw_value write.throw_value (λ names. stmt.throw_tied env unit names) a.1
  statement_node_by (StmtNode-F.Switch a cases) =
      tied_two env unit Expressed (λ names. Each (Branches names)) BegunStated (meant_expression a.0) (coded_expression a.0) _ _ means.switch write.switch
      (λ names m c ms cs r s. stmt.switch_tied env unit names m ms c cs r (branches_so names ms cs s)) a.1 (tied_each env unit Branches _ _ (cases_tied cases))
  statement_node_by (StmtNode-F.Try body caught last) =
      tied_three env unit (λ names. Each (Stated names)) (λ names m c. CaughtTied env unit names m c) (λ names m c. LastTied env unit names m c) BegunStated _ _ _ _ _ _ means.try_catch write.try_catch
      (λ names ms cs k ck l cl r s t. stmt.try_tied env unit names ms k l cs ck cl (statements_of env unit names ms cs r) s t)
      (tied_each env unit Stated _ _ (statements_tied body)) (caught_tied caught) (last_tied last)
  statement_node_by (StmtNode-F.Label label body) =
      tied_one env unit Stated BegunStated (meant_statement body.0) (coded_statement body.0) (means.labelled label) (write.labelled label) (λ names. stmt.label_tied env unit names label) body.1
  statement_node_by (StmtNode-F.FunctionDecl f) =
      tied_declaration env unit BegunStated (meant_function f.0) (coded_function f.0) means.declaration code.declaration (λ names m c. stmt.declaration_tied env unit names m c) f.1

  statement_by : (y : Stmt-F WithExprNode WithForFirst WithForInHead WithStmtNode WithCase WithExpr WithFunctionTree WithStmt) → PartsTied env unit Stated (meant_statement_of (only_statement y)) (coded_statement_of (only_statement y))
  statement_by y = tied_one env unit BegunStated Stated (meant_statement_node y.node.0) (coded_statement_node y.node.0) means.begun_statement (λ c. c) (λ names m c r. r) y.node.1

  -- ---- every tree

  node_step : (x : ExprNode-F ExprNode ForFirst ForInHead StmtNode Case Expr FunctionTree Stmt) (y : ExprNode-F WithExprNode WithForFirst WithForInHead WithStmtNode WithCase WithExpr WithFunctionTree WithStmt) → only_node y ≡ x → TiedExprNode (roll-ExprNode x)
  node_step x y is = node_from (PartsTied env unit Begun) x (subst (λ x. PartsTied env unit Begun (meant_node_of x) (coded_node_of x)) is (node_by y))

  first_step : (x : ForFirst-F ExprNode ForFirst ForInHead StmtNode Case Expr FunctionTree Stmt) (y : ForFirst-F WithExprNode WithForFirst WithForInHead WithStmtNode WithCase WithExpr WithFunctionTree WithStmt) → only_first y ≡ x → TiedForFirst (roll-ForFirst x)
  first_step x y is = first_from (PartsTied env unit Firsts) x (subst (λ x. PartsTied env unit Firsts (meant_first_of x) (coded_first_of x)) is (first_by y))

  head_step : (x : ForInHead-F ExprNode ForFirst ForInHead StmtNode Case Expr FunctionTree Stmt) (y : ForInHead-F WithExprNode WithForFirst WithForInHead WithStmtNode WithCase WithExpr WithFunctionTree WithStmt) → only_head y ≡ x → TiedForInHead (roll-ForInHead x)
  head_step x y is = head_from (PartsTied env unit Expressed) x (subst (λ x. PartsTied env unit Expressed (meant_head_of x) (coded_head_of x)) is (head_by y))

  statement_node_step : (x : StmtNode-F ExprNode ForFirst ForInHead StmtNode Case Expr FunctionTree Stmt) (y : StmtNode-F WithExprNode WithForFirst WithForInHead WithStmtNode WithCase WithExpr WithFunctionTree WithStmt) → only_statement_node y ≡ x → TiedStmtNode (roll-StmtNode x)
  statement_node_step x y is = statement_node_from (PartsTied env unit BegunStated) x (subst (λ x. PartsTied env unit BegunStated (meant_statement_node_of x) (coded_statement_node_of x)) is (statement_node_by y))

  branch_step : (x : Case-F ExprNode ForFirst ForInHead StmtNode Case Expr FunctionTree Stmt) (y : Case-F WithExprNode WithForFirst WithForInHead WithStmtNode WithCase WithExpr WithFunctionTree WithStmt) → only_branch y ≡ x → TiedCase (roll-Case x)
  branch_step x y is = branch_from (PartsTied env unit Branches) x (subst (λ x. PartsTied env unit Branches (meant_branch_of x) (coded_branch_of x)) is (branch_by y))

  expression_step : (x : Expr-F ExprNode ForFirst ForInHead StmtNode Case Expr FunctionTree Stmt) (y : Expr-F WithExprNode WithForFirst WithForInHead WithStmtNode WithCase WithExpr WithFunctionTree WithStmt) → only_expression y ≡ x → TiedExpr (roll-Expr x)
  expression_step x y is = expression_from (PartsTied env unit Expressed) x (subst (λ x. PartsTied env unit Expressed (meant_expression_of x) (coded_expression_of x)) is (expression_by y))

  function_step : (x : FunctionTree-F ExprNode ForFirst ForInHead StmtNode Case Expr FunctionTree Stmt) (y : FunctionTree-F WithExprNode WithForFirst WithForInHead WithStmtNode WithCase WithExpr WithFunctionTree WithStmt) → only_function y ≡ x → TiedFunctionTree (roll-FunctionTree x)
  function_step x y is = function_from (FunctionPartTied env unit) x (subst (λ x. FunctionPartTied env unit (meant_function_of x) (coded_function_of x)) is (function_by y))

  statement_step : (x : Stmt-F ExprNode ForFirst ForInHead StmtNode Case Expr FunctionTree Stmt) (y : Stmt-F WithExprNode WithForFirst WithForInHead WithStmtNode WithCase WithExpr WithFunctionTree WithStmt) → only_statement y ≡ x → TiedStmt (roll-Stmt x)
  statement_step x y is = statement_from (PartsTied env unit Stated) x (subst (λ x. PartsTied env unit Stated (meant_statement_of x) (coded_statement_of x)) is (statement_by y))

  every_expression : (e : Expr) → TiedExpr e
  every_expression = ind-Expr TiedExprNode TiedForFirst TiedForInHead TiedStmtNode TiedCase TiedExpr TiedFunctionTree TiedStmt node_step first_step head_step statement_node_step branch_step expression_step function_step statement_step

  every_statement : (s : Stmt) → TiedStmt s
  every_statement = ind-Stmt TiedExprNode TiedForFirst TiedForInHead TiedStmtNode TiedCase TiedExpr TiedFunctionTree TiedStmt node_step first_step head_step statement_node_step branch_step expression_step function_step statement_step

  pub expression_tied : (e : Expr) → PartsTied env unit (λ names m c. ExpressionTied env unit names m c) (means.expression e) (code.expression e)
  expression_tied e =
      subst (λ p. PartsTied env unit Expressed (p e) (code.expression e)) (sym meant_all) (subst (λ q. PartsTied env unit Expressed (meant_expression e) (q e)) (sym coded_all) (every_expression e))

  pub statement_tied : (s : Stmt) → PartsTied env unit (λ names m c. StatementTied env unit names m c) (means.statement s) (code.statement s)
  statement_tied s =
      subst (λ p. PartsTied env unit Stated (p s) (code.statement s)) (sym meant_statements) (subst (λ q. PartsTied env unit Stated (meant_statement s) (q s)) (sym coded_statements) (every_statement s))
