-- The code of every script is small: by induction on trees.
use Rattle.std.proofs.Common.{◌≡◌, ℕ, suc, ◌+◌, ◌*◌, ◌≤◌, List, [], ◌∷◌, length, map, Bool, true, false, Option, Some, None, refl, ap, sym, subst, arith}
use Rattle.std.specs.Option.{option_map_or}
use Rattle.njs_tree.specs.declared.tree.Script.{Script}
use Rattle.njs_tree.specs.declared.tree.Item.{Item}
use Rattle.njs_tree.specs.declared.tree.Item.TheVariants as items
use Rattle.njs_tree.specs.declared.tree.ExprNode.{ExprNode}
use Rattle.njs_tree.specs.declared.tree.ForFirst.{ForFirst}
use Rattle.njs_tree.specs.declared.tree.ForInHead.{ForInHead}
use Rattle.njs_tree.specs.declared.tree.StmtNode.{StmtNode}
use Rattle.njs_tree.specs.declared.tree.Case.{Case}
use Rattle.njs_tree.specs.declared.tree.Expr.{Expr}
use Rattle.njs_tree.specs.declared.tree.FunctionTree.{FunctionTree}
use Rattle.njs_tree.specs.declared.tree.Stmt.{Stmt}
use Rattle.njs_tree.specs.declared.tree.ExprNode.TheOpen.{ExprNode-F, ForFirst-F, ForInHead-F, StmtNode-F, Case-F, Expr-F, FunctionTree-F, Stmt-F}
use Rattle.njs_tree.specs.declared.tree.ExprNode.TheShapes.{former-ExprNode-Array-0, former-ExprNode-Object-0, former-ForFirst-Var-0, former-StmtNode-Block-0, former-StmtNode-If-2, former-StmtNode-For-0, former-StmtNode-For-1, former-StmtNode-Switch-1, former-StmtNode-Try-1, former-StmtNode-Try-2}
use Rattle.njs_tree.specs.declared.tree.ExprNode.TheViews.{roll-ExprNode, roll-ForFirst, roll-ForInHead, roll-StmtNode, roll-Case, roll-Expr, roll-FunctionTree, roll-Stmt}
use Rattle.njs_tree.specs.declared.tree.ExprNode.TheFolds.{map-ExprNode, map-ForFirst, map-ForInHead, map-StmtNode, map-Case, map-Expr, map-FunctionTree, map-Stmt, ind-Expr, ind-Stmt}
use Rattle.njs_tree.specs.declared.tree.UnaryOp.{UnaryOp}
use Rattle.njs_tree.specs.declared.tree.UnaryOp.TheVariants as sign
use Rattle.njs_tree.specs.declared.tree.UpdateOp.{UpdateOp}
use Rattle.njs_tree.specs.declared.tree.BinaryOp.{BinaryOp}
use Rattle.njs_code.specs.declared.op.Kind.TheVariants as kind
use Rattle.njs_meaning.specs.Places.{Bindings, Around}
use Rattle.njs_meaning.specs.Parts.{leaf, one, two, each, held, each_named, each_held, each_named_held}
use Rattle.njs_simul.specs.Emission as emit
use Rattle.njs_simul.specs.Emission.{Form, IsValue, IsName, IsMember, Coded, op, deeper, value, value_size, values_size, elements_size, fields_size, fetch_size, method_size, delete_size, type_size}
use Rattle.njs_simul.specs.EmissionOfStatements as write
use Rattle.njs_simul.specs.EmissionOfStatements.{CodedStatement, CodedPart, CodedBranch, in_turn_size, declare_size, branches_size, bodies_size, at_start}
use Rattle.njs_simul.specs.Compiled as code
use Rattle.njs_simul.specs.Compiled.{Placed, in_own_name, bare_name, module_around, code_of}
use Rattle.njs_simul.specs.Sizes.{items_size}
use Rattle.njs_simul.specs.Counts.{total, total_held, total_named, total_named_held, or_none, caught_count, last_count, nodes_of_expression, nodes_of_statement, nodes_of_item, nodes_of_items, nodes_of, operations_in, operations_of, SizesAreSmall}
use Rattle.njs_simul.proofs.Sizes.{sizes_are_true}
use Rattle.njs_simul.proofs.SmallParts.{inside, PartSmall, All_small, Perhaps_small, Named_small, Nothing, Within, small_leaf, small_one, small_two, small_three, small_four, small_wider, small_held, small_more, small_with_vars, small_undeclared, small_further, small_function, small_declaration}
use Rattle.njs_simul.proofs.CodedTrees.{coded_all, coded_statements, coded_node, coded_node_of, coded_first, coded_first_of, coded_head, coded_head_of, coded_statement_node, coded_statement_node_of, coded_branch, coded_branch_of, coded_expression, coded_expression_of, coded_function, coded_function_of, coded_statement, coded_statement_of}
use Rattle.njs_simul.proofs.CountedTrees.{count_all, count_statements, count_node, count_node_of, node_from, count_first, count_first_of, first_from, count_head, count_head_of, head_from, count_statement_node, count_statement_node_of, statement_node_from, count_branch, count_branch_of, branch_from, count_expression, count_expression_of, expression_from, count_function, count_function_of, function_from, count_statement, count_statement_of, statement_from}

-- ---- how large code is: an expression leaves room for what asks its value

abbrev Coded_so : Coded → ℕ → Type 0
Coded_so c m = c.size + 4 ≤ m

abbrev Parts_so : CodedPart → ℕ → Type 0
Parts_so c m = c.size ≤ m

abbrev Statements_so : CodedStatement → ℕ → Type 0
Statements_so c m = c.size ≤ m

abbrev Branches_so : CodedBranch → ℕ → Type 0
Branches_so b m = option_map_or (λ test. value_size test + 1) b.test 0 + in_turn_size b.body ≤ m

-- ---- what is so of each tree

abbrev SoExprNode : ExprNode → Type 0
SoExprNode x = PartSmall Coded_so (16 * suc (count_node x)) (coded_node x)

abbrev SoForFirst : ForFirst → Type 0
SoForFirst x = PartSmall Parts_so (16 * count_first x) (coded_first x)

abbrev SoForInHead : ForInHead → Type 0
SoForInHead x = PartSmall Coded_so (16 * count_head x + 4) (coded_head x)

abbrev SoStmtNode : StmtNode → Type 0
SoStmtNode x = PartSmall Statements_so (16 * suc (count_statement_node x)) (coded_statement_node x)

abbrev SoCase : Case → Type 0
SoCase x = PartSmall Branches_so (16 * count_branch x) (coded_branch x)

abbrev SoExpr : Expr → Type 0
SoExpr x = PartSmall Coded_so (16 * count_expression x) (coded_expression x)

-- a function declares nothing where it stands
pub record FunctionSmall (n : ℕ) (q : code.Of_function) : Type 0 where
  pub small : PartSmall Nothing (16 * n + 5) q
  pub none : (first : ℕ) → q.declared first ≡ []

abbrev SoFunctionTree : FunctionTree → Type 0
SoFunctionTree x = FunctionSmall (count_function x) (coded_function x)

abbrev SoStmt : Stmt → Type 0
SoStmt x = PartSmall Statements_so (16 * count_statement x) (coded_statement x)

-- with what is so of it
abbrev WithExprNode : Type 0
WithExprNode = (x : ExprNode) × SoExprNode x

abbrev WithForFirst : Type 0
WithForFirst = (x : ForFirst) × SoForFirst x

abbrev WithForInHead : Type 0
WithForInHead = (x : ForInHead) × SoForInHead x

abbrev WithStmtNode : Type 0
WithStmtNode = (x : StmtNode) × SoStmtNode x

abbrev WithCase : Type 0
WithCase = (x : Case) × SoCase x

abbrev WithExpr : Type 0
WithExpr = (x : Expr) × SoExpr x

abbrev WithFunctionTree : Type 0
WithFunctionTree = (x : FunctionTree) × SoFunctionTree x

abbrev WithStmt : Type 0
WithStmt = (x : Stmt) × SoStmt x

abbrev only_node : ExprNode-F WithExprNode WithForFirst WithForInHead WithStmtNode WithCase WithExpr WithFunctionTree WithStmt → ExprNode-F ExprNode ForFirst ForInHead StmtNode Case Expr FunctionTree Stmt
only_node y = map-ExprNode WithExprNode WithForFirst WithForInHead WithStmtNode WithCase WithExpr WithFunctionTree WithStmt ExprNode ForFirst ForInHead StmtNode Case Expr FunctionTree Stmt (λ e. e.0) (λ e. e.0) (λ e. e.0) (λ e. e.0) (λ e. e.0) (λ e. e.0) (λ e. e.0) (λ e. e.0) y

abbrev only_first : ForFirst-F WithExprNode WithForFirst WithForInHead WithStmtNode WithCase WithExpr WithFunctionTree WithStmt → ForFirst-F ExprNode ForFirst ForInHead StmtNode Case Expr FunctionTree Stmt
only_first y = map-ForFirst WithExprNode WithForFirst WithForInHead WithStmtNode WithCase WithExpr WithFunctionTree WithStmt ExprNode ForFirst ForInHead StmtNode Case Expr FunctionTree Stmt (λ e. e.0) (λ e. e.0) (λ e. e.0) (λ e. e.0) (λ e. e.0) (λ e. e.0) (λ e. e.0) (λ e. e.0) y

abbrev only_head : ForInHead-F WithExprNode WithForFirst WithForInHead WithStmtNode WithCase WithExpr WithFunctionTree WithStmt → ForInHead-F ExprNode ForFirst ForInHead StmtNode Case Expr FunctionTree Stmt
only_head y = map-ForInHead WithExprNode WithForFirst WithForInHead WithStmtNode WithCase WithExpr WithFunctionTree WithStmt ExprNode ForFirst ForInHead StmtNode Case Expr FunctionTree Stmt (λ e. e.0) (λ e. e.0) (λ e. e.0) (λ e. e.0) (λ e. e.0) (λ e. e.0) (λ e. e.0) (λ e. e.0) y

abbrev only_statement_node : StmtNode-F WithExprNode WithForFirst WithForInHead WithStmtNode WithCase WithExpr WithFunctionTree WithStmt → StmtNode-F ExprNode ForFirst ForInHead StmtNode Case Expr FunctionTree Stmt
only_statement_node y = map-StmtNode WithExprNode WithForFirst WithForInHead WithStmtNode WithCase WithExpr WithFunctionTree WithStmt ExprNode ForFirst ForInHead StmtNode Case Expr FunctionTree Stmt (λ e. e.0) (λ e. e.0) (λ e. e.0) (λ e. e.0) (λ e. e.0) (λ e. e.0) (λ e. e.0) (λ e. e.0) y

abbrev only_branch : Case-F WithExprNode WithForFirst WithForInHead WithStmtNode WithCase WithExpr WithFunctionTree WithStmt → Case-F ExprNode ForFirst ForInHead StmtNode Case Expr FunctionTree Stmt
only_branch y = map-Case WithExprNode WithForFirst WithForInHead WithStmtNode WithCase WithExpr WithFunctionTree WithStmt ExprNode ForFirst ForInHead StmtNode Case Expr FunctionTree Stmt (λ e. e.0) (λ e. e.0) (λ e. e.0) (λ e. e.0) (λ e. e.0) (λ e. e.0) (λ e. e.0) (λ e. e.0) y

abbrev only_expression : Expr-F WithExprNode WithForFirst WithForInHead WithStmtNode WithCase WithExpr WithFunctionTree WithStmt → Expr-F ExprNode ForFirst ForInHead StmtNode Case Expr FunctionTree Stmt
only_expression y = map-Expr WithExprNode WithForFirst WithForInHead WithStmtNode WithCase WithExpr WithFunctionTree WithStmt ExprNode ForFirst ForInHead StmtNode Case Expr FunctionTree Stmt (λ e. e.0) (λ e. e.0) (λ e. e.0) (λ e. e.0) (λ e. e.0) (λ e. e.0) (λ e. e.0) (λ e. e.0) y

abbrev only_function : FunctionTree-F WithExprNode WithForFirst WithForInHead WithStmtNode WithCase WithExpr WithFunctionTree WithStmt → FunctionTree-F ExprNode ForFirst ForInHead StmtNode Case Expr FunctionTree Stmt
only_function y = map-FunctionTree WithExprNode WithForFirst WithForInHead WithStmtNode WithCase WithExpr WithFunctionTree WithStmt ExprNode ForFirst ForInHead StmtNode Case Expr FunctionTree Stmt (λ e. e.0) (λ e. e.0) (λ e. e.0) (λ e. e.0) (λ e. e.0) (λ e. e.0) (λ e. e.0) (λ e. e.0) y

abbrev only_statement : Stmt-F WithExprNode WithForFirst WithForInHead WithStmtNode WithCase WithExpr WithFunctionTree WithStmt → Stmt-F ExprNode ForFirst ForInHead StmtNode Case Expr FunctionTree Stmt
only_statement y = map-Stmt WithExprNode WithForFirst WithForInHead WithStmtNode WithCase WithExpr WithFunctionTree WithStmt ExprNode ForFirst ForInHead StmtNode Case Expr FunctionTree Stmt (λ e. e.0) (λ e. e.0) (λ e. e.0) (λ e. e.0) (λ e. e.0) (λ e. e.0) (λ e. e.0) (λ e. e.0) y

-- ---- sizes

fetch_few : (form : Form) → fetch_size form ≤ 1
fetch_few IsValue = omega arith
fetch_few (IsName name) = omega arith
fetch_few IsMember = omega arith

value_few : (c : Coded) → value_size c ≤ c.size + 1
value_few c = let e = fetch_few c.form in omega (arith, e)

method_few : (form : Form) → method_size form ≤ 2
method_few IsValue = omega arith
method_few (IsName name) = omega arith
method_few IsMember = omega arith

delete_few : (form : Form) → delete_size form ≤ 2
delete_few IsValue = omega arith
delete_few (IsName name) = omega arith
delete_few IsMember = omega arith

type_few : (form : Form) → type_size form ≤ 2
type_few IsValue = omega arith
type_few (IsName name) = omega arith
type_few IsMember = omega arith

values_few : (cs : List Coded) (m : ℕ) → All_small Coded_so cs m → values_size cs ≤ m
values_few [] m h = omega arith
values_few (c ∷ cs) m h = let v = value_few c in let p = h.2 in let w = h.4 in let r = values_few cs h.1 h.3 in omega (arith, v, p, w, r)

elements_few : (cs : List (Option Coded)) (m : ℕ) → All_small (Perhaps_small Coded_so) cs m → elements_size cs ≤ m
elements_few [] m h = omega arith
elements_few (None ∷ cs) m h = let w = h.4 in let r = elements_few cs h.1 h.3 in omega (arith, w, r)
elements_few (Some c ∷ cs) m h = let v = value_few c in let p = h.2 in let w = h.4 in let r = elements_few cs h.1 h.3 in omega (arith, v, p, w, r)

fields_few : (cs : List (List ℕ × Coded)) (m : ℕ) → All_small (Named_small Coded_so) cs m → fields_size cs ≤ m
fields_few [] m h = omega arith
fields_few (c ∷ cs) m h = let v = value_few c.1 in let p = h.2 in let w = h.4 in let r = fields_few cs h.1 h.3 in omega (arith, v, p, w, r)

declare_few : (cs : List (List ℕ × Option Coded)) (m : ℕ) → All_small (Named_small (Perhaps_small Coded_so)) cs m → declare_size cs ≤ m
declare_few [] m h = omega arith
declare_few ((name, None) ∷ cs) m h = let w = h.4 in let r = declare_few cs h.1 h.3 in omega (arith, w, r)
declare_few ((name, Some c) ∷ cs) m h = let v = value_few c in let p = h.2 in let w = h.4 in let r = declare_few cs h.1 h.3 in omega (arith, v, p, w, r)

in_turn_few : (cs : List CodedStatement) (m : ℕ) → All_small Statements_so cs m → Within cs m
in_turn_few [] m h = omega arith
in_turn_few (c ∷ cs) m h = let p = h.2 in let w = h.4 in let r = in_turn_few cs h.1 h.3 in omega (arith, p, w, r)

branches_few : (bs : List CodedBranch) (m : ℕ) → All_small Branches_so bs m → branches_size bs + bodies_size bs ≤ m
branches_few [] m h = omega arith
branches_few (b ∷ bs) m h = let p = h.2 in let w = h.4 in let r = branches_few bs h.1 h.3 in omega (arith, p, w, r)

sole_few : (f : UnaryOp) (a : Coded) (m : ℕ) → Coded_so a m → Coded_so (emit.sole f a) (m + 16)
sole_few sign.Delete a m p = let d = delete_few a.form in omega (arith, p, d)
sole_few sign.TypeOf a m p = let d = type_few a.form in omega (arith, p, d)
sole_few sign.Void a m p = let v = value_few a in omega (arith, p, v)
sole_few sign.Plus a m p = let v = value_few a in omega (arith, p, v)
sole_few sign.Minus a m p = let v = value_few a in omega (arith, p, v)
sole_few sign.BitNot a m p = let v = value_few a in omega (arith, p, v)
sole_few sign.Not a m p = let v = value_few a in omega (arith, p, v)

stepping_few : (f : UpdateOp) (prefix : Bool) (a : Coded) (m : ℕ) → Coded_so a m → Coded_so (emit.stepping f prefix a) (m + 16)
stepping_few f true a m p = omega (arith, p)
stepping_few f false a m p = omega (arith, p)

assignment_few : (f : Option BinaryOp) (a b : Coded) (i j : ℕ) → Coded_so a i → Coded_so b j → Coded_so (emit.assignment f a b) (i + j + 16)
assignment_few None a b i j p q = let v = value_few b in omega (arith, p, q, v)
assignment_few (Some f) a b i j p q = let v = value_few b in omega (arith, p, q, v)

-- ---- lists of trees, and trees that may be missing

expressions_so : (ys : List WithExpr) → PartSmall (All_small Coded_so) (16 * total (map count_expression (map (λ e. e.0) ys))) (each (map coded_expression (map (λ e. e.0) ys)))
expressions_so [] = small_leaf (All_small Coded_so) _ 0 [] tt (omega arith)
expressions_so (y ∷ ys) = small_more Coded_so _ _ _ (coded_expression y.0) _ (omega arith) y.1 (expressions_so ys)

elements_so : (ys : List (Option WithExpr)) → PartSmall (All_small (Perhaps_small Coded_so)) (16 * total_held (former-ExprNode-Array-0.map Expr ℕ count_expression (former-ExprNode-Array-0.map WithExpr Expr (λ e. e.0) ys))) (each_held (former-ExprNode-Array-0.map Expr code.Of_expression coded_expression (former-ExprNode-Array-0.map WithExpr Expr (λ e. e.0) ys)))
elements_so [] = small_leaf (All_small (Perhaps_small Coded_so)) _ 0 [] tt (omega arith)
elements_so (None ∷ ys) = small_more (Perhaps_small Coded_so) 0 _ _ (held None) _ (omega arith) (small_leaf (Perhaps_small Coded_so) 0 0 None tt (omega arith)) (elements_so ys)
elements_so (Some y ∷ ys) = small_more (Perhaps_small Coded_so) _ _ _ (held (Some (coded_expression y.0))) _ (omega arith) (small_held Coded_so _ (coded_expression y.0) y.1) (elements_so ys)

fields_so : (ys : List (List ℕ × WithExpr)) → PartSmall (All_small (Named_small Coded_so)) (16 * total_named (former-ExprNode-Object-0.map Expr ℕ count_expression (former-ExprNode-Object-0.map WithExpr Expr (λ e. e.0) ys))) (each_named (former-ExprNode-Object-0.map Expr code.Of_expression coded_expression (former-ExprNode-Object-0.map WithExpr Expr (λ e. e.0) ys)))
fields_so [] = small_leaf (All_small (Named_small Coded_so)) _ 0 [] tt (omega arith)
fields_so (y ∷ ys) =
    small_two Coded_so (All_small (Named_small Coded_so)) (All_small (Named_small Coded_so)) _ _ _ 0 (coded_expression y.1.0) _ (λ x xs. (y.0, x) ∷ xs) (λ a b i j p q. (i, j, p, q, omega arith)) (omega arith) y.1.1 (fields_so ys)

statements_so : (ys : List WithStmt) → PartSmall (All_small Statements_so) (16 * total (former-StmtNode-Block-0.map Stmt ℕ count_statement (former-StmtNode-Block-0.map WithStmt Stmt (λ e. e.0) ys))) (each (former-StmtNode-Block-0.map Stmt code.Of_statement coded_statement (former-StmtNode-Block-0.map WithStmt Stmt (λ e. e.0) ys)))
statements_so [] = small_leaf (All_small Statements_so) _ 0 [] tt (omega arith)
statements_so (y ∷ ys) = small_more Statements_so _ _ _ (coded_statement y.0) _ (omega arith) y.1 (statements_so ys)

cases_so : (ys : List WithCase) → PartSmall (All_small Branches_so) (16 * total (former-StmtNode-Switch-1.map Case ℕ count_branch (former-StmtNode-Switch-1.map WithCase Case (λ e. e.0) ys))) (each (former-StmtNode-Switch-1.map Case code.Of_branch coded_branch (former-StmtNode-Switch-1.map WithCase Case (λ e. e.0) ys)))
cases_so [] = small_leaf (All_small Branches_so) _ 0 [] tt (omega arith)
cases_so (y ∷ ys) = small_more Branches_so _ _ _ (coded_branch y.0) _ (omega arith) y.1 (cases_so ys)

held_so : (ys : Option WithExpr) → PartSmall (Perhaps_small Coded_so) (16 * or_none (former-StmtNode-For-1.map Expr ℕ count_expression (former-StmtNode-For-1.map WithExpr Expr (λ e. e.0) ys))) (held (former-StmtNode-For-1.map Expr code.Of_expression coded_expression (former-StmtNode-For-1.map WithExpr Expr (λ e. e.0) ys)))
held_so None = small_leaf (Perhaps_small Coded_so) _ 0 None tt (omega arith)
held_so (Some y) = small_held Coded_so _ (coded_expression y.0) y.1

held_first_so : (ys : Option WithForFirst) → PartSmall (Perhaps_small Parts_so) (16 * or_none (former-StmtNode-For-0.map ForFirst ℕ count_first (former-StmtNode-For-0.map WithForFirst ForFirst (λ e. e.0) ys))) (held (former-StmtNode-For-0.map ForFirst code.Of_first coded_first (former-StmtNode-For-0.map WithForFirst ForFirst (λ e. e.0) ys)))
held_first_so None = small_leaf (Perhaps_small Parts_so) _ 0 None tt (omega arith)
held_first_so (Some y) = small_held Parts_so _ (coded_first y.0) y.1

held_statement_so : (ys : Option WithStmt) → PartSmall (Perhaps_small Statements_so) (16 * or_none (former-StmtNode-If-2.map Stmt ℕ count_statement (former-StmtNode-If-2.map WithStmt Stmt (λ e. e.0) ys))) (held (former-StmtNode-If-2.map Stmt code.Of_statement coded_statement (former-StmtNode-If-2.map WithStmt Stmt (λ e. e.0) ys)))
held_statement_so None = small_leaf (Perhaps_small Statements_so) _ 0 None tt (omega arith)
held_statement_so (Some y) = small_held Statements_so _ (coded_statement y.0) y.1

named_so : (ys : List (List ℕ × Option WithExpr)) → PartSmall (All_small (Named_small (Perhaps_small Coded_so))) (16 * total_named_held (former-ForFirst-Var-0.map Expr ℕ count_expression (former-ForFirst-Var-0.map WithExpr Expr (λ e. e.0) ys))) (each_named_held (former-ForFirst-Var-0.map Expr code.Of_expression coded_expression (former-ForFirst-Var-0.map WithExpr Expr (λ e. e.0) ys)))
named_so [] = small_leaf (All_small (Named_small (Perhaps_small Coded_so))) _ 0 [] tt (omega arith)
named_so ((name, None) ∷ ys) =
    small_two (Perhaps_small Coded_so) (All_small (Named_small (Perhaps_small Coded_so))) (All_small (Named_small (Perhaps_small Coded_so))) 0 _ _ 0 (held None) _ (λ x xs. (name, x) ∷ xs) (λ a b i j p q. (i, j, p, q, omega arith)) (omega arith)
    (small_leaf (Perhaps_small Coded_so) 0 0 None tt (omega arith)) (named_so ys)
named_so ((name, Some y) ∷ ys) =
    small_two (Perhaps_small Coded_so) (All_small (Named_small (Perhaps_small Coded_so))) (All_small (Named_small (Perhaps_small Coded_so))) _ _ _ 0 (held (Some (coded_expression y.0))) _ (λ x xs. (name, x) ∷ xs) (λ a b i j p q. (i, j, p, q, omega arith)) (omega arith)
    (small_held Coded_so _ (coded_expression y.0) y.1) (named_so ys)

-- ---- expressions

leaf_so : (c : Coded) → c.size ≤ 12 → PartSmall Coded_so (16 * 1) (leaf c)
leaf_so c le = small_leaf Coded_so (16 * 1) (c.size + 4) c (omega arith) (omega (arith, le))

of_one : (g : Coded → Coded) → ((a : Coded) (m : ℕ) → Coded_so a m → Coded_so (g a) (m + 16)) → (a : WithExpr) → PartSmall Coded_so (16 * suc (count_expression a.0)) (one (coded_expression a.0) g)
of_one g go a = small_one Coded_so Coded_so _ _ 16 (coded_expression a.0) g go (omega arith) a.1

of_two : (g : Coded → Coded → Coded) → ((a b : Coded) (i j : ℕ) → Coded_so a i → Coded_so b j → Coded_so (g a b) (i + j + 16)) → (a b : WithExpr)
    → PartSmall Coded_so (16 * suc (count_expression a.0 + count_expression b.0)) (two (coded_expression a.0) (coded_expression b.0) g)
of_two g go a b = small_two Coded_so Coded_so Coded_so _ _ _ 16 (coded_expression a.0) (coded_expression b.0) g go (omega arith) a.1 b.1

of_list : (g : Coded → List Coded → Coded) → ((a : Coded) (bs : List Coded) (i j : ℕ) → Coded_so a i → All_small Coded_so bs j → Coded_so (g a bs) (i + j + 16)) → (a : WithExpr) (bs : List WithExpr)
    → PartSmall Coded_so (16 * suc (count_expression a.0 + total (map count_expression (map (λ e. e.0) bs)))) (two (coded_expression a.0) (each (map coded_expression (map (λ e. e.0) bs))) g)
of_list g go a bs = small_two Coded_so (All_small Coded_so) Coded_so _ _ _ 16 (coded_expression a.0) _ g go (omega arith) a.1 (expressions_so bs)

name_so : (text : List ℕ) → PartSmall Coded_so (16 * 1) (code.name_part text)
name_so text first names = record { size = 5; has = omega arith; within = omega arith }

node_by : (y : ExprNode-F WithExprNode WithForFirst WithForInHead WithStmtNode WithCase WithExpr WithFunctionTree WithStmt) → PartSmall Coded_so (16 * suc (count_node_of (only_node y))) (coded_node_of (only_node y))
node_by (ExprNode-F.Comma a b) = of_two emit.comma (λ a b i j p q. let v = value_few a in let w = value_few b in omega (arith, p, q, v, w)) a b
node_by (ExprNode-F.Assign f a b) = of_two (emit.assignment f) (assignment_few f) a b
node_by (ExprNode-F.Cond a b d) =
    small_three Coded_so Coded_so Coded_so Coded_so _ _ _ _ 16 (coded_expression a.0) (coded_expression b.0) (coded_expression d.0) emit.conditional
    (λ a b d i j k p q r. let u = value_few a in let v = value_few b in let w = value_few d in omega (arith, p, q, r, u, v, w)) (omega arith) a.1 b.1 d.1
node_by (ExprNode-F.Logical f a b) = of_two (emit.either f) (λ a b i j p q. let v = value_few a in let w = value_few b in omega (arith, p, q, v, w)) a b
node_by (ExprNode-F.Binary f a b) = of_two (emit.both f) (λ a b i j p q. let v = value_few a in let w = value_few b in omega (arith, p, q, v, w)) a b
node_by (ExprNode-F.Unary f a) = of_one (emit.sole f) (sole_few f) a
node_by (ExprNode-F.Update f prefix a) = of_one (emit.stepping f prefix) (stepping_few f prefix) a
node_by (ExprNode-F.Call a bs) = of_list emit.calling (λ a bs i j p q. let f = method_few a.form in let v = values_few bs j q in omega (arith, p, f, v)) a bs
node_by (ExprNode-F.Member a name) = of_one (λ c. emit.member c name) (λ a m p. let v = value_few a in omega (arith, p, v)) a
node_by (ExprNode-F.Index a b) = of_two emit.index (λ a b i j p q. let v = value_few a in let w = value_few b in omega (arith, p, q, v, w)) a b
node_by (ExprNode-F.New a bs) = of_list emit.making (λ a bs i j p q. let f = value_few a in let v = values_few bs j q in omega (arith, p, f, v)) a bs
node_by (ExprNode-F.Num n) = leaf_so _ (omega arith)
node_by (ExprNode-F.Str text) = leaf_so _ (omega arith)
node_by (ExprNode-F.Name text) = name_so text
node_by ExprNode-F.This = leaf_so _ (omega arith)
node_by ExprNode-F.Null = leaf_so _ (omega arith)
node_by (ExprNode-F.Bool b) = leaf_so _ (omega arith)
node_by (ExprNode-F.Array elements) = small_one (All_small (Perhaps_small Coded_so)) Coded_so _ _ 16 _ emit.array (λ es m p. let v = elements_few es m p in omega (arith, v)) (omega arith) (elements_so elements)
node_by (ExprNode-F.Object fields) = small_one (All_small (Named_small Coded_so)) Coded_so _ _ 16 _ emit.object (λ ps m p. let v = fields_few ps m p in omega (arith, v)) (omega arith) (fields_so fields)
node_by (ExprNode-F.Function f) =
    small_one Nothing Coded_so _ _ 6 _ emit.function (λ made m p. omega arith) (omega arith) (small_further Nothing _ (λ first. in_own_name ((coded_function f.0).means first).name) (coded_function f.0) f.1.small)

expression_by : (y : Expr-F WithExprNode WithForFirst WithForInHead WithStmtNode WithCase WithExpr WithFunctionTree WithStmt) → PartSmall Coded_so (16 * count_expression_of (only_expression y)) (coded_expression_of (only_expression y))
expression_by y = small_wider Coded_so _ _ (coded_node y.node.0) (omega arith) y.node.1

head_by : (y : ForInHead-F WithExprNode WithForFirst WithForInHead WithStmtNode WithCase WithExpr WithFunctionTree WithStmt) → PartSmall Coded_so (16 * count_head_of (only_head y) + 4) (coded_head_of (only_head y))
head_by (ForInHead-F.ForInHead::Var text) = small_with_vars Coded_so _ (text ∷ []) (leaf (bare_name text)) (small_leaf Coded_so _ 4 (bare_name text) (omega arith) (omega arith))
head_by (ForInHead-F.Target a) = small_wider Coded_so _ _ (coded_expression a.0) (omega arith) a.1

-- ---- what stands first in the head of a `for`, and cases of a `switch`

declaring_so : (ys : List (List ℕ × Option WithExpr)) → PartSmall Parts_so (16 * total_named_held (former-ForFirst-Var-0.map Expr ℕ count_expression (former-ForFirst-Var-0.map WithExpr Expr (λ e. e.0) ys))) (code.declaring (former-ForFirst-Var-0.map Expr code.Of_expression coded_expression (former-ForFirst-Var-0.map WithExpr Expr (λ e. e.0) ys)))
declaring_so ys =
    small_with_vars Parts_so _ _ _ (small_one (All_small (Named_small (Perhaps_small Coded_so))) Parts_so _ _ 0 _ write.declaring (λ vs m p. let v = declare_few vs m p in omega (arith, v)) (omega arith) (named_so ys))

first_by : (y : ForFirst-F WithExprNode WithForFirst WithForInHead WithStmtNode WithCase WithExpr WithFunctionTree WithStmt) → PartSmall Parts_so (16 * count_first_of (only_first y)) (coded_first_of (only_first y))
first_by (ForFirst-F.ForFirst::Var ys) = declaring_so ys
first_by (ForFirst-F.ForFirst::Expr a) = small_one Coded_so Parts_so _ _ 0 (coded_expression a.0) write.evaluate (λ a m p. let v = value_few a in omega (arith, p, v)) (omega arith) a.1

branch_few : (test : Option Coded) (body : List CodedStatement) (i j : ℕ) → Perhaps_small Coded_so test i → All_small Statements_so body j → Branches_so (record { test = test; body = body }) (i + j + 0)
branch_few None body i j p q = let v = in_turn_few body j q in omega (arith, v)
branch_few (Some a) body i j p q = let u = value_few a in let v = in_turn_few body j q in omega (arith, p, u, v)

branch_by : (y : Case-F WithExprNode WithForFirst WithForInHead WithStmtNode WithCase WithExpr WithFunctionTree WithStmt) → PartSmall Branches_so (16 * count_branch_of (only_branch y)) (coded_branch_of (only_branch y))
branch_by y = small_two (Perhaps_small Coded_so) (All_small Statements_so) Branches_so _ _ _ 0 _ _ (λ test body. record { test = test; body = body }) branch_few (omega arith) (held_so y.test) (statements_so y.body)

-- ---- functions

function_by : (y : FunctionTree-F WithExprNode WithForFirst WithForInHead WithStmtNode WithCase WithExpr WithFunctionTree WithStmt) → FunctionSmall (count_function_of (only_function y)) (coded_function_of (only_function y))
function_by y =
    let body = former-StmtNode-Block-0.map WithStmt Stmt (λ e. e.0) y.body in
    let t = small_one (All_small Statements_so) Within _ _ 0 (each (map coded_statement body)) (λ cs. cs) (λ cs m p. let v = in_turn_few cs m p in omega (arith, v)) (omega arith) (statements_so y.body) in
    record { small = small_function y.name y.params body _ t; none = λ first. refl }

-- ---- statements

abbrev Caught_so : Option (List ℕ × List CodedStatement) → ℕ → Type 0
Caught_so c m = option_map_or (λ k. in_turn_size k.1) c 0 ≤ m

abbrev Last_so : Option (List CodedStatement) → ℕ → Type 0
Last_so c m = option_map_or (λ k. in_turn_size k) c 0 ≤ m

caught_so : (ys : Option (List ℕ × List WithStmt)) → PartSmall Caught_so (16 * caught_count (former-StmtNode-Try-1.map Stmt ℕ count_statement (former-StmtNode-Try-1.map WithStmt Stmt (λ e. e.0) ys))) (code.caught_part (former-StmtNode-Try-1.map Stmt code.Of_statement coded_statement (former-StmtNode-Try-1.map WithStmt Stmt (λ e. e.0) ys)))
caught_so None = small_leaf Caught_so _ 0 None (omega arith) (omega arith)
caught_so (Some y) =
    small_one (All_small Statements_so) Caught_so _ _ 0 _ (λ body. Some (y.0, body)) (λ cs m p. let v = in_turn_few cs m p in omega (arith, v)) (omega arith)
    (small_further (All_small Statements_so) _ (λ first around. ((y.0, true) ∷ []) ∷ around) _ (small_undeclared (All_small Statements_so) _ _ (statements_so y.1)))

last_so : (ys : Option (List WithStmt)) → PartSmall Last_so (16 * last_count (former-StmtNode-Try-2.map Stmt ℕ count_statement (former-StmtNode-Try-2.map WithStmt Stmt (λ e. e.0) ys))) (code.last_part (former-StmtNode-Try-2.map Stmt code.Of_statement coded_statement (former-StmtNode-Try-2.map WithStmt Stmt (λ e. e.0) ys)))
last_so None = small_leaf Last_so _ 0 None (omega arith) (omega arith)
last_so (Some ys) = small_one (All_small Statements_so) Last_so _ _ 0 _ Some (λ cs m p. let v = in_turn_few cs m p in omega (arith, v)) (omega arith) (statements_so ys)

if_few : (test : Coded) (body : CodedStatement) (other : Option CodedStatement) (i j k : ℕ) → Coded_so test i → Statements_so body j → Perhaps_small Statements_so other k → Statements_so (write.if_else test body other) (i + j + k + 16)
if_few test body None i j k p q r = let v = value_few test in omega (arith, p, q, v)
if_few test body (Some other) i j k p q r = let v = value_few test in omega (arith, p, q, r, v)

test_few : (a : Option Coded) (m : ℕ) → Perhaps_small Coded_so a m → (write.tests_if_any a).size ≤ m
test_few None m p = omega arith
test_few (Some a) m p = let v = value_few a in omega (arith, p, v)

update_few : (a : Option Coded) (m : ℕ) → Perhaps_small Coded_so a m → (write.does_if_any a).size ≤ m
update_few None m p = omega arith
update_few (Some a) m p = let v = value_few a in omega (arith, p, v)

first_few : (a : Option CodedPart) (m : ℕ) → Perhaps_small Parts_so a m → (write.first_of a).size ≤ m
first_few None m p = omega arith
first_few (Some a) m p = p

for_few : (first : Option CodedPart) (test update : Option Coded) (body : CodedStatement) (i j k l : ℕ) → Perhaps_small Parts_so first i → Perhaps_small Coded_so test j → Perhaps_small Coded_so update k → Statements_so body l
    → Statements_so (write.for_loop first test update body) (i + j + k + l + 16)
for_few first test update body i j k l p q r t =
    let a = first_few first i p in let b = test_few test j q in let c = update_few update k r in omega (arith, t, a, b, c)

return_few : (a : Option Coded) (m : ℕ) → Perhaps_small Coded_so a m → Statements_so (write.return a) (m + 16)
return_few None m p = omega arith
return_few (Some a) m p = let v = value_few a in omega (arith, p, v)

try_few : (body : List CodedStatement) (caught : Option (List ℕ × List CodedStatement)) (last : Option (List CodedStatement)) (i j k : ℕ) → All_small Statements_so body i → Caught_so caught j → Last_so last k
    → Statements_so (write.try_catch body caught last) (i + j + k + 16)
try_few body None None i j k p q r = let v = in_turn_few body i p in omega (arith, v)
try_few body None (Some last) i j k p q r = let v = in_turn_few body i p in omega (arith, v, r)
try_few body (Some caught) None i j k p q r = let v = in_turn_few body i p in omega (arith, v, q)
try_few body (Some caught) (Some last) i j k p q r = let v = in_turn_few body i p in omega (arith, v, q, r)

plain_so : (c : CodedStatement) → c.size ≤ 16 → PartSmall Statements_so (16 * 1) (leaf c)
plain_so c le = small_leaf Statements_so (16 * 1) c.size c (omega arith) (omega (arith, le))

statement_node_by : (y : StmtNode-F WithExprNode WithForFirst WithForInHead WithStmtNode WithCase WithExpr WithFunctionTree WithStmt) → PartSmall Statements_so (16 * suc (count_statement_node_of (only_statement_node y))) (coded_statement_node_of (only_statement_node y))
statement_node_by (StmtNode-F.Block body) = small_one (All_small Statements_so) Statements_so _ _ 16 _ write.block (λ cs m p. let v = in_turn_few cs m p in omega (arith, v)) (omega arith) (statements_so body)
statement_node_by (StmtNode-F.StmtNode::Var ys) = small_one Parts_so Statements_so _ _ 16 _ write.statement_of (λ a m p. omega (arith, p)) (omega arith) (declaring_so ys)
statement_node_by StmtNode-F.Empty = plain_so _ (omega arith)
statement_node_by (StmtNode-F.StmtNode::Expr a) = small_one Coded_so Statements_so _ _ 16 (coded_expression a.0) (λ a. write.statement_of (write.evaluate a)) (λ a m p. let v = value_few a in omega (arith, p, v)) (omega arith) a.1
statement_node_by (StmtNode-F.If a body other) =
    small_three Coded_so Statements_so (Perhaps_small Statements_so) Statements_so _ _ _ _ 16 (coded_expression a.0) (coded_statement body.0) _ write.if_else if_few (omega arith) a.1 body.1 (held_statement_so other)
statement_node_by (StmtNode-F.Do body a) =
    small_two Statements_so Coded_so Statements_so _ _ _ 16 (coded_statement body.0) (coded_expression a.0) write.do_loop (λ b a i j p q. let v = value_few a in omega (arith, p, q, v)) (omega arith) body.1 a.1
statement_node_by (StmtNode-F.While a body) =
    small_two Coded_so Statements_so Statements_so _ _ _ 16 (coded_expression a.0) (coded_statement body.0) write.while_loop (λ a b i j p q. let v = value_few a in omega (arith, p, q, v)) (omega arith) a.1 body.1
statement_node_by (StmtNode-F.For first a update body) =
    small_four (Perhaps_small Parts_so) (Perhaps_small Coded_so) (Perhaps_small Coded_so) Statements_so Statements_so _ _ _ _ _ 16 _ _ _ (coded_statement body.0) write.for_loop for_few (omega arith)
    (held_first_so first) (held_so a) (held_so update) body.1
statement_node_by (StmtNode-F.ForIn head a body) =
    small_three Coded_so Coded_so Statements_so Statements_so _ _ _ _ 12 (coded_head head.0) (coded_expression a.0) (coded_statement body.0) write.for_in
    (λ h a b i j k p q r. let v = value_few a in omega (arith, p, q, r, v)) (omega arith) head.1 a.1 body.1
statement_node_by (StmtNode-F.Continue label) = plain_so _ (omega arith)
statement_node_by (StmtNode-F.Break label) = plain_so _ (omega arith)
statement_node_by (StmtNode-F.Return a) = small_one (Perhaps_small Coded_so) Statements_so _ _ 16 _ write.return return_few (omega arith) (held_so a)
statement_node_by (StmtNode-F.Throw a) = small_one Coded_so Statements_so _ _ 16 (coded_expression a.0) write.throw_value (λ a m p. let v = value_few a in omega (arith, p, v)) (omega arith) a.1
statement_node_by (StmtNode-F.Switch a cases) =
    small_two Coded_so (All_small Branches_so) Statements_so _ _ _ 16 (coded_expression a.0) _ write.switch (λ a bs i j p q. let v = value_few a in let w = branches_few bs j q in omega (arith, p, v, w)) (omega arith) a.1 (cases_so cases)
statement_node_by (StmtNode-F.Try body caught last) =
    small_three (All_small Statements_so) Caught_so Last_so Statements_so _ _ _ _ 16 _ _ _ write.try_catch try_few (omega arith) (statements_so body) (caught_so caught) (last_so last)
statement_node_by (StmtNode-F.Label label body) = small_one Statements_so Statements_so _ _ 16 (coded_statement body.0) (write.labelled label) (λ a m p. omega (arith, p)) (omega arith) body.1
statement_node_by (StmtNode-F.FunctionDecl f) = small_declaration Statements_so _ _ 1 (coded_function f.0) code.declaration (λ made. omega arith) (omega arith) f.1.none f.1.small

statement_by : (y : Stmt-F WithExprNode WithForFirst WithForInHead WithStmtNode WithCase WithExpr WithFunctionTree WithStmt) → PartSmall Statements_so (16 * count_statement_of (only_statement y)) (coded_statement_of (only_statement y))
statement_by y = small_wider Statements_so _ _ (coded_statement_node y.node.0) (omega arith) y.node.1

-- ---- every tree

node_step : (x : ExprNode-F ExprNode ForFirst ForInHead StmtNode Case Expr FunctionTree Stmt) (y : ExprNode-F WithExprNode WithForFirst WithForInHead WithStmtNode WithCase WithExpr WithFunctionTree WithStmt) → only_node y ≡ x → SoExprNode (roll-ExprNode x)
node_step x y is = node_from (λ k q. PartSmall Coded_so (16 * suc k) q) x (subst (λ x. PartSmall Coded_so (16 * suc (count_node_of x)) (coded_node_of x)) is (node_by y))

first_step : (x : ForFirst-F ExprNode ForFirst ForInHead StmtNode Case Expr FunctionTree Stmt) (y : ForFirst-F WithExprNode WithForFirst WithForInHead WithStmtNode WithCase WithExpr WithFunctionTree WithStmt) → only_first y ≡ x → SoForFirst (roll-ForFirst x)
first_step x y is = first_from (λ k q. PartSmall Parts_so (16 * k) q) x (subst (λ x. PartSmall Parts_so (16 * (count_first_of x)) (coded_first_of x)) is (first_by y))

head_step : (x : ForInHead-F ExprNode ForFirst ForInHead StmtNode Case Expr FunctionTree Stmt) (y : ForInHead-F WithExprNode WithForFirst WithForInHead WithStmtNode WithCase WithExpr WithFunctionTree WithStmt) → only_head y ≡ x → SoForInHead (roll-ForInHead x)
head_step x y is = head_from (λ k q. PartSmall Coded_so (16 * k + 4) q) x (subst (λ x. PartSmall Coded_so (16 * (count_head_of x) + 4) (coded_head_of x)) is (head_by y))

statement_node_step : (x : StmtNode-F ExprNode ForFirst ForInHead StmtNode Case Expr FunctionTree Stmt) (y : StmtNode-F WithExprNode WithForFirst WithForInHead WithStmtNode WithCase WithExpr WithFunctionTree WithStmt) → only_statement_node y ≡ x → SoStmtNode (roll-StmtNode x)
statement_node_step x y is = statement_node_from (λ k q. PartSmall Statements_so (16 * suc k) q) x (subst (λ x. PartSmall Statements_so (16 * suc (count_statement_node_of x)) (coded_statement_node_of x)) is (statement_node_by y))

branch_step : (x : Case-F ExprNode ForFirst ForInHead StmtNode Case Expr FunctionTree Stmt) (y : Case-F WithExprNode WithForFirst WithForInHead WithStmtNode WithCase WithExpr WithFunctionTree WithStmt) → only_branch y ≡ x → SoCase (roll-Case x)
branch_step x y is = branch_from (λ k q. PartSmall Branches_so (16 * k) q) x (subst (λ x. PartSmall Branches_so (16 * (count_branch_of x)) (coded_branch_of x)) is (branch_by y))

expression_step : (x : Expr-F ExprNode ForFirst ForInHead StmtNode Case Expr FunctionTree Stmt) (y : Expr-F WithExprNode WithForFirst WithForInHead WithStmtNode WithCase WithExpr WithFunctionTree WithStmt) → only_expression y ≡ x → SoExpr (roll-Expr x)
expression_step x y is = expression_from (λ k q. PartSmall Coded_so (16 * k) q) x (subst (λ x. PartSmall Coded_so (16 * (count_expression_of x)) (coded_expression_of x)) is (expression_by y))

function_step : (x : FunctionTree-F ExprNode ForFirst ForInHead StmtNode Case Expr FunctionTree Stmt) (y : FunctionTree-F WithExprNode WithForFirst WithForInHead WithStmtNode WithCase WithExpr WithFunctionTree WithStmt) → only_function y ≡ x → SoFunctionTree (roll-FunctionTree x)
function_step x y is = function_from (λ k q. FunctionSmall k q) x (subst (λ x. FunctionSmall (count_function_of x) (coded_function_of x)) is (function_by y))

statement_step : (x : Stmt-F ExprNode ForFirst ForInHead StmtNode Case Expr FunctionTree Stmt) (y : Stmt-F WithExprNode WithForFirst WithForInHead WithStmtNode WithCase WithExpr WithFunctionTree WithStmt) → only_statement y ≡ x → SoStmt (roll-Stmt x)
statement_step x y is = statement_from (λ k q. PartSmall Statements_so (16 * k) q) x (subst (λ x. PartSmall Statements_so (16 * (count_statement_of x)) (coded_statement_of x)) is (statement_by y))

every_expression : (e : Expr) → SoExpr e
every_expression = ind-Expr SoExprNode SoForFirst SoForInHead SoStmtNode SoCase SoExpr SoFunctionTree SoStmt node_step first_step head_step statement_node_step branch_step expression_step function_step statement_step

every_statement : (s : Stmt) → SoStmt s
every_statement = ind-Stmt SoExprNode SoForFirst SoForInHead SoStmtNode SoCase SoExpr SoFunctionTree SoStmt node_step first_step head_step statement_node_step branch_step expression_step function_step statement_step

expression_so : (e : Expr) → PartSmall Coded_so (16 * nodes_of_expression e) (code.expression e)
expression_so e = subst (λ k. PartSmall Coded_so (16 * k e) (code.expression e)) (sym count_all) (subst (λ q. PartSmall Coded_so (16 * count_expression e) (q e)) (sym coded_all) (every_expression e))

statement_so : (s : Stmt) → PartSmall Statements_so (16 * nodes_of_statement s) (code.statement s)
statement_so s = subst (λ k. PartSmall Statements_so (16 * k s) (code.statement s)) (sym count_statements) (subst (λ q. PartSmall Statements_so (16 * count_statement s) (q s)) (sym coded_statements) (every_statement s))

-- ---- whole scripts

item_so : (i : Item) → PartSmall Parts_so (16 * nodes_of_item i) (code.item_part i)
item_so (items.Stmt s) = small_one Statements_so Parts_so _ _ 0 (code.statement s) (λ a. record { size = a.size; emit = a.emit [] }) (λ a m p. omega (arith, p)) (omega arith) (statement_so s)
item_so (items.Export line a) = small_one Coded_so Parts_so _ _ 0 (code.expression a)
    (λ a. record { size = value_size a + 1; emit = λ here rest. value a here (op kind.Nip (deeper 1 here) rest) }) (λ a m p. let v = value_few a in omega (arith, p, v)) (omega arith) (expression_so a)

items_so : (is : List Item) → PartSmall (All_small Parts_so) (16 * nodes_of_items is) (code.items_part is)
items_so [] = small_leaf (All_small Parts_so) _ 0 [] tt (omega arith)
items_so (i ∷ is) = small_more Parts_so _ _ _ (code.item_part i) _ (omega arith) (item_so i) (items_so is)

items_few : (cs : List CodedPart) (m : ℕ) → All_small Parts_so cs m → items_size cs ≤ m
items_few [] m h = omega arith
items_few (c ∷ cs) m h = let p = h.2 in let w = h.4 in let r = items_few cs h.1 h.3 in omega (arith, p, w, r)

inside_mapped : (around : Around) (fs : List Placed) → operations_in (map (λ f. (f around).code) fs) ≡ inside fs around
inside_mapped around [] = refl
inside_mapped around (f ∷ fs) = ap (λ n. length (f around).code.ops + n) (inside_mapped around fs)

by_nodes : (script : Script) (outermost : Bindings) → operations_of (code_of script outermost) ≤ 16 * nodes_of script + 2
by_nodes script outermost =
    let part = code.items_part script.items in
    let around = module_around part outermost in
    let t = items_so script.items 0 around in
    let w = t.within in let v = items_few (part.means 0) t.size t.has in
    let l = (sizes_are_true.bodies script.items 0 (part.declared 0)).long (at_start around) [] in
    let e = inside_mapped around (part.functions 0) in
    omega (arith, w, v, l, e)

pub small_code : (script : Script) (outermost : Bindings) → SizesAreSmall script outermost
small_code script outermost =
    let b = by_nodes script outermost in
    record { by_nodes = b; within = λ few. omega (arith, b, few) }
