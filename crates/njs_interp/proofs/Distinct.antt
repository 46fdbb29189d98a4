-- No function of an accepted script has two parameters of one name (ECMA-262 5.1 §13.1): by induction on trees.
use Rattle.std.proofs.Common.{◌≡◌, ℕ, zero, suc, ◌+◌, List, [], ◌∷◌, ◌++◌, map, Bool, true, false, not, ◌&&◌, Option, Some, None, slice_get, refl, sym, ap, subst, ◌∙◌}
use Rattle.njs_tree.specs.declared.tree.Script.{Script}
use Rattle.njs_tree.specs.declared.tree.Item.{Item}
use Rattle.njs_tree.specs.declared.tree.Item.TheVariants as items
use Rattle.njs_tree.specs.declared.tree.ExprNode.{ExprNode}
use Rattle.njs_tree.specs.declared.tree.ForFirst.{ForFirst}
use Rattle.njs_tree.specs.declared.tree.ForInHead.{ForInHead}
use Rattle.njs_tree.specs.declared.tree.StmtNode.{StmtNode}
use Rattle.njs_tree.specs.declared.tree.Case.{Case}
use Rattle.njs_tree.specs.declared.tree.Expr.{Expr}
use Rattle.njs_tree.specs.declared.tree.FunctionTree.{FunctionTree}
use Rattle.njs_tree.specs.declared.tree.Stmt.{Stmt}
use Rattle.njs_tree.specs.declared.tree.ExprNode.TheOpen.{ExprNode-F, ForFirst-F, ForInHead-F, StmtNode-F, Case-F, Expr-F, FunctionTree-F, Stmt-F}
use Rattle.njs_tree.specs.declared.tree.ExprNode.TheShapes.{former-ExprNode-Array-0, former-ExprNode-Object-0, former-ForFirst-Var-0, former-StmtNode-Block-0, former-StmtNode-If-2, former-StmtNode-For-0, former-StmtNode-For-1, former-StmtNode-Switch-1, former-StmtNode-Try-1, former-StmtNode-Try-2}
use Rattle.njs_tree.specs.declared.tree.ExprNode.TheViews.{roll-ExprNode, roll-ForFirst, roll-ForInHead, roll-StmtNode, roll-Case, roll-Expr, roll-FunctionTree, roll-Stmt}
use Rattle.njs_tree.specs.declared.tree.ExprNode.TheFolds.{map-ExprNode, map-ForFirst, map-ForInHead, map-StmtNode, map-Case, map-Expr, map-FunctionTree, map-Stmt, ind-Expr, ind-Stmt}
use Rattle.njs_tree.specs.Accepted.{IsAccepted}
use Rattle.njs_tree.specs.Early.{repeats}
use Rattle.njs_meaning.specs.Functions.{Function}
use Rattle.njs_meaning.specs.Parts.{Part, leaf, two, three, four, each, held, each_named, each_held, each_named_held}
use Rattle.njs_meaning.specs.Meaning as means
use Rattle.njs_simul.specs.Sound.{all, if_any, all_held, all_named, all_named_held, caught_sound, last_sound, is_sound_item, are_sound, is_sound_expression, is_sound_statement}
use Rattle.njs_simul.proofs.Accepted.{accepted_sound}
use Rattle.njs_simul.proofs.ValidTrees.{sound_node, sound_node_of, sound_node_rolled, sound_first, sound_first_of, sound_first_rolled, sound_head, sound_head_of, sound_head_rolled, sound_statement_node, sound_statement_node_of, sound_statement_node_rolled, sound_branch, sound_branch_of, sound_branch_rolled, sound_expression, sound_expression_of, sound_expression_rolled, sound_function, sound_function_of, sound_function_rolled, sound_statement, sound_statement_of, sound_statement_rolled, sound_all, sound_statements}
use Rattle.njs_simul.proofs.Trees.{meant_all, meant_statements, meant_node, meant_node_of, node_from, meant_first, meant_first_of, first_from, meant_head, meant_head_of, head_from, meant_statement_node, meant_statement_node_of, statement_node_from, meant_branch, meant_branch_of, branch_from, meant_expression, meant_expression_of, expression_from, meant_function, meant_function_of, function_from, meant_statement, meant_statement_of, statement_from}
use Rattle.njs_interp.specs.Calling.{DistinctParameters}

-- ---- parts

abbrev Every : {A : Type 0} → (A → Type 0) → List A → Type 0
Every is [] = Unit {0}
Every is (x ∷ xs) = is x × Every is xs

every_append : {A : Type 0} (is : A → Type 0) (xs ys : List A) → Every is xs → Every is ys → Every is (xs ++ ys)
every_append is [] ys h k = k
every_append is (x ∷ xs) ys h k = (h.0, every_append is xs ys h.1 k)

abbrev IsDistinct : Function → Type 0
IsDistinct f = repeats f.params ≡ false

-- the functions in a part have distinct parameters
record InPart {A : Type 0} (p : Part Function A) : Type 0 where
  each : (first : ℕ) → Every IsDistinct (p.functions first)

nothing_in : {A : Type 0} (a : A) → InPart (leaf a)
nothing_in a = record { each = λ first. tt }

in_two : {A B C : Type 0} (p : Part Function A) (q : Part Function B) (f : A → B → C) → InPart p → InPart q → InPart (two p q f)
in_two p q f h k = record { each = λ first. every_append IsDistinct (p.functions first) (q.functions (first + p.size)) (h.each first) (k.each (first + p.size)) }

in_three : {A B C D : Type 0} (p : Part Function A) (q : Part Function B) (r : Part Function C) (f : A → B → C → D) → InPart p → InPart q → InPart r → InPart (three p q r f)
in_three p q r f h k l = in_two (two p q f) r (λ g x. g x) (in_two p q f h k) l

in_four : {A B C D E : Type 0} (p : Part Function A) (q : Part Function B) (r : Part Function C) (o : Part Function D) (f : A → B → C → D → E) → InPart p → InPart q → InPart r → InPart o → InPart (four p q r o f)
in_four p q r o f h k l m = in_two (three p q r f) o (λ g x. g x) (in_three p q r f h k l) m

in_each : {A : Type 0} (ps : List (Part Function A)) → Every InPart ps → InPart (each ps)
in_each [] h = nothing_in []
in_each (p ∷ ps) h = in_two p (each ps) (λ x xs. x ∷ xs) h.0 (in_each ps h.1)

abbrev IfAny : {A : Type 0} → (A → Type 0) → Option A → Type 0
IfAny is None = Unit {0}
IfAny is (Some x) = is x

in_held : {A : Type 0} (p : Option (Part Function A)) → IfAny InPart p → InPart (held p)
in_held None h = nothing_in None
in_held (Some p) h = record { each = h.each }

in_each_held : {A : Type 0} (ps : List (Option (Part Function A))) → Every (IfAny InPart) ps → InPart (each_held ps)
in_each_held [] h = nothing_in []
in_each_held (p ∷ ps) h = in_two (held p) (each_held ps) (λ x xs. x ∷ xs) (in_held p h.0) (in_each_held ps h.1)

in_each_named : {A N : Type 0} (ps : List (N × Part Function A)) → Every (λ p. InPart p.1) ps → InPart (each_named ps)
in_each_named [] h = nothing_in []
in_each_named (p ∷ ps) h = in_two p.1 (each_named ps) (λ x xs. (p.0, x) ∷ xs) h.0 (in_each_named ps h.1)

in_each_named_held : {A N : Type 0} (ps : List (N × Option (Part Function A))) → Every (λ p. IfAny InPart p.1) ps → InPart (each_named_held ps)
in_each_named_held [] h = nothing_in []
in_each_named_held (p ∷ ps) h = in_two (held p.1) (each_named_held ps) (λ x xs. (p.0, x) ∷ xs) (in_held p.1 h.0) (in_each_named_held ps h.1)

-- ---- what is so of each tree: where it is sound, the functions in it have distinct parameters

both : (p q : Bool) → (p && q) ≡ true → (p ≡ true) × (q ≡ true)
both true q h = (refl, h)
both false q h = cc

unrepeated : (b : Bool) → not b ≡ true → b ≡ false
unrepeated true h = cc
unrepeated false h = refl

abbrev SoExprNode : ExprNode → Type 0
SoExprNode x = sound_node x ≡ true → InPart (meant_node x)

abbrev SoForFirst : ForFirst → Type 0
SoForFirst x = sound_first x ≡ true → InPart (meant_first x)

abbrev SoForInHead : ForInHead → Type 0
SoForInHead x = sound_head x ≡ true → InPart (meant_head x)

abbrev SoStmtNode : StmtNode → Type 0
SoStmtNode x = sound_statement_node x ≡ true → InPart (meant_statement_node x)

abbrev SoCase : Case → Type 0
SoCase x = sound_branch x ≡ true → InPart (meant_branch x)

abbrev SoExpr : Expr → Type 0
SoExpr x = sound_expression x ≡ true → InPart (meant_expression x)

abbrev SoFunctionTree : FunctionTree → Type 0
SoFunctionTree x = sound_function x ≡ true → InPart (meant_function x)

abbrev SoStmt : Stmt → Type 0
SoStmt x = sound_statement x ≡ true → InPart (meant_statement x)

-- with what is so of it
abbrev WithExprNode : Type 0
WithExprNode = (x : ExprNode) × SoExprNode x

abbrev WithForFirst : Type 0
WithForFirst = (x : ForFirst) × SoForFirst x

abbrev WithForInHead : Type 0
WithForInHead = (x : ForInHead) × SoForInHead x

abbrev WithStmtNode : Type 0
WithStmtNode = (x : StmtNode) × SoStmtNode x

abbrev WithCase : Type 0
WithCase = (x : Case) × SoCase x

abbrev WithExpr : Type 0
WithExpr = (x : Expr) × SoExpr x

abbrev WithFunctionTree : Type 0
WithFunctionTree = (x : FunctionTree) × SoFunctionTree x

abbrev WithStmt : Type 0
WithStmt = (x : Stmt) × SoStmt x

abbrev only_node : ExprNode-F WithExprNode WithForFirst WithForInHead WithStmtNode WithCase WithExpr WithFunctionTree WithStmt → ExprNode-F ExprNode ForFirst ForInHead StmtNode Case Expr FunctionTree Stmt
only_node y = map-ExprNode WithExprNode WithForFirst WithForInHead WithStmtNode WithCase WithExpr WithFunctionTree WithStmt ExprNode ForFirst ForInHead StmtNode Case Expr FunctionTree Stmt (λ e. e.0) (λ e. e.0) (λ e. e.0) (λ e. e.0) (λ e. e.0) (λ e. e.0) (λ e. e.0) (λ e. e.0) y

abbrev only_first : ForFirst-F WithExprNode WithForFirst WithForInHead WithStmtNode WithCase WithExpr WithFunctionTree WithStmt → ForFirst-F ExprNode ForFirst ForInHead StmtNode Case Expr FunctionTree Stmt
only_first y = map-ForFirst WithExprNode WithForFirst WithForInHead WithStmtNode WithCase WithExpr WithFunctionTree WithStmt ExprNode ForFirst ForInHead StmtNode Case Expr FunctionTree Stmt (λ e. e.0) (λ e. e.0) (λ e. e.0) (λ e. e.0) (λ e. e.0) (λ e. e.0) (λ e. e.0) (λ e. e.0) y

abbrev only_head : ForInHead-F WithExprNode WithForFirst WithForInHead WithStmtNode WithCase WithExpr WithFunctionTree WithStmt → ForInHead-F ExprNode ForFirst ForInHead StmtNode Case Expr FunctionTree Stmt
only_head y = map-ForInHead WithExprNode WithForFirst WithForInHead WithStmtNode WithCase WithExpr WithFunctionTree WithStmt ExprNode ForFirst ForInHead StmtNode Case Expr FunctionTree Stmt (λ e. e.0) (λ e. e.0) (λ e. e.0) (λ e. e.0) (λ e. e.0) (λ e. e.0) (λ e. e.0) (λ e. e.0) y

abbrev only_statement_node : StmtNode-F WithExprNode WithForFirst WithForInHead WithStmtNode WithCase WithExpr WithFunctionTree WithStmt → StmtNode-F ExprNode ForFirst ForInHead StmtNode Case Expr FunctionTree Stmt
only_statement_node y = map-StmtNode WithExprNode WithForFirst WithForInHead WithStmtNode WithCase WithExpr WithFunctionTree WithStmt ExprNode ForFirst ForInHead StmtNode Case Expr FunctionTree Stmt (λ e. e.0) (λ e. e.0) (λ e. e.0) (λ e. e.0) (λ e. e.0) (λ e. e.0) (λ e. e.0) (λ e. e.0) y

abbrev only_branch : Case-F WithExprNode WithForFirst WithForInHead WithStmtNode WithCase WithExpr WithFunctionTree WithStmt → Case-F ExprNode ForFirst ForInHead StmtNode Case Expr FunctionTree Stmt
only_branch y = map-Case WithExprNode WithForFirst WithForInHead WithStmtNode WithCase WithExpr WithFunctionTree WithStmt ExprNode ForFirst ForInHead StmtNode Case Expr FunctionTree Stmt (λ e. e.0) (λ e. e.0) (λ e. e.0) (λ e. e.0) (λ e. e.0) (λ e. e.0) (λ e. e.0) (λ e. e.0) y

abbrev only_expression : Expr-F WithExprNode WithForFirst WithForInHead WithStmtNode WithCase WithExpr WithFunctionTree WithStmt → Expr-F ExprNode ForFirst ForInHead StmtNode Case Expr FunctionTree Stmt
only_expression y = map-Expr WithExprNode WithForFirst WithForInHead WithStmtNode WithCase WithExpr WithFunctionTree WithStmt ExprNode ForFirst ForInHead StmtNode Case Expr FunctionTree Stmt (λ e. e.0) (λ e. e.0) (λ e. e.0) (λ e. e.0) (λ e. e.0) (λ e. e.0) (λ e. e.0) (λ e. e.0) y

abbrev only_function : FunctionTree-F WithExprNode WithForFirst WithForInHead WithStmtNode WithCase WithExpr WithFunctionTree WithStmt → FunctionTree-F ExprNode ForFirst ForInHead StmtNode Case Expr FunctionTree Stmt
only_function y = map-FunctionTree WithExprNode WithForFirst WithForInHead WithStmtNode WithCase WithExpr WithFunctionTree WithStmt ExprNode ForFirst ForInHead StmtNode Case Expr FunctionTree Stmt (λ e. e.0) (λ e. e.0) (λ e. e.0) (λ e. e.0) (λ e. e.0) (λ e. e.0) (λ e. e.0) (λ e. e.0) y

abbrev only_statement : Stmt-F WithExprNode WithForFirst WithForInHead WithStmtNode WithCase WithExpr WithFunctionTree WithStmt → Stmt-F ExprNode ForFirst ForInHead StmtNode Case Expr FunctionTree Stmt
only_statement y = map-Stmt WithExprNode WithForFirst WithForInHead WithStmtNode WithCase WithExpr WithFunctionTree WithStmt ExprNode ForFirst ForInHead StmtNode Case Expr FunctionTree Stmt (λ e. e.0) (λ e. e.0) (λ e. e.0) (λ e. e.0) (λ e. e.0) (λ e. e.0) (λ e. e.0) (λ e. e.0) y

-- ---- lists of trees, and trees that may be missing

so_expressions : (ys : List WithExpr) → all (map sound_expression (map (λ e. e.0) ys)) ≡ true → Every InPart (map meant_expression (map (λ e. e.0) ys))
so_expressions [] h = tt
so_expressions (y ∷ ys) h = let t = both _ _ h in (y.1 t.0, so_expressions ys t.1)

so_elements : (ys : List (Option WithExpr)) → all_held (former-ExprNode-Array-0.map Expr Bool sound_expression (former-ExprNode-Array-0.map WithExpr Expr (λ e. e.0) ys)) ≡ true
    → Every (IfAny InPart) (former-ExprNode-Array-0.map Expr means.Of_expression meant_expression (former-ExprNode-Array-0.map WithExpr Expr (λ e. e.0) ys))
so_elements [] h = tt
so_elements (None ∷ ys) h = (tt, so_elements ys h)
so_elements (Some y ∷ ys) h = let t = both _ _ h in (y.1 t.0, so_elements ys t.1)

so_fields : (ys : List (List ℕ × WithExpr)) → all_named (former-ExprNode-Object-0.map Expr Bool sound_expression (former-ExprNode-Object-0.map WithExpr Expr (λ e. e.0) ys)) ≡ true
    → Every (λ p. InPart p.1) (former-ExprNode-Object-0.map Expr means.Of_expression meant_expression (former-ExprNode-Object-0.map WithExpr Expr (λ e. e.0) ys))
so_fields [] h = tt
so_fields (y ∷ ys) h = let t = both _ _ h in (y.1.1 t.0, so_fields ys t.1)

so_statements : (ys : List WithStmt) → all (former-StmtNode-Block-0.map Stmt Bool sound_statement (former-StmtNode-Block-0.map WithStmt Stmt (λ e. e.0) ys)) ≡ true
    → Every InPart (former-StmtNode-Block-0.map Stmt means.Of_statement meant_statement (former-StmtNode-Block-0.map WithStmt Stmt (λ e. e.0) ys))
so_statements [] h = tt
so_statements (y ∷ ys) h = let t = both _ _ h in (y.1 t.0, so_statements ys t.1)

so_cases : (ys : List WithCase) → all (former-StmtNode-Switch-1.map Case Bool sound_branch (former-StmtNode-Switch-1.map WithCase Case (λ e. e.0) ys)) ≡ true
    → Every InPart (former-StmtNode-Switch-1.map Case means.Of_branch meant_branch (former-StmtNode-Switch-1.map WithCase Case (λ e. e.0) ys))
so_cases [] h = tt
so_cases (y ∷ ys) h = let t = both _ _ h in (y.1 t.0, so_cases ys t.1)

so_held : (ys : Option WithExpr) → if_any (former-StmtNode-For-1.map Expr Bool sound_expression (former-StmtNode-For-1.map WithExpr Expr (λ e. e.0) ys)) ≡ true
    → IfAny InPart (former-StmtNode-For-1.map Expr means.Of_expression meant_expression (former-StmtNode-For-1.map WithExpr Expr (λ e. e.0) ys))
so_held None h = tt
so_held (Some y) h = y.1 h

so_held_first : (ys : Option WithForFirst) → if_any (former-StmtNode-For-0.map ForFirst Bool sound_first (former-StmtNode-For-0.map WithForFirst ForFirst (λ e. e.0) ys)) ≡ true
    → IfAny InPart (former-StmtNode-For-0.map ForFirst means.Of_first meant_first (former-StmtNode-For-0.map WithForFirst ForFirst (λ e. e.0) ys))
so_held_first None h = tt
so_held_first (Some y) h = y.1 h

so_held_statement : (ys : Option WithStmt) → if_any (former-StmtNode-If-2.map Stmt Bool sound_statement (former-StmtNode-If-2.map WithStmt Stmt (λ e. e.0) ys)) ≡ true
    → IfAny InPart (former-StmtNode-If-2.map Stmt means.Of_statement meant_statement (former-StmtNode-If-2.map WithStmt Stmt (λ e. e.0) ys))
so_held_statement None h = tt
so_held_statement (Some y) h = y.1 h

so_named : (ys : List (List ℕ × Option WithExpr)) → all_named_held (former-ForFirst-Var-0.map Expr Bool sound_expression (former-ForFirst-Var-0.map WithExpr Expr (λ e. e.0) ys)) ≡ true
    → Every (λ p. IfAny InPart p.1) (former-ForFirst-Var-0.map Expr means.Of_expression meant_expression (former-ForFirst-Var-0.map WithExpr Expr (λ e. e.0) ys))
so_named [] h = tt
so_named ((name, None) ∷ ys) h = (tt, so_named ys h)
so_named ((name, Some y) ∷ ys) h = let t = both _ _ h in (y.1 t.0, so_named ys t.1)

so_caught : (ys : Option (List ℕ × List WithStmt)) → caught_sound (former-StmtNode-Try-1.map Stmt Bool sound_statement (former-StmtNode-Try-1.map WithStmt Stmt (λ e. e.0) ys)) ≡ true
    → InPart (means.caught_part (former-StmtNode-Try-1.map Stmt means.Of_statement meant_statement (former-StmtNode-Try-1.map WithStmt Stmt (λ e. e.0) ys)))
so_caught None h = nothing_in None
so_caught (Some y) h = record { each = (in_each _ (so_statements y.1 h)).each }

so_last : (ys : Option (List WithStmt)) → last_sound (former-StmtNode-Try-2.map Stmt Bool sound_statement (former-StmtNode-Try-2.map WithStmt Stmt (λ e. e.0) ys)) ≡ true
    → InPart (means.last_part (former-StmtNode-Try-2.map Stmt means.Of_statement meant_statement (former-StmtNode-Try-2.map WithStmt Stmt (λ e. e.0) ys)))
so_last None h = nothing_in None
so_last (Some ys) h = record { each = (in_each _ (so_statements ys h)).each }

-- ---- the kinds of trees

node_by : (y : ExprNode-F WithExprNode WithForFirst WithForInHead WithStmtNode WithCase WithExpr WithFunctionTree WithStmt) → sound_node_of (only_node y) ≡ true → InPart (meant_node_of (only_node y))
node_by (ExprNode-F.Comma a b) h = let t = both _ _ h in in_two _ _ means.comma (a.1 t.0) (b.1 t.1)
node_by (ExprNode-F.Assign f a b) h = let t = both _ _ h in in_two _ _ (means.assignment f) (a.1 t.0) (b.1 t.1)
node_by (ExprNode-F.Cond a b d) h = let t = both _ _ h in let u = both _ _ t.0 in in_three _ _ _ means.conditional (a.1 u.0) (b.1 u.1) (d.1 t.1)
node_by (ExprNode-F.Logical f a b) h = let t = both _ _ h in in_two _ _ (means.either f) (a.1 t.0) (b.1 t.1)
node_by (ExprNode-F.Binary f a b) h = let t = both _ _ h in in_two _ _ (means.both f) (a.1 t.0) (b.1 t.1)
node_by (ExprNode-F.Unary f a) h = record { each = (a.1 h).each }
node_by (ExprNode-F.Update f prefix a) h = record { each = (a.1 h).each }
node_by (ExprNode-F.Call a bs) h = let t = both _ _ h in in_two _ _ means.calling (a.1 t.0) (in_each _ (so_expressions bs t.1))
node_by (ExprNode-F.Member a name) h = record { each = (a.1 h).each }
node_by (ExprNode-F.Index a b) h = let t = both _ _ h in in_two _ _ means.index (a.1 t.0) (b.1 t.1)
node_by (ExprNode-F.New a bs) h = let t = both _ _ h in in_two _ _ means.making (a.1 t.0) (in_each _ (so_expressions bs t.1))
node_by (ExprNode-F.Num n) h = record { each = λ first. tt }
node_by (ExprNode-F.Str text) h = record { each = λ first. tt }
node_by (ExprNode-F.Name text) h = record { each = λ first. tt }
node_by ExprNode-F.This h = record { each = λ first. tt }
node_by ExprNode-F.Null h = record { each = λ first. tt }
node_by (ExprNode-F.Bool b) h = record { each = λ first. tt }
node_by (ExprNode-F.Array elements) h = let t = both _ _ h in record { each = (in_each_held _ (so_elements elements t.1)).each }
node_by (ExprNode-F.Object fields) h = record { each = (in_each_named _ (so_fields fields h)).each }
node_by (ExprNode-F.Function f) h = record { each = (f.1 h).each }

expression_by : (y : Expr-F WithExprNode WithForFirst WithForInHead WithStmtNode WithCase WithExpr WithFunctionTree WithStmt) → sound_expression_of (only_expression y) ≡ true → InPart (meant_expression_of (only_expression y))
expression_by y h = record { each = (y.node.1 h).each }

head_by : (y : ForInHead-F WithExprNode WithForFirst WithForInHead WithStmtNode WithCase WithExpr WithFunctionTree WithStmt) → sound_head_of (only_head y) ≡ true → InPart (meant_head_of (only_head y))
head_by (ForInHead-F.ForInHead::Var text) h = record { each = λ first. tt }
head_by (ForInHead-F.Target a) h = a.1 h

first_by : (y : ForFirst-F WithExprNode WithForFirst WithForInHead WithStmtNode WithCase WithExpr WithFunctionTree WithStmt) → sound_first_of (only_first y) ≡ true → InPart (meant_first_of (only_first y))
first_by (ForFirst-F.ForFirst::Var ys) h = record { each = (in_each_named_held _ (so_named ys h)).each }
first_by (ForFirst-F.ForFirst::Expr a) h = record { each = (a.1 h).each }

branch_by : (y : Case-F WithExprNode WithForFirst WithForInHead WithStmtNode WithCase WithExpr WithFunctionTree WithStmt) → sound_branch_of (only_branch y) ≡ true → InPart (meant_branch_of (only_branch y))
branch_by y h = let t = both _ _ h in in_two {C = means.Branch} _ _ (λ test body. record { test = test; body = body }) (in_held _ (so_held y.test t.0)) (in_each _ (so_statements y.body t.1))

function_by : (y : FunctionTree-F WithExprNode WithForFirst WithForInHead WithStmtNode WithCase WithExpr WithFunctionTree WithStmt) → sound_function_of (only_function y) ≡ true → InPart (meant_function_of (only_function y))
function_by y h = let t = both _ _ h in record { each = λ first. (unrepeated (repeats y.params) t.0, (in_each _ (so_statements y.body t.1)).each (first + 1)) }

statement_node_by : (y : StmtNode-F WithExprNode WithForFirst WithForInHead WithStmtNode WithCase WithExpr WithFunctionTree WithStmt) → sound_statement_node_of (only_statement_node y) ≡ true → InPart (meant_statement_node_of (only_statement_node y))
statement_node_by (StmtNode-F.Block body) h = record { each = (in_each _ (so_statements body h)).each }
statement_node_by (StmtNode-F.StmtNode::Var ys) h = record { each = (in_each_named_held _ (so_named ys h)).each }
statement_node_by (StmtNode-F.StmtNode::Expr a) h = record { each = (a.1 h).each }
statement_node_by (StmtNode-F.If a body other) h = let t = both _ _ h in let u = both _ _ t.0 in in_three _ _ _ means.if_else (a.1 u.0) (body.1 u.1) (in_held _ (so_held_statement other t.1))
statement_node_by (StmtNode-F.Do body a) h = let t = both _ _ h in in_two _ _ means.do_loop (body.1 t.0) (a.1 t.1)
statement_node_by (StmtNode-F.While a body) h = let t = both _ _ h in in_two _ _ means.while_loop (a.1 t.0) (body.1 t.1)
statement_node_by (StmtNode-F.For first a update body) h = let t = both _ _ h in let u = both _ _ t.0 in let v = both _ _ u.0 in in_four _ _ _ _ means.for_loop (in_held _ (so_held_first first v.0)) (in_held _ (so_held a v.1)) (in_held _ (so_held update u.1)) (body.1 t.1)
statement_node_by (StmtNode-F.ForIn top a body) h = let t = both _ _ h in let u = both _ _ t.0 in in_three _ _ _ means.for_in (top.1 u.0) (a.1 u.1) (body.1 t.1)
statement_node_by (StmtNode-F.Return a) h = record { each = (in_held _ (so_held a h)).each }
statement_node_by (StmtNode-F.Throw a) h = record { each = (a.1 h).each }
statement_node_by (StmtNode-F.Switch a cases) h = let t = both _ _ h in in_two _ _ means.switch (a.1 t.0) (in_each _ (so_cases cases t.1))
statement_node_by (StmtNode-F.Try body caught last) h = let t = both _ _ h in let u = both _ _ t.0 in in_three _ _ _ means.try_catch (in_each _ (so_statements body u.0)) (so_caught caught u.1) (so_last last t.1)
statement_node_by (StmtNode-F.Label label body) h = record { each = (body.1 h).each }
statement_node_by (StmtNode-F.FunctionDecl f) h = record { each = (f.1 h).each }
statement_node_by StmtNode-F.Empty h = record { each = λ first. tt }
statement_node_by (StmtNode-F.Continue label) h = record { each = λ first. tt }
statement_node_by (StmtNode-F.Break label) h = record { each = λ first. tt }

statement_by : (y : Stmt-F WithExprNode WithForFirst WithForInHead WithStmtNode WithCase WithExpr WithFunctionTree WithStmt) → sound_statement_of (only_statement y) ≡ true → InPart (meant_statement_of (only_statement y))
statement_by y h = record { each = (y.node.1 h).each }

-- ---- every tree

node_step : (x : ExprNode-F ExprNode ForFirst ForInHead StmtNode Case Expr FunctionTree Stmt) (y : ExprNode-F WithExprNode WithForFirst WithForInHead WithStmtNode WithCase WithExpr WithFunctionTree WithStmt) → only_node y ≡ x → SoExprNode (roll-ExprNode x)
node_step x y is h = node_from (λ p q. InPart p) x (subst (λ x. sound_node_of x ≡ true → InPart (meant_node_of x)) is (node_by y) (sym (sound_node_rolled x) ∙ h))

first_step : (x : ForFirst-F ExprNode ForFirst ForInHead StmtNode Case Expr FunctionTree Stmt) (y : ForFirst-F WithExprNode WithForFirst WithForInHead WithStmtNode WithCase WithExpr WithFunctionTree WithStmt) → only_first y ≡ x → SoForFirst (roll-ForFirst x)
first_step x y is h = first_from (λ p q. InPart p) x (subst (λ x. sound_first_of x ≡ true → InPart (meant_first_of x)) is (first_by y) (sym (sound_first_rolled x) ∙ h))

head_step : (x : ForInHead-F ExprNode ForFirst ForInHead StmtNode Case Expr FunctionTree Stmt) (y : ForInHead-F WithExprNode WithForFirst WithForInHead WithStmtNode WithCase WithExpr WithFunctionTree WithStmt) → only_head y ≡ x → SoForInHead (roll-ForInHead x)
head_step x y is h = head_from (λ p q. InPart p) x (subst (λ x. sound_head_of x ≡ true → InPart (meant_head_of x)) is (head_by y) (sym (sound_head_rolled x) ∙ h))

statement_node_step : (x : StmtNode-F ExprNode ForFirst ForInHead StmtNode Case Expr FunctionTree Stmt) (y : StmtNode-F WithExprNode WithForFirst WithForInHead WithStmtNode WithCase WithExpr WithFunctionTree WithStmt) → only_statement_node y ≡ x → SoStmtNode (roll-StmtNode x)
statement_node_step x y is h = statement_node_from (λ p q. InPart p) x (subst (λ x. sound_statement_node_of x ≡ true → InPart (meant_statement_node_of x)) is (statement_node_by y) (sym (sound_statement_node_rolled x) ∙ h))

branch_step : (x : Case-F ExprNode ForFirst ForInHead StmtNode Case Expr FunctionTree Stmt) (y : Case-F WithExprNode WithForFirst WithForInHead WithStmtNode WithCase WithExpr WithFunctionTree WithStmt) → only_branch y ≡ x → SoCase (roll-Case x)
branch_step x y is h = branch_from (λ p q. InPart p) x (subst (λ x. sound_branch_of x ≡ true → InPart (meant_branch_of x)) is (branch_by y) (sym (sound_branch_rolled x) ∙ h))

expression_step : (x : Expr-F ExprNode ForFirst ForInHead StmtNode Case Expr FunctionTree Stmt) (y : Expr-F WithExprNode WithForFirst WithForInHead WithStmtNode WithCase WithExpr WithFunctionTree WithStmt) → only_expression y ≡ x → SoExpr (roll-Expr x)
expression_step x y is h = expression_from (λ p q. InPart p) x (subst (λ x. sound_expression_of x ≡ true → InPart (meant_expression_of x)) is (expression_by y) (sym (sound_expression_rolled x) ∙ h))

function_step : (x : FunctionTree-F ExprNode ForFirst ForInHead StmtNode Case Expr FunctionTree Stmt) (y : FunctionTree-F WithExprNode WithForFirst WithForInHead WithStmtNode WithCase WithExpr WithFunctionTree WithStmt) → only_function y ≡ x → SoFunctionTree (roll-FunctionTree x)
function_step x y is h = function_from (λ p q. InPart p) x (subst (λ x. sound_function_of x ≡ true → InPart (meant_function_of x)) is (function_by y) (sym (sound_function_rolled x) ∙ h))

statement_step : (x : Stmt-F ExprNode ForFirst ForInHead StmtNode Case Expr FunctionTree Stmt) (y : Stmt-F WithExprNode WithForFirst WithForInHead WithStmtNode WithCase WithExpr WithFunctionTree WithStmt) → only_statement y ≡ x → SoStmt (roll-Stmt x)
statement_step x y is h = statement_from (λ p q. InPart p) x (subst (λ x. sound_statement_of x ≡ true → InPart (meant_statement_of x)) is (statement_by y) (sym (sound_statement_rolled x) ∙ h))

every_expression : (e : Expr) → SoExpr e
every_expression = ind-Expr SoExprNode SoForFirst SoForInHead SoStmtNode SoCase SoExpr SoFunctionTree SoStmt node_step first_step head_step statement_node_step branch_step expression_step function_step statement_step

every_statement : (s : Stmt) → SoStmt s
every_statement = ind-Stmt SoExprNode SoForFirst SoForInHead SoStmtNode SoCase SoExpr SoFunctionTree SoStmt node_step first_step head_step statement_node_step branch_step expression_step function_step statement_step

-- ---- whole scripts

expression_distinct : (e : Expr) → is_sound_expression e ≡ true → InPart (means.expression e)
expression_distinct e h = subst (λ p. InPart (p e)) (sym meant_all) (every_expression e (ap (λ p. p e) (sym sound_all) ∙ h))

statement_distinct : (s : Stmt) → is_sound_statement s ≡ true → InPart (means.statement s)
statement_distinct s h = subst (λ p. InPart (p s)) (sym meant_statements) (every_statement s (ap (λ p. p s) (sym sound_statements) ∙ h))

item_distinct : (i : Item) → is_sound_item i ≡ true → InPart (means.item_part i)
item_distinct (items.Stmt s) h = record { each = (statement_distinct s h).each }
item_distinct (items.Export line e) h = record { each = (expression_distinct e h).each }

items_distinct : (xs : List Item) → are_sound xs ≡ true → InPart (means.items_part xs)
items_distinct [] h = nothing_in []
items_distinct (i ∷ xs) h = let t = both _ _ h in in_two (means.item_part i) (means.items_part xs) (λ a rest. a ∷ rest) (item_distinct i t.0) (items_distinct xs t.1)

every_at : {A : Type 0} (is : A → Type 0) (xs : List A) (at : ℕ) (x : A) → Every is xs → slice_get xs at ≡ Some x → is x
every_at is [] at x h there = cc
every_at is (y ∷ ys) zero x h there = let same : y ≡ x = cc in subst is same h.0
every_at is (y ∷ ys) (suc at) x h there = every_at is ys at x h.1 there

pub distinct_parameters : (script : Script) → IsAccepted script → DistinctParameters script
distinct_parameters script accepted = record {
  each = λ number f there. every_at IsDistinct (means.functions_of script) number f ((items_distinct script.items (accepted_sound script accepted)).each 0) there;
}
