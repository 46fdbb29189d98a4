-- How many nodes a script has, and how many operations its code has at most.
use Rattle.std.specs.Prelude.{◌≤◌, ℕ, ◌+◌, ◌*◌, List, [], ◌∷◌, length, Option, Some, None}
use Rattle.njs_tree.specs.declared.tree.Script.{Script}
use Rattle.njs_tree.specs.declared.tree.Item.{Item}
use Rattle.njs_tree.specs.declared.tree.Item.TheVariants as items
use Rattle.njs_tree.specs.declared.tree.Expr.{Expr}
use Rattle.njs_tree.specs.declared.tree.Stmt.{Stmt}
use Rattle.njs_tree.specs.declared.tree.ExprNode.TheOpen.{ExprNode-F, ForFirst-F, ForInHead-F, StmtNode-F, Case-F, Expr-F, FunctionTree-F, Stmt-F}
use Rattle.njs_tree.specs.declared.tree.ExprNode.TheFolds.{fold-Expr, fold-Stmt}
use Rattle.njs_code.specs.declared.code.Code.{Code}
use Rattle.njs_code.specs.declared.code.FunctionCode.{FunctionCode}
use Rattle.njs_meaning.specs.Places.{Bindings}
use Rattle.njs_simul.specs.Compiled.{code_of}

-- ---- of lists, and of what may be missing

abbrev pub total : List ℕ → ℕ
total [] = 0
total (n ∷ ns) = n + total ns

abbrev pub or_none : Option ℕ → ℕ
or_none None = 0
or_none (Some n) = n

abbrev pub total_held : List (Option ℕ) → ℕ
total_held [] = 0
total_held (n ∷ ns) = or_none n + total_held ns

abbrev pub total_named : List (List ℕ × ℕ) → ℕ
total_named [] = 0
total_named (p ∷ ps) = p.1 + total_named ps

abbrev pub total_named_held : List (List ℕ × Option ℕ) → ℕ
total_named_held [] = 0
total_named_held (p ∷ ps) = or_none p.1 + total_named_held ps

-- ---- of the kinds of trees: an expression is a node, and so is a statement

abbrev pub node_count : ExprNode-F ℕ ℕ ℕ ℕ ℕ ℕ ℕ ℕ → ℕ
node_count (ExprNode-F.Comma a b) = a + b
node_count (ExprNode-F.Assign op target value) = target + value
node_count (ExprNode-F.Cond a b c) = a + b + c
node_count (ExprNode-F.Logical op a b) = a + b
node_count (ExprNode-F.Binary op a b) = a + b
node_count (ExprNode-F.Unary op a) = a
node_count (ExprNode-F.Update op prefix target) = target
node_count (ExprNode-F.Call callee args) = callee + total args
node_count (ExprNode-F.Member a name) = a
node_count (ExprNode-F.Index a b) = a + b
node_count (ExprNode-F.New callee args) = callee + total args
node_count (ExprNode-F.Num n) = 0
node_count (ExprNode-F.Str text) = 0
node_count (ExprNode-F.Name text) = 0
node_count ExprNode-F.This = 0
node_count ExprNode-F.Null = 0
node_count (ExprNode-F.Bool b) = 0
node_count (ExprNode-F.Array elements) = total_held elements
node_count (ExprNode-F.Object properties) = total_named properties
node_count (ExprNode-F.Function f) = f

abbrev pub expr_count : Expr-F ℕ ℕ ℕ ℕ ℕ ℕ ℕ ℕ → ℕ
expr_count e = 1 + e.node

abbrev pub function_count : FunctionTree-F ℕ ℕ ℕ ℕ ℕ ℕ ℕ ℕ → ℕ
function_count f = total f.body

abbrev pub first_count : ForFirst-F ℕ ℕ ℕ ℕ ℕ ℕ ℕ ℕ → ℕ
first_count (ForFirst-F.ForFirst::Var vs) = total_named_held vs
first_count (ForFirst-F.ForFirst::Expr a) = a

abbrev pub head_count : ForInHead-F ℕ ℕ ℕ ℕ ℕ ℕ ℕ ℕ → ℕ
head_count (ForInHead-F.ForInHead::Var text) = 0
head_count (ForInHead-F.Target target) = target

abbrev pub branch_count : Case-F ℕ ℕ ℕ ℕ ℕ ℕ ℕ ℕ → ℕ
branch_count c = or_none c.test + total c.body

abbrev pub caught_count : Option (List ℕ × List ℕ) → ℕ
caught_count None = 0
caught_count (Some caught) = total caught.1

abbrev pub last_count : Option (List ℕ) → ℕ
last_count None = 0
last_count (Some last) = total last

abbrev pub statement_count : StmtNode-F ℕ ℕ ℕ ℕ ℕ ℕ ℕ ℕ → ℕ
statement_count (StmtNode-F.Block body) = total body
statement_count (StmtNode-F.StmtNode::Var vs) = total_named_held vs
statement_count StmtNode-F.Empty = 0
statement_count (StmtNode-F.StmtNode::Expr a) = a
statement_count (StmtNode-F.If test body other) = test + body + or_none other
statement_count (StmtNode-F.Do body test) = body + test
statement_count (StmtNode-F.While test body) = test + body
statement_count (StmtNode-F.For first test update body) = or_none first + or_none test + or_none update + body
statement_count (StmtNode-F.ForIn head value body) = head + value + body
statement_count (StmtNode-F.Continue label) = 0
statement_count (StmtNode-F.Break label) = 0
statement_count (StmtNode-F.Return value) = or_none value
statement_count (StmtNode-F.Throw value) = value
statement_count (StmtNode-F.Switch value cases) = value + total cases
statement_count (StmtNode-F.Try body caught last) = total body + caught_count caught + last_count last
statement_count (StmtNode-F.Label label body) = body
statement_count (StmtNode-F.FunctionDecl f) = f

abbrev pub stmt_count : Stmt-F ℕ ℕ ℕ ℕ ℕ ℕ ℕ ℕ → ℕ
stmt_count s = 1 + s.node

-- ---- of whole trees

unfoldable pub nodes_of_expression : Expr → ℕ
nodes_of_expression = fold-Expr ℕ ℕ ℕ ℕ ℕ ℕ ℕ ℕ node_count first_count head_count statement_count branch_count expr_count function_count stmt_count

unfoldable pub nodes_of_statement : Stmt → ℕ
nodes_of_statement = fold-Stmt ℕ ℕ ℕ ℕ ℕ ℕ ℕ ℕ node_count first_count head_count statement_count branch_count expr_count function_count stmt_count

abbrev pub nodes_of_item : Item → ℕ
nodes_of_item (items.Stmt s) = nodes_of_statement s
nodes_of_item (items.Export line a) = nodes_of_expression a

abbrev pub nodes_of_items : List Item → ℕ
nodes_of_items [] = 0
nodes_of_items (i ∷ is) = nodes_of_item i + nodes_of_items is

abbrev pub nodes_of : Script → ℕ
nodes_of script = nodes_of_items script.items

-- ---- code

-- the operations of functions
abbrev pub operations_in : List FunctionCode → ℕ
operations_in [] = 0
operations_in (f ∷ fs) = length f.ops + operations_in fs

abbrev pub operations_of : Code → ℕ
operations_of code = length code.body.ops + operations_in code.functions

-- the greatest number of operations, and a number of nodes whose code has no more of them
abbrev pub max_operations : ℕ
max_operations = 16777216

abbrev pub safe_nodes : ℕ
safe_nodes = 262144

-- at most 16 operations for each node, and the two that every module has; so few nodes have code that isn't too long
pub record SizesAreSmall (script : Script) (outermost : Bindings) : Type 0 where
  pub by_nodes : operations_of (code_of script outermost) ≤ 16 * nodes_of script + 2
  pub within : nodes_of script ≤ safe_nodes → operations_of (code_of script outermost) ≤ max_operations

abbrev pub SmallCode : Type 0
SmallCode = (script : Script) (outermost : Bindings) → SizesAreSmall script outermost
