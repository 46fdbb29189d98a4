-- The early refusals of a script in order of the text (ECMA-262 5.1 §11.4.1, §11.13.1, §12.2.1, §12.7 to §12.9, §12.12, §12.14.1, §13.1,
-- in strict mode). A node's own come first, in the order of the kinds, then those of its parts.
use Rattle.std.specs.Prelude.{ℕ, Bool, true, false, not, ◌&&◌, ◌||◌, nat_lt, if◌then◌else◌, List, [], ◌∷◌, ◌++◌, length, Option, Some, None, bytes_eq}
use Rattle.std.specs.List.{list_any}
use Rattle.njs_tree.specs.declared.token.EarlyFault.{EarlyFault}
use Rattle.njs_tree.specs.declared.token.EarlyKind.{EarlyKind}
use Rattle.njs_tree.specs.declared.token.EarlyKind.TheVariants as kind
use Rattle.njs_tree.specs.declared.tree.UnaryOp.{UnaryOp}
use Rattle.njs_tree.specs.declared.tree.UnaryOp.TheVariants as unary
use Rattle.njs_tree.specs.declared.tree.Script.{Script}
use Rattle.njs_tree.specs.declared.tree.Item.{Item}
use Rattle.njs_tree.specs.declared.tree.Item.TheVariants as items
use Rattle.njs_tree.specs.declared.tree.Expr.{Expr}
use Rattle.njs_tree.specs.declared.tree.Stmt.{Stmt}
use Rattle.njs_tree.specs.declared.tree.ExprNode.TheOpen.{ExprNode-F, ForFirst-F, ForInHead-F, StmtNode-F, Case-F, Expr-F, FunctionTree-F, Stmt-F}
use Rattle.njs_tree.specs.declared.tree.ExprNode.TheFolds.{fold-Expr, fold-Stmt}
use Rattle.njs_tree.specs.Names.{is_protected}

-- what stands around a node in its function
pub record Around : Type 0 where
  pub in_function : Bool
  pub in_loop : Bool
  pub in_switch : Bool
  pub labels : List (List ℕ)

abbrev pub outermost : Around
outermost = record { in_function = false; in_loop = false; in_switch = false; labels = [] }

-- a function's body starts anew
abbrev pub of_function : Around
of_function = record { in_function = true; in_loop = false; in_switch = false; labels = [] }

abbrev pub of_loop : Around → Around
of_loop around = record { in_function = around.in_function; in_loop = true; in_switch = around.in_switch; labels = around.labels }

abbrev pub of_switch : Around → Around
of_switch around = record { in_function = around.in_function; in_loop = around.in_loop; in_switch = true; labels = around.labels }

abbrev pub of_label : List ℕ → Around → Around
of_label label around = record { in_function = around.in_function; in_loop = around.in_loop; in_switch = around.in_switch; labels = label ∷ around.labels }

abbrev pub has_label : List ℕ → Around → Bool
has_label label around = list_any (bytes_eq label) around.labels

-- what a node refuses, by what stands around it
abbrev pub Refusals : Type 0
Refusals = Around → List EarlyFault

-- and by its line
abbrev pub OnLine : Type 0
OnLine = ℕ → Refusals

-- of an expression also the name that it is, and its line
pub record Seen : Type 0 where
  pub name : Option (List ℕ)
  pub line : ℕ
  pub refusals : Refusals

pub record SeenNode : Type 0 where
  pub name : Option (List ℕ)
  pub refusals : OnLine

-- of the head of a loop also whether it refuses a name
pub record SeenHead : Type 0 where
  pub is_refused : Bool
  pub refusals : Refusals

abbrev pub refuse_if : Bool → ℕ → EarlyKind → List EarlyFault
refuse_if test line k = if test then record { kind = k; line = line } ∷ [] else []

abbrev pub is_protected_name : Option (List ℕ) → Bool
is_protected_name None = false
is_protected_name (Some name) = is_protected name

abbrev pub is_name : Option (List ℕ) → Bool
is_name None = false
is_name (Some name) = true

abbrev pub is_delete : UnaryOp → Bool
is_delete unary.Delete = true
is_delete _ = false

-- whether a name stands twice in the list
abbrev pub repeats : List (List ℕ) → Bool
repeats [] = false
repeats (name ∷ names) = list_any (bytes_eq name) names || repeats names

-- ---- of lists, in their order

abbrev pub all_of : List Refusals → Refusals
all_of [] around = []
all_of (x ∷ xs) around = x around ++ all_of xs around

abbrev pub of_exprs : List Seen → Refusals
of_exprs [] around = []
of_exprs (x ∷ xs) around = x.refusals around ++ of_exprs xs around

abbrev pub of_optional : Option Seen → Refusals
of_optional None around = []
of_optional (Some x) around = x.refusals around

abbrev pub of_elements : List (Option Seen) → Refusals
of_elements [] around = []
of_elements (x ∷ xs) around = of_optional x around ++ of_elements xs around

abbrev pub of_properties : List (List ℕ × Seen) → Refusals
of_properties [] around = []
of_properties (p ∷ ps) around = p.1.refusals around ++ of_properties ps around

abbrev pub of_values : List (List ℕ × Option Seen) → Refusals
of_values [] around = []
of_values (v ∷ vs) around = of_optional v.1 around ++ of_values vs around

abbrev pub declares_protected : List (List ℕ × Option Seen) → Bool
declares_protected vs = list_any (λ v. is_protected v.0) vs

-- ---- of the kinds of expressions

-- a target that is a name: the refusal stands on it
abbrev pub of_target : Seen → Refusals
of_target x around = refuse_if (is_protected_name x.name) x.line kind.Reserved ++ x.refusals around

abbrev pub Layer : Type 0
Layer = ExprNode-F SeenNode SeenHead SeenHead OnLine Refusals Seen OnLine Refusals

abbrev pub node_refusals : Layer → OnLine
node_refusals (ExprNode-F.Comma a b) line around = a.refusals around ++ b.refusals around
node_refusals (ExprNode-F.Assign op target value) line around = of_target target around ++ value.refusals around
node_refusals (ExprNode-F.Cond a b c) line around = a.refusals around ++ b.refusals around ++ c.refusals around
node_refusals (ExprNode-F.Logical op a b) line around = a.refusals around ++ b.refusals around
node_refusals (ExprNode-F.Binary op a b) line around = a.refusals around ++ b.refusals around
node_refusals (ExprNode-F.Unary op a) line around = refuse_if (is_delete op && is_name a.name) line kind.Delete ++ a.refusals around
node_refusals (ExprNode-F.Update op prefix target) line around = of_target target around
node_refusals (ExprNode-F.Call callee args) line around = refuse_if (nat_lt 255 (length args)) line kind.Count ++ callee.refusals around ++ of_exprs args around
node_refusals (ExprNode-F.Member object name) line around = object.refusals around
node_refusals (ExprNode-F.Index object index) line around = object.refusals around ++ index.refusals around
node_refusals (ExprNode-F.New callee args) line around = refuse_if (nat_lt 255 (length args)) line kind.Count ++ callee.refusals around ++ of_exprs args around
node_refusals (ExprNode-F.Array elements) line around = of_elements elements around
node_refusals (ExprNode-F.Object properties) line around = of_properties properties around
node_refusals (ExprNode-F.Function f) line around = f line around
node_refusals _ line around = []

abbrev pub node_name : Layer → Option (List ℕ)
node_name (ExprNode-F.Name name) = Some name
node_name _ = None

abbrev pub node_step : Layer → SeenNode
node_step n = record { name = node_name n; refusals = node_refusals n }

abbrev pub expr_step : Expr-F SeenNode SeenHead SeenHead OnLine Refusals Seen OnLine Refusals → Seen
expr_step e = record { name = e.node.name; line = e.line; refusals = e.node.refusals e.line }

-- on the node that the function is part of
abbrev pub function_step : FunctionTree-F SeenNode SeenHead SeenHead OnLine Refusals Seen OnLine Refusals → OnLine
function_step f line around =
    refuse_if (repeats f.params) line kind.Parameter
    ++ refuse_if (is_protected_name f.name || list_any is_protected f.params) line kind.Reserved
    ++ refuse_if (nat_lt 255 (length f.params)) line kind.Count
    ++ all_of f.body of_function

-- ---- of the kinds of statements

abbrev pub first_step : ForFirst-F SeenNode SeenHead SeenHead OnLine Refusals Seen OnLine Refusals → SeenHead
first_step (ForFirst-F.ForFirst::Var vs) = record { is_refused = declares_protected vs; refusals = of_values vs }
first_step (ForFirst-F.ForFirst::Expr a) = record { is_refused = false; refusals = a.refusals }

abbrev pub head_step : ForInHead-F SeenNode SeenHead SeenHead OnLine Refusals Seen OnLine Refusals → SeenHead
head_step (ForInHead-F.ForInHead::Var name) = record { is_refused = is_protected name; refusals = λ around. [] }
head_step (ForInHead-F.Target target) = record { is_refused = false; refusals = of_target target }

abbrev pub of_first : Option SeenHead → OnLine
of_first None line around = []
of_first (Some first) line around = refuse_if first.is_refused line kind.Reserved ++ first.refusals around

abbrev pub of_other : Option Refusals → Refusals
of_other None around = []
of_other (Some s) around = s around

abbrev pub is_caught_refused : Option (List ℕ × List Refusals) → Bool
is_caught_refused None = false
is_caught_refused (Some caught) = is_protected caught.0

abbrev pub of_caught : Option (List ℕ × List Refusals) → Refusals
of_caught None around = []
of_caught (Some caught) around = all_of caught.1 around

abbrev pub of_finally : Option (List Refusals) → Refusals
of_finally None around = []
of_finally (Some body) around = all_of body around

-- one test, and then one body
abbrev pub case_step : Case-F SeenNode SeenHead SeenHead OnLine Refusals Seen OnLine Refusals → Refusals
case_step c around = of_optional c.test around ++ all_of c.body around

abbrev pub step_step : StmtNode-F SeenNode SeenHead SeenHead OnLine Refusals Seen OnLine Refusals → OnLine
step_step (StmtNode-F.Block body) line around = all_of body around
step_step (StmtNode-F.StmtNode::Var vs) line around = refuse_if (declares_protected vs) line kind.Reserved ++ of_values vs around
step_step StmtNode-F.Empty line around = []
step_step (StmtNode-F.StmtNode::Expr a) line around = a.refusals around
step_step (StmtNode-F.If test body other) line around = test.refusals around ++ body around ++ of_other other around
step_step (StmtNode-F.Do body test) line around = body (of_loop around) ++ test.refusals around
step_step (StmtNode-F.While test body) line around = test.refusals around ++ body (of_loop around)
step_step (StmtNode-F.For first test update body) line around =
    of_first first line around ++ of_optional test around ++ of_optional update around ++ body (of_loop around)
step_step (StmtNode-F.ForIn head value body) line around =
    refuse_if head.is_refused line kind.Reserved ++ head.refusals around ++ value.refusals around ++ body (of_loop around)
step_step (StmtNode-F.Continue None) line around = refuse_if (not around.in_loop) line kind.Continue
step_step (StmtNode-F.Continue (Some label)) line around = refuse_if (not around.in_loop || not (has_label label around)) line kind.Continue
step_step (StmtNode-F.Break None) line around = refuse_if (not (around.in_loop || around.in_switch)) line kind.Break
step_step (StmtNode-F.Break (Some label)) line around = refuse_if (not (around.in_loop || around.in_switch) || not (has_label label around)) line kind.Break
step_step (StmtNode-F.Return value) line around = refuse_if (not around.in_function) line kind.Return ++ of_optional value around
step_step (StmtNode-F.Throw value) line around = value.refusals around
step_step (StmtNode-F.Switch value cases) line around = value.refusals around ++ all_of cases (of_switch around)
step_step (StmtNode-F.Try body caught last) line around =
    refuse_if (is_caught_refused caught) line kind.Reserved ++ all_of body around ++ of_caught caught around ++ of_finally last around
step_step (StmtNode-F.Label label body) line around = refuse_if (has_label label around) line kind.Label ++ body (of_label label around)
step_step (StmtNode-F.FunctionDecl f) line around = f line around

abbrev pub stmt_step : Stmt-F SeenNode SeenHead SeenHead OnLine Refusals Seen OnLine Refusals → Refusals
stmt_step s = s.node s.line

-- ---- of whole trees

unfoldable pub seen : Expr → Seen
seen = fold-Expr SeenNode SeenHead SeenHead OnLine Refusals Seen OnLine Refusals node_step first_step head_step step_step case_step expr_step function_step stmt_step

unfoldable pub of_stmt : Stmt → Refusals
of_stmt = fold-Stmt SeenNode SeenHead SeenHead OnLine Refusals Seen OnLine Refusals node_step first_step head_step step_step case_step expr_step function_step stmt_step

abbrev pub of_item : Item → List EarlyFault
of_item (items.Stmt s) = of_stmt s outermost
of_item (items.Export line a) = (seen a).refusals outermost

abbrev pub of_items : List Item → List EarlyFault
of_items [] = []
of_items (x ∷ xs) = of_item x ++ of_items xs

-- the early refusals of a script
abbrev pub early : Script → List EarlyFault
early script = of_items script.items

-- the first of them
abbrev pub first_early : List EarlyFault → Option EarlyFault
first_early [] = None
first_early (f ∷ fs) = Some f
