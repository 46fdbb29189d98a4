-- What the functions of the walk answer: the first refusal of a part of a tree.
use Rattle.std.specs.Prelude.{ℕ, Bool, not, nat_lt, ◌||◌, List, [], ◌∷◌, ◌++◌, length, map, Option, Some, None, option_map, Result, Ok, Err}
use Rattle.std.specs.List.{list_any}
use Rattle.njs_tree.specs.declared.token.EarlyFault.{EarlyFault}
use Rattle.njs_tree.specs.declared.token.EarlyKind.TheVariants as kind
use Rattle.njs_tree.specs.declared.tree.Expr.{Expr}
use Rattle.njs_tree.specs.declared.tree.Stmt.{Stmt}
use Rattle.njs_tree.specs.declared.tree.Case.{Case}
use Rattle.njs_tree.specs.declared.tree.FunctionTree.{FunctionTree}
use Rattle.njs_tree.specs.declared.tree.ForFirst.{ForFirst}
use Rattle.njs_tree.specs.declared.tree.ForInHead.{ForInHead}
use Rattle.njs_tree.specs.declared.tree.ExprNode.TheFolds.{fold-ForFirst, fold-ForInHead, fold-Case, fold-FunctionTree}
use Rattle.njs_tree.specs.Names.{is_protected}
use Rattle.njs_tree.specs.Early as early
use Rattle.njs_tree.specs.Early.{Around, has_label, of_label, Refusals, OnLine, Seen, SeenNode, SeenHead, seen, of_stmt, node_step, first_step, head_step, step_step, case_step, expr_step, function_step, stmt_step, of_exprs, of_optional, of_elements, of_properties, of_values, all_of, of_first, of_other, of_caught, of_finally, refuse_if, repeats, is_protected_name, is_name}

-- the first refusal, or none
abbrev pub answer : List EarlyFault → Result (Unit {0}) EarlyFault
answer [] = Ok tt
answer (f ∷ fs) = Err f

abbrev pub of_expr : Expr → Refusals
of_expr e = (seen e).refusals

-- whether an expression is a name
abbrev pub is_name_expr : Expr → Bool
is_name_expr e = is_name (seen e).name

-- an expression that is a target, where it is a protected name
abbrev pub own_of_target : Expr → List EarlyFault
own_of_target e = refuse_if (is_protected_name (seen e).name) (seen e).line kind.Reserved

-- the refusals that stand on the function itself
abbrev pub own_of_function : Option (List ℕ) → List (List ℕ) → ℕ → List EarlyFault
own_of_function name params line =
    refuse_if (repeats params) line kind.Parameter
    ++ refuse_if (is_protected_name name || list_any is_protected params) line kind.Reserved
    ++ refuse_if (nat_lt 255 (length params)) line kind.Count

-- what a `continue` and a `break` are refused for
abbrev pub is_stray_continue : Option (List ℕ) → Around → Bool
is_stray_continue None around = not around.in_loop
is_stray_continue (Some label) around = not around.in_loop || not (has_label label around)

abbrev pub is_stray_break : Option (List ℕ) → Around → Bool
is_stray_break None around = not (around.in_loop || around.in_switch)
is_stray_break (Some label) around = not (around.in_loop || around.in_switch) || not (has_label label around)

abbrev pub all_exprs : List Expr → Refusals
all_exprs xs = of_exprs (map seen xs)

abbrev pub maybe : Option Expr → Refusals
maybe e = of_optional (option_map seen e)

abbrev pub all_elements : List (Option Expr) → Refusals
all_elements xs = of_elements (map (option_map seen) xs)

abbrev pub all_properties : List (List ℕ × Expr) → Refusals
all_properties ps = of_properties (map (λ p. (p.0, seen p.1)) ps)

-- the names and values of a `var`
abbrev pub values_of : List (List ℕ × Option Expr) → List (List ℕ × Option Seen)
values_of vs = map (λ v. (v.0, option_map seen v.1)) vs

abbrev pub all_values : List (List ℕ × Option Expr) → Refusals
all_values vs = of_values (values_of vs)

-- a `var`, on the line of the statement that it is part of
abbrev pub declared : List (List ℕ × Option Expr) → OnLine
declared vs line around = refuse_if (early.declares_protected (values_of vs)) line kind.Reserved ++ all_values vs around

-- an expression that is a target
abbrev pub target : Expr → Refusals
target e around = own_of_target e ++ of_expr e around

-- a label and the statement behind it, on the line of the label
abbrev pub labelled : List ℕ → Stmt → OnLine
labelled label body line around = refuse_if (has_label label around) line kind.Label ++ of_stmt body (of_label label around)

abbrev pub all_stmts : List Stmt → Refusals
all_stmts ss = all_of (map of_stmt ss)

-- a function on the line of the node that it is part of, whatever stands around it
unfoldable pub of_function : FunctionTree → OnLine
of_function = fold-FunctionTree SeenNode SeenHead SeenHead OnLine Refusals Seen OnLine Refusals node_step first_step head_step step_step case_step expr_step function_step stmt_step

unfoldable pub of_case : Case → Refusals
of_case = fold-Case SeenNode SeenHead SeenHead OnLine Refusals Seen OnLine Refusals node_step first_step head_step step_step case_step expr_step function_step stmt_step

abbrev pub all_cases : List Case → Refusals
all_cases cs = all_of (map of_case cs)

unfoldable pub seen_first : ForFirst → SeenHead
seen_first = fold-ForFirst SeenNode SeenHead SeenHead OnLine Refusals Seen OnLine Refusals node_step first_step head_step step_step case_step expr_step function_step stmt_step

unfoldable pub seen_head : ForInHead → SeenHead
seen_head = fold-ForInHead SeenNode SeenHead SeenHead OnLine Refusals Seen OnLine Refusals node_step first_step head_step step_step case_step expr_step function_step stmt_step

-- the first part of the head of a `for`, on the line of the statement
abbrev pub maybe_first : Option ForFirst → OnLine
maybe_first first = early.of_first (option_map seen_first first)

-- what stands before the `in`, on the line of the statement
abbrev pub of_head : ForInHead → OnLine
of_head head line around = refuse_if (seen_head head).is_refused line kind.Reserved ++ (seen_head head).refusals around

-- a `catch`, its name and its block
abbrev pub caught_of : Option (List ℕ × List Stmt) → Option (List ℕ × List Refusals)
caught_of caught = option_map (λ c. (c.0, map of_stmt c.1)) caught
