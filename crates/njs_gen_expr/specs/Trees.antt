-- The code of the parts of trees, and how many functions stand in them.
use Rattle.std.specs.Prelude.{ℕ, List, map, Option}
use Rattle.std.specs.Option.{option_map}
use Rattle.njs_tree.specs.declared.tree.Expr.{Expr}
use Rattle.njs_tree.specs.declared.tree.Stmt.{Stmt}
use Rattle.njs_tree.specs.declared.tree.FunctionTree.{FunctionTree}
use Rattle.njs_tree.specs.declared.tree.Case.{Case}
use Rattle.njs_tree.specs.declared.tree.ForFirst.{ForFirst}
use Rattle.njs_tree.specs.declared.tree.ForInHead.{ForInHead}
use Rattle.njs_tree.specs.declared.tree.ExprNode.TheFolds.{fold-FunctionTree, fold-ForFirst, fold-ForInHead, fold-Case}
use Rattle.njs_meaning.specs.Parts.{each, held, each_named, each_held, each_named_held}
use Rattle.njs_simul.specs.Compiled.{Of_expression, Of_statement, Of_first, Of_branch, Of_function, node_part, first_part, head_part, statement_part, branch_part, expr_part, function_part, stmt_part}
pub use Rattle.njs_simul.specs.Compiled.{expression, statement}

unfoldable pub function : FunctionTree → Of_function
function = fold-FunctionTree Of_expression Of_first Of_expression Of_statement Of_branch Of_expression Of_function Of_statement node_part first_part head_part statement_part branch_part expr_part function_part stmt_part

unfoldable pub branch : Case → Of_branch
branch = fold-Case Of_expression Of_first Of_expression Of_statement Of_branch Of_expression Of_function Of_statement node_part first_part head_part statement_part branch_part expr_part function_part stmt_part

unfoldable pub first : ForFirst → Of_first
first = fold-ForFirst Of_expression Of_first Of_expression Of_statement Of_branch Of_expression Of_function Of_statement node_part first_part head_part statement_part branch_part expr_part function_part stmt_part

unfoldable pub head : ForInHead → Of_expression
head = fold-ForInHead Of_expression Of_first Of_expression Of_statement Of_branch Of_expression Of_function Of_statement node_part first_part head_part statement_part branch_part expr_part function_part stmt_part

abbrev pub in_list : List Expr → ℕ
in_list list = (each (map expression list)).size

abbrev pub in_elements : List (Option Expr) → ℕ
in_elements list = (each_held (map (option_map expression) list)).size

abbrev pub in_fields : List (List ℕ × Expr) → ℕ
in_fields list = (each_named (map (λ p. (p.0, expression p.1)) list)).size

abbrev pub in_variables : List (List ℕ × Option Expr) → ℕ
in_variables list = (each_named_held (map (λ v. (v.0, option_map expression v.1)) list)).size

abbrev pub in_held : Option Expr → ℕ
in_held part = (held (option_map expression part)).size

abbrev pub in_first : Option ForFirst → ℕ
in_first part = (held (option_map first part)).size

abbrev pub in_statements : List Stmt → ℕ
in_statements list = (each (map statement list)).size

abbrev pub in_branches : List Case → ℕ
in_branches list = (each (map branch list)).size
