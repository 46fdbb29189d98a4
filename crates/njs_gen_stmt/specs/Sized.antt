-- How many operations stand for parts of a tree.
use Rattle.std.specs.Prelude.{ℕ, ◌+◌, List, map, min, Option}
use Rattle.std.specs.Option.{option_map, option_map_or}
use Rattle.njs_tree.specs.declared.tree.Expr.{Expr}
use Rattle.njs_tree.specs.declared.tree.Stmt.{Stmt}
use Rattle.njs_tree.specs.declared.tree.Case.{Case}
use Rattle.njs_tree.specs.declared.tree.ForFirst.{ForFirst}
use Rattle.njs_tree.specs.declared.tree.ForInHead.{ForInHead}
use Rattle.njs_meaning.specs.Parts.{each, held, each_named, each_held, each_named_held}
use Rattle.njs_simul.specs.Emission.{Form, Coded, value_size, values_size, elements_size, fields_size}
use Rattle.njs_simul.specs.EmissionOfStatements.{in_turn_size, declare_size, branches_size, bodies_size, first_of, CodedBranch}
use Rattle.njs_gen_expr.specs.Trees.{expression, statement, branch, head}
use Rattle.njs_gen_expr.specs.Trees as code

-- a number of operations, as far as it is counted
abbrev pub counted : ℕ → ℕ
counted n = min n 16777217

-- what an expression is before its value is asked
abbrev pub form : Expr → (first : ℕ) → Form
form e first = ((expression e).means first).form

abbrev pub in_target : Expr → (first : ℕ) → ℕ
in_target e first = ((expression e).means first).size

abbrev pub in_value : Expr → (first : ℕ) → ℕ
in_value e first = value_size ((expression e).means first)

abbrev pub in_values : List Expr → (first : ℕ) → ℕ
in_values list first = values_size ((each (map expression list)).means first)

abbrev pub in_elements : List (Option Expr) → (first : ℕ) → ℕ
in_elements list first = elements_size ((each_held (map (option_map expression) list)).means first)

abbrev pub in_fields : List (List ℕ × Expr) → (first : ℕ) → ℕ
in_fields list first = fields_size ((each_named (map (λ p. (p.0, expression p.1)) list)).means first)

abbrev pub in_variables : List (List ℕ × Option Expr) → (first : ℕ) → ℕ
in_variables list first = declare_size ((each_named_held (map (λ v. (v.0, option_map expression v.1)) list)).means first)

abbrev pub in_statement : Stmt → (first : ℕ) → ℕ
in_statement s first = ((statement s).means first).size

abbrev pub in_statements : List Stmt → (first : ℕ) → ℕ
in_statements list first = in_turn_size ((each (map statement list)).means first)

abbrev pub in_branches : List Case → (first : ℕ) → ℕ
in_branches list first = branches_size ((each (map branch list)).means first) + bodies_size ((each (map branch list)).means first)

abbrev pub in_first : Option ForFirst → (first : ℕ) → ℕ
in_first part first = (first_of ((held (option_map code.first part)).means first)).size

abbrev pub in_head : ForInHead → (first : ℕ) → ℕ
in_head part first = ((head part).means first).size

-- with one operation more, if it is there
abbrev pub aside_size : Option Coded → ℕ
aside_size a = option_map_or (λ a. value_size a + 1) a 0

abbrev pub in_aside : Option Expr → (first : ℕ) → ℕ
in_aside e first = aside_size ((held (option_map expression e)).means first)

abbrev pub branch_size : CodedBranch → ℕ
branch_size b = aside_size b.test + in_turn_size b.body

abbrev pub in_branch : Case → (first : ℕ) → ℕ
in_branch part first = branch_size ((branch part).means first)
