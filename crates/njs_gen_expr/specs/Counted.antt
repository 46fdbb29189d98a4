-- How many names in use stand in the parts of a tree.
use Rattle.std.specs.Prelude.{ℕ, List, map, length, Option}
use Rattle.std.specs.Option.{option_map}
use Rattle.njs_tree.specs.declared.tree.Expr.{Expr}
use Rattle.njs_tree.specs.declared.tree.Stmt.{Stmt}
use Rattle.njs_tree.specs.declared.tree.Case.{Case}
use Rattle.njs_tree.specs.declared.tree.ForFirst.{ForFirst}
use Rattle.njs_tree.specs.declared.tree.FunctionTree.{FunctionTree}
use Rattle.njs_meaning.specs.Places.{Around}
use Rattle.njs_meaning.specs.Parts.{each, each_held, each_named}
use Rattle.njs_scope.specs.Uses as uses
use Rattle.njs_scope.specs.Uses.{Uses, Of_part, all, all_held, all_named, all_of, held_of, each_declared}

abbrev pub in_uses : Uses → Around → ℕ
in_uses u names = length (u.places names)

abbrev pub in_part : Of_part → (start : ℕ) → Around → ℕ
in_part part start names = in_uses (part.means start) names

abbrev pub in_function : FunctionTree → (start : ℕ) → Around → ℕ
in_function f start names = in_uses ((uses.function f).means start).uses names

abbrev pub in_list : List Expr → (start : ℕ) → Around → ℕ
in_list list start names = in_uses (all ((each (map uses.expression list)).means start)) names

abbrev pub in_elements : List (Option Expr) → (start : ℕ) → Around → ℕ
in_elements list start names = in_uses (all_held ((each_held (map (option_map uses.expression) list)).means start)) names

abbrev pub in_fields : List (List ℕ × Expr) → (start : ℕ) → Around → ℕ
in_fields list start names = in_uses (all_named ((each_named (map (λ p. (p.0, uses.expression p.1)) list)).means start)) names

abbrev pub in_variables : List (List ℕ × Option Expr) → (start : ℕ) → Around → ℕ
in_variables list = in_part (each_declared (map (λ v. (v.0, option_map uses.expression v.1)) list))

abbrev pub in_held : Option Expr → (start : ℕ) → Around → ℕ
in_held part = in_part (held_of (option_map uses.expression part))

abbrev pub in_first : Option ForFirst → (start : ℕ) → Around → ℕ
in_first part = in_part (held_of (option_map uses.first part))

abbrev pub in_statements : List Stmt → (start : ℕ) → Around → ℕ
in_statements list start names = in_uses (all ((each (map uses.statement list)).means start)) names

abbrev pub in_branches : List Case → (start : ℕ) → Around → ℕ
in_branches list start names = in_uses (all ((each (map uses.branch list)).means start)) names
