use Rattle.std.proofs.Common.{ℕ, List, Option, map}
use Rattle.std.specs.Option.{option_map}
use Rattle.njs_tree.specs.declared.tree.Expr.{Expr}
use Rattle.njs_tree.specs.declared.tree.Stmt.{Stmt}
use Rattle.njs_tree.specs.declared.tree.Case.{Case}
use Rattle.njs_meaning.specs.Parts.{one, each, each_held, each_named}
use Rattle.njs_simul.specs.Compiled.{expression, statement}
use Rattle.njs_scope.specs.Uses as uses
use Rattle.njs_gen_expr.specs.Trees as code
use Rattle.njs_gen_stmt.specs.Statements.{declared_in, declared_uses}
use Rattle.njs_gen_stmt.proofs.Walks.{Completes}
use Rattle.njs_gen_stmt.proofs.walk.+walk.Given as goal

abbrev pub invariant-in_expressions-loop-i : goal.invariant-in_expressions-loop-i
invariant-in_expressions-loop-i l = Completes (λ (l : List (Expr)). each (map expression l)) (λ (l : List (Expr)). uses.all_of (map uses.expression l)) l.around l.i l.list l.initial.w l.w

abbrev pub invariant-in_statements-loop-i : goal.invariant-in_statements-loop-i
invariant-in_statements-loop-i l = Completes (λ (l : List (Stmt)). each (map statement l)) (λ (l : List (Stmt)). uses.all_of (map uses.statement l)) l.around l.i l.list l.initial.w l.w

abbrev pub invariant-in_cases-loop-i : goal.invariant-in_cases-loop-i
invariant-in_cases-loop-i l = Completes (λ (l : List (Case)). each (map code.branch l)) (λ (l : List (Case)). uses.all_of (map uses.branch l)) l.around l.i l.list l.initial.w l.w

abbrev pub invariant-in_elements-loop-i : goal.invariant-in_elements-loop-i
invariant-in_elements-loop-i l = Completes (λ (l : List (Option Expr)). each_held (map (option_map expression) l)) (λ (l : List (Option Expr)). one (each_held (map (option_map uses.expression) l)) uses.all_held) l.around l.i l.list l.initial.w l.w

abbrev pub invariant-in_fields-loop-i : goal.invariant-in_fields-loop-i
invariant-in_fields-loop-i l = Completes (λ (l : List (List ℕ × Expr)). each_named (map (λ p. (p.0, expression p.1)) l)) (λ (l : List (List ℕ × Expr)). one (each_named (map (λ p. (p.0, uses.expression p.1)) l)) uses.all_named) l.around l.i l.list l.initial.w l.w

abbrev pub invariant-in_variables-loop-i : goal.invariant-in_variables-loop-i
invariant-in_variables-loop-i l = Completes (λ (l : List (List ℕ × Option Expr)). declared_in l) (λ (l : List (List ℕ × Option Expr)). declared_uses l) l.around l.i l.list l.initial.w l.w
