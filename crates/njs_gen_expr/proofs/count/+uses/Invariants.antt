use Rattle.std.proofs.Common.{◌≡◌, ℕ, drop}
use Rattle.njs_meaning.specs.Places.{Around}
use Rattle.njs_gen_expr.specs.Written.{most}
use Rattle.njs_gen_expr.specs.Counted.{in_list, in_elements, in_fields, in_variables, in_statements, in_branches}
use Rattle.njs_gen_expr.proofs.count.+uses.Given as goal

abbrev pub invariant-in_list-loop-i : goal.invariant-in_list-loop-i
invariant-in_list-loop-i l = (start : ℕ) (names : Around) → l.sum ≡ most (in_list (drop l.i l.list) start names)

abbrev pub invariant-in_elements-loop-i : goal.invariant-in_elements-loop-i
invariant-in_elements-loop-i l = (start : ℕ) (names : Around) → l.sum ≡ most (in_elements (drop l.i l.list) start names)

abbrev pub invariant-in_fields-loop-i : goal.invariant-in_fields-loop-i
invariant-in_fields-loop-i l = (start : ℕ) (names : Around) → l.sum ≡ most (in_fields (drop l.i l.list) start names)

abbrev pub invariant-in_variables-loop-i : goal.invariant-in_variables-loop-i
invariant-in_variables-loop-i l = (start : ℕ) (names : Around) → l.sum ≡ most (in_variables (drop l.i l.list) start names)

abbrev pub invariant-in_statements-loop-i : goal.invariant-in_statements-loop-i
invariant-in_statements-loop-i l = (start : ℕ) (names : Around) → l.sum ≡ most (in_statements (drop l.i l.list) start names)

abbrev pub invariant-in_branches-loop-i : goal.invariant-in_branches-loop-i
invariant-in_branches-loop-i l = (start : ℕ) (names : Around) → l.sum ≡ most (in_branches (drop l.i l.list) start names)
