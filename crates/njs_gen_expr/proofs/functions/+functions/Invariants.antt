use Rattle.std.proofs.Common.{◌≡◌, drop}
use Rattle.njs_gen_expr.specs.Written.{most_functions}
use Rattle.njs_gen_expr.specs.Trees.{in_list, in_elements, in_fields, in_variables, in_statements, in_branches}
use Rattle.njs_gen_expr.proofs.functions.+functions.Given as goal

abbrev pub invariant-in_list-loop-i : goal.invariant-in_list-loop-i
invariant-in_list-loop-i l = l.sum ≡ most_functions (in_list (drop l.i l.list))

abbrev pub invariant-in_elements-loop-i : goal.invariant-in_elements-loop-i
invariant-in_elements-loop-i l = l.sum ≡ most_functions (in_elements (drop l.i l.list))

abbrev pub invariant-in_fields-loop-i : goal.invariant-in_fields-loop-i
invariant-in_fields-loop-i l = l.sum ≡ most_functions (in_fields (drop l.i l.list))

abbrev pub invariant-in_variables-loop-i : goal.invariant-in_variables-loop-i
invariant-in_variables-loop-i l = l.sum ≡ most_functions (in_variables (drop l.i l.list))

abbrev pub invariant-in_statements-loop-i : goal.invariant-in_statements-loop-i
invariant-in_statements-loop-i l = l.sum ≡ most_functions (in_statements (drop l.i l.list))

abbrev pub invariant-in_branches-loop-i : goal.invariant-in_branches-loop-i
invariant-in_branches-loop-i l = l.sum ≡ most_functions (in_branches (drop l.i l.list))
