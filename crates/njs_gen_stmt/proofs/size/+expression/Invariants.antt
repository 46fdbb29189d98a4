use Rattle.std.proofs.Common.{◌≡◌, ℕ, drop}
use Rattle.njs_gen_stmt.specs.Sized.{counted, in_values, in_elements, in_fields}
use Rattle.njs_gen_stmt.proofs.size.+expression.Given as goal

abbrev pub invariant-values-loop-i : goal.invariant-values-loop-i
invariant-values-loop-i l = (first : ℕ) → l.size ≡ counted (in_values (drop l.i l.list) first)

abbrev pub invariant-elements-loop-i : goal.invariant-elements-loop-i
invariant-elements-loop-i l = (first : ℕ) → l.size ≡ counted (in_elements (drop l.i l.list) first)

abbrev pub invariant-fields-loop-i : goal.invariant-fields-loop-i
invariant-fields-loop-i l = (first : ℕ) → l.size ≡ counted (in_fields (drop l.i l.list) first)
