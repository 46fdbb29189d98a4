use Rattle.std.proofs.Common.{◌≡◌, ℕ, drop}
use Rattle.njs_gen_stmt.specs.Sized.{counted, in_variables}
use Rattle.njs_gen_stmt.proofs.size.variables.Given as goal

abbrev pub invariant-loop-i : goal.invariant-loop-i
invariant-loop-i l = (first : ℕ) → l.size ≡ counted (in_variables (drop l.i l.list) first)
