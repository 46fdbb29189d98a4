use Rattle.std.proofs.Common.{◌≡◌, ℕ, drop}
use Rattle.njs_gen_stmt.specs.Sized.{counted, in_statements, in_branches}
use Rattle.njs_gen_stmt.proofs.size.+statement.Given as goal

abbrev pub invariant-in_turn-loop-i : goal.invariant-in_turn-loop-i
invariant-in_turn-loop-i l = (first : ℕ) → l.size ≡ counted (in_statements (drop l.i l.list) first)

abbrev pub invariant-branches-loop-i : goal.invariant-branches-loop-i
invariant-branches-loop-i l = (first : ℕ) → l.size ≡ counted (in_branches (drop l.i l.list) first)
