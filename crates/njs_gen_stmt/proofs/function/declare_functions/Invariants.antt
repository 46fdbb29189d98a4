use Rattle.std.proofs.Common.{drop}
use Rattle.njs_gen_expr.specs.Written.{IsGoing}
use Rattle.njs_gen_stmt.proofs.Functions.{WroteDeclarations}
use Rattle.njs_gen_stmt.proofs.function.declare_functions.Given as goal

abbrev pub invariant-loop-i : goal.invariant-loop-i
invariant-loop-i l = (IsGoing l.w → IsGoing l.initial.w) × WroteDeclarations l.names (drop l.i l.list) l.here l.initial.w l.w
