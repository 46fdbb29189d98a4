use Rattle.std.proofs.Common.{drop}
use Rattle.njs_gen_expr.specs.Written.{IsGoing}
use Rattle.njs_gen_stmt.proofs.Jumps.{WroteJumps, BodiesBegin}
use Rattle.njs_gen_stmt.proofs.switch.jumps.Given as goal

abbrev pub invariant-loop-i : goal.invariant-loop-i
invariant-loop-i l = (IsGoing l.w → IsGoing l.initial.w) × WroteJumps (drop l.i l.list) l.here l.fn.end l.initial.w l.w × BodiesBegin (drop l.i l.list) l.fn.end l.initial.w l.w l.begin
