use Rattle.std.proofs.Common.{drop}
use Rattle.njs_gen_expr.specs.Written.{IsGoing}
use Rattle.njs_gen_stmt.specs.Statements.{WroteDefault, cases, cases_uses}
use Rattle.njs_gen_stmt.proofs.Lists.{WroteStatements, WroteBodies}
use Rattle.njs_gen_stmt.proofs.statement.+statement.Given as goal

abbrev pub invariant-bodies-loop-i : goal.invariant-bodies-loop-i
invariant-bodies-loop-i l =
    (IsGoing l.w → IsGoing l.initial.w) × WroteBodies (drop l.i l.list) l.here l.initial.w l.w × WroteDefault (cases (drop l.i l.list)) (cases_uses (drop l.i l.list)) l.here l.initial.w l.w l.default

abbrev pub invariant-statements-loop-i : goal.invariant-statements-loop-i
invariant-statements-loop-i l = (IsGoing l.w → IsGoing l.initial.w) × WroteStatements (drop l.i l.list) l.here l.initial.w l.w
