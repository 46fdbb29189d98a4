use Rattle.std.proofs.Common.{drop}
use Rattle.njs_gen_expr.specs.Written.{IsGoing}
use Rattle.njs_gen_expr.proofs.ListShapes.{WroteValues, WroteElements, WroteFields}
use Rattle.njs_gen_expr.proofs.expression.+expression.Given as goal

abbrev pub invariant-values-loop-i : goal.invariant-values-loop-i
invariant-values-loop-i l = (IsGoing l.w → IsGoing l.initial.w) × WroteValues l.i (drop l.i l.list) l.here l.initial.w l.w

abbrev pub invariant-elements-loop-i : goal.invariant-elements-loop-i
invariant-elements-loop-i l = (IsGoing l.w → IsGoing l.initial.w) × WroteElements l.i (drop l.i l.list) l.here l.initial.w l.w

abbrev pub invariant-fields-loop-i : goal.invariant-fields-loop-i
invariant-fields-loop-i l = (IsGoing l.w → IsGoing l.initial.w) × WroteFields (drop l.i l.list) l.here l.initial.w l.w
