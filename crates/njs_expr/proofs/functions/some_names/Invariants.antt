use Rattle.std.proofs.Common.{◌≡◌, ◌-◌}
use Rattle.njs_expr.specs.Expressions.{some_names, names}
use Rattle.njs_expr.proofs.functions.some_names.Given as goal

abbrev pub invariant-loop-turn : goal.invariant-loop-turn
invariant-loop-turn l =
    some_names l.fn.cursor ≡ names (l._turn-end - l._turn) l.found l.cursor
