use Rattle.std.proofs.Common.{◌≡◌, ◌-◌}
use Rattle.njs_expr.specs.Descent.{expr}
use Rattle.njs_expr.specs.Expressions.{whole_climb, climb}
use Rattle.njs_expr.proofs.grammar.Grammar.climb.Given as goal

abbrev pub invariant-loop-turn : goal.invariant-loop-turn
invariant-loop-turn g l =
    whole_climb (expr l.self.fuel) l.with_in l.least l.room l.line l.fn.left l.fn.cursor ≡ climb (expr l.self.fuel) l.with_in l.least l.room l.line (l._turn-end - l._turn) l.left l.cursor
