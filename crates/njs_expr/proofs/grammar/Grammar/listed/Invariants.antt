use Rattle.std.proofs.Common.{◌≡◌, ◌-◌}
use Rattle.njs_expr.specs.Descent.{expr}
use Rattle.njs_expr.specs.Expressions.{some_listed, listed}
use Rattle.njs_expr.proofs.grammar.Grammar.listed.Given as goal

abbrev pub invariant-loop-turn : goal.invariant-loop-turn
invariant-loop-turn g l =
    some_listed (expr l.self.fuel) l.room l.fn.cursor ≡ listed (expr l.self.fuel) l.room (l._turn-end - l._turn) l.found l.below l.cursor
