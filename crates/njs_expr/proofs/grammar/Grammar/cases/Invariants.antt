use Rattle.std.proofs.Common.{◌≡◌, ◌-◌}
use Rattle.njs_expr.specs.Descent.{expr, stmt}
use Rattle.njs_expr.specs.Statements.{whole_cases, cases}
use Rattle.njs_expr.proofs.grammar.Grammar.cases.Given as goal

abbrev pub invariant-loop-turn : goal.invariant-loop-turn
invariant-loop-turn g l =
    whole_cases (expr l.self.fuel) (stmt l.self.fuel) l.room l.fn.cursor
    ≡ cases (expr l.self.fuel) (stmt l.self.fuel) l.room (l._turn-end - l._turn) l.has_default l.found l.below l.cursor
