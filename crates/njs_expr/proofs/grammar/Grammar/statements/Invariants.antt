use Rattle.std.proofs.Common.{◌≡◌, ◌-◌}
use Rattle.njs_expr.specs.Descent.{stmt}
use Rattle.njs_expr.specs.Expressions.{whole_statements, statements}
use Rattle.njs_expr.proofs.grammar.Grammar.statements.Given as goal

abbrev pub invariant-loop-turn : goal.invariant-loop-turn
invariant-loop-turn g l =
    whole_statements (stmt l.self.fuel) l.declares l.room l.fn.cursor ≡ statements (stmt l.self.fuel) l.declares l.room (l._turn-end - l._turn) l.found l.below l.cursor
