use Rattle.std.proofs.Common.{◌≡◌, ◌-◌}
use Rattle.njs_expr.specs.Descent.{expr}
use Rattle.njs_expr.specs.Statements.{whole_declarators, declarators}
use Rattle.njs_expr.proofs.grammar.Grammar.declarators.Given as goal

abbrev pub invariant-loop-turn : goal.invariant-loop-turn
invariant-loop-turn g l =
    whole_declarators (expr l.self.fuel) l.with_in l.room l.fn.cursor ≡ declarators (expr l.self.fuel) l.with_in l.room (l._turn-end - l._turn) l.found l.below l.cursor
