use Rattle.std.proofs.Common.{◌≡◌, ◌-◌}
use Rattle.njs_expr.specs.Descent.{expr}
use Rattle.njs_expr.specs.Expressions.{whole_elements, elements}
use Rattle.njs_expr.proofs.grammar.Grammar.elements.Given as goal

abbrev pub invariant-loop-turn : goal.invariant-loop-turn
invariant-loop-turn g l =
    whole_elements (expr l.self.fuel) l.room l.fn.cursor ≡ elements (expr l.self.fuel) l.room (l._turn-end - l._turn) l.found l.below l.cursor
