use Rattle.std.proofs.Common.{◌≡◌, ◌-◌}
use Rattle.njs_expr.specs.Descent.{expr}
use Rattle.njs_expr.specs.Expressions.{whole_chain, chain}
use Rattle.njs_expr.proofs.grammar.Grammar.chain.Given as goal

abbrev pub invariant-loop-turn : goal.invariant-loop-turn
invariant-loop-turn g l =
    whole_chain (expr l.self.fuel) l.with_calls l.room l.line l.fn.object l.fn.cursor ≡ chain (expr l.self.fuel) l.with_calls l.room l.line (l._turn-end - l._turn) l.object l.cursor
