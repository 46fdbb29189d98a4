use Rattle.std.proofs.Common.{rules, arith}
use Rattle.std.proofs.lemmas.Grind.{common_steps}
use Rattle.njs_expr.specs.Descent.{expr}
use Rattle.njs_expr.specs.Expressions.{chain}
use Rattle.njs_expr.proofs.Turns.{one_more}
use Rattle.njs_expr.proofs.grammar.Grammar.chain.Goals as goal

pub loop-turn-preserved : goal.loop-turn-preserved
unfolding chain
loop-turn-preserved g c =
    let e = one_more (λ n. chain (expr c.args.self.now.fuel) c.args.with_calls c.args.room c.args.line n c.loop-turn.object c.loop-turn.cursor) _ c.loop-turn._turn c.loop-turn-test.true c.loop-turn.invariant in
    first_of (search rules, grind (arith, common_steps))
