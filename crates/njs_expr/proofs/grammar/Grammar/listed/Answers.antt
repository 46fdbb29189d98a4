use Rattle.std.proofs.Common.{rules, arith}
use Rattle.std.proofs.lemmas.Grind.{common_steps}
use Rattle.njs_expr.specs.Descent.{expr}
use Rattle.njs_expr.specs.Expressions.{listed}
use Rattle.njs_expr.proofs.Turns.{one_more}
use Rattle.njs_expr.proofs.grammar.Grammar.listed.Goals as goal

pub loop-turn-preserved : goal.loop-turn-preserved
unfolding listed
loop-turn-preserved g c =
    let e = one_more (λ n. listed (expr c.args.self.now.fuel) c.args.room n c.loop-turn.found c.loop-turn.below c.loop-turn.cursor) _ c.loop-turn._turn c.loop-turn-test.true c.loop-turn.invariant in
    first_of (search rules, grind (arith, common_steps))
