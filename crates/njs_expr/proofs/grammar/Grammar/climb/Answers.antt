use Rattle.std.proofs.Common.{rules, arith}
use Rattle.std.proofs.lemmas.Grind.{common_steps}
use Rattle.njs_expr.specs.Descent.{expr}
use Rattle.njs_expr.specs.Expressions.{climb}
use Rattle.njs_expr.proofs.Turns.{one_more}
use Rattle.njs_expr.proofs.grammar.Grammar.climb.Goals as goal

pub returns-then-binds-least : goal.returns-then-binds-least
unfolding climb
returns-then-binds-least g c =
    let e = one_more (λ n. climb (expr c.args.self.now.fuel) c.args.with_in c.args.least c.args.room c.args.line n c.loop-turn.left c.loop-turn.cursor) _ c.loop-turn._turn c.loop-turn-test.true c.loop-turn.invariant in
    first_of (search rules, grind (arith, common_steps))

pub returns-in_err-left : goal.returns-in_err-left
unfolding climb
returns-in_err-left g c =
    let e = one_more (λ n. climb (expr c.args.self.now.fuel) c.args.with_in c.args.least c.args.room c.args.line n c.loop-turn.left c.loop-turn.cursor) _ c.loop-turn._turn c.loop-turn-test.true c.loop-turn.invariant in
    first_of (search rules, grind (arith, common_steps))

pub loop-turn-preserved : goal.loop-turn-preserved
unfolding climb
loop-turn-preserved g c =
    let e = one_more (λ n. climb (expr c.args.self.now.fuel) c.args.with_in c.args.least c.args.room c.args.line n c.loop-turn.left c.loop-turn.cursor) _ c.loop-turn._turn c.loop-turn-test.true c.loop-turn.invariant in
    first_of (search rules, grind (arith, common_steps))
