use Rattle.njs_expr.proofs.Answered.{line_left}
use Rattle.njs_expr.proofs.places.line_before.Goals as goal

pub returns-in-len1-up : goal.returns-in-len1-up
returns-in-len1-up c = λ text h. line_left text c.args.tokens.now c.rest_of.result.now _ c.saturating_sub.result h c.rest_of.ensures c.in-len1-up.len_at_least
