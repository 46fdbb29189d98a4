use Rattle.njs_expr.specs.Descent.{expr}
use Rattle.njs_expr.proofs.Stops.{index_stopped}
use Rattle.njs_expr.proofs.grammar.Grammar.index.Goals as goal

pub returns-in_err-expect : goal.returns-in_err-expect
returns-in_err-expect g c =
    index_stopped (expr c.args.self.now.fuel) _ c.args.room c.saturating_sub.result c.args.line c.args.object c.in_ok-place.place c.args.cursor.now c.nested.new.cursor c.expect.new.self c.in_err-expect.field-0.0
    c.from_residual-in_err-expect.result (λ s h. h) c.saturating_sub.ensures c.in_ok-place.ensures c.in_err-expect.ensures c.from_residual-in_err-expect.ensures.1
