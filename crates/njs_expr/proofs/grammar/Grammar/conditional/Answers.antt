use Rattle.njs_expr.specs.Descent.{expr}
use Rattle.njs_expr.proofs.Stops.{middle_stopped, right_stopped}
use Rattle.njs_expr.proofs.grammar.Grammar.conditional.Goals as goal

pub returns-in_err-expect : goal.returns-in_err-expect
returns-in_err-expect g c =
    middle_stopped (expr c.args.self.now.fuel) _ c.args.with_in c.args.room c.saturating_sub.result c.args.line c.args.left c.in_ok-middle.middle c.args.cursor.now c.nested.new.cursor c.expect.new.self c.in_err-expect.field-0.0
    c.from_residual-in_err-expect.result (λ s h. h) c.saturating_sub.ensures c.in_ok-middle.ensures c.in_err-expect.ensures c.from_residual-in_err-expect.ensures.1

pub returns-in_err-right : goal.returns-in_err-right
returns-in_err-right g c =
    right_stopped (expr c.args.self.now.fuel) _ c.args.with_in c.args.room c.saturating_sub.result c.saturating_sub-2.result c.args.line c.args.left c.in_ok-middle.middle _ c.args.cursor.now c.nested.new.cursor c.expect.new.self c.nested-2.new.cursor
    c.in_err-right.field-0.0 c.from_residual-in_err-right.result (λ s h. h) c.saturating_sub.ensures c.in_ok-middle.ensures c.in_ok-expect.ensures c.saturating_sub-2.ensures c.in_err-right.ensures c.from_residual-in_err-right.ensures.1
