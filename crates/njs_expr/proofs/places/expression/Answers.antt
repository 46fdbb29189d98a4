use Rattle.njs_expr.proofs.Answered.{expression_found_at, expression_stopped}
use Rattle.njs_expr.proofs.places.expression.Goals as goal

pub overflow_sub-result : goal.overflow_sub-result
overflow_sub-result c =
    (expression_found_at c.args.with_in c.args.with_comma c.args.text.now c.args.tokens.now c.args.at c.left.result c.in-Ok.tree c.in-Ok.field-0-1 c.from_place-cursor.result c.whole_expression.new.cursor c.requires.place
    c.from_place-cursor.ensures c.in-Ok.ensures c.left.ensures.left).1

pub returns-in-Ok : goal.returns-in-Ok
returns-in-Ok c =
    (expression_found_at c.args.with_in c.args.with_comma c.args.text.now c.args.tokens.now c.args.at c.left.result c.in-Ok.tree c.in-Ok.field-0-1 c.from_place-cursor.result c.whole_expression.new.cursor c.requires.place
    c.from_place-cursor.ensures c.in-Ok.ensures c.left.ensures.left).0

pub returns-in-Err : goal.returns-in-Err
returns-in-Err c =
    expression_stopped c.args.with_in c.args.with_comma c.args.text.now c.args.tokens.now c.args.at c.from_place-cursor.result c.in-Err.stop c.stopped.result c.from_place-cursor.ensures c.requires.tokens c.in-Err.ensures c.stopped.ensures
