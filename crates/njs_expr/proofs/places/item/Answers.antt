use Rattle.njs_expr.proofs.Answered.{item_found_at, item_stopped}
use Rattle.njs_expr.proofs.places.item.Goals as goal

pub overflow_sub-result : goal.overflow_sub-result
overflow_sub-result c =
    (item_found_at c.args.text.now c.args.tokens.now c.args.at c.left.result c.in-Ok.tree c.in-Ok.field-0-1 c.from_place-cursor.result c.whole_item.new.cursor c.requires.place
    c.from_place-cursor.ensures c.in-Ok.ensures c.left.ensures.left).1

pub returns-in-Ok : goal.returns-in-Ok
returns-in-Ok c =
    (item_found_at c.args.text.now c.args.tokens.now c.args.at c.left.result c.in-Ok.tree c.in-Ok.field-0-1 c.from_place-cursor.result c.whole_item.new.cursor c.requires.place
    c.from_place-cursor.ensures c.in-Ok.ensures c.left.ensures.left).0

pub returns-in-Err : goal.returns-in-Err
returns-in-Err c =
    item_stopped c.args.text.now c.args.tokens.now c.args.at c.from_place-cursor.result c.in-Err.stop c.stopped.result c.from_place-cursor.ensures c.requires.tokens c.in-Err.ensures c.stopped.ensures
