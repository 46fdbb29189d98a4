use Rattle.njs_expr.proofs.Takes.{key_read, key_stop}
use Rattle.njs_expr.proofs.cursor.Cursor.number_key.Goals as goal

pub returns-in-Ok : goal.returns-in-Ok
returns-in-Ok c = key_read c.args.self.now c.number.new.self c.in-Ok.number c.decimal.result c.in-Ok.ensures.number c.decimal.ensures

pub returns-in-Err : goal.returns-in-Err
returns-in-Err c = key_stop c.args.self.now c.in-Err.stop c.requires c.in-Err.ensures.number
