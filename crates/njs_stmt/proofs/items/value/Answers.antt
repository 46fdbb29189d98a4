use Rattle.std.proofs.Common.{sym}
use Rattle.njs_stmt.proofs.Reading.{line_answered, value_goes_on, value_open, value_stopped}
use Rattle.njs_stmt.proofs.items.value.Goals as goal

pub returns-in-Err : goal.returns-in-Err
returns-in-Err c = value_stopped c.args.text.now c.args.tokens.now c.args.at c.in-Err.stop c.in-Err.ensures

pub returns-then-is_comma_at : goal.returns-then-is_comma_at
returns-then-is_comma_at c =
    (line_answered c.args.text.now c.args.tokens.now c.in-Ok.found.1 c.line_at.result c.requires.fit.0 c.line_at.ensures, value_goes_on c.args.text.now c.args.tokens.now c.args.at c.in-Ok.found.1 c.in-Ok.found.0 c.in-Ok.ensures (sym (c.if-is_comma_at.ensures c.args.text.now)))

pub returns-in-None : goal.returns-in-None
returns-in-None c =
    (line_answered c.args.text.now c.args.tokens.now c.in-Ok.found.1 c.line_at-in-None.result c.requires.fit.0 c.line_at-in-None.ensures, value_open c.args.text.now c.args.tokens.now c.args.at c.in-Ok.found.1 c.in-Ok.found.0 c.in-Ok.ensures (c.in-None.ensures c.args.text.now))
