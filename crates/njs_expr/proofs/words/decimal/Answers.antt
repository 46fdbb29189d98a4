use Rattle.std.proofs.Common.{◌∙◌}
use Rattle.njs_expr.proofs.Takes.{decimal_read}
use Rattle.njs_expr.proofs.words.decimal.Goals as goal

pub returns-in-Ok : goal.returns-in-Ok
returns-in-Ok c = decimal_read c.args.number c.as_str.result.now c.text_of.result c.ranges.number.fits (c.as_str.ensures.value ∙ c.in-Ok.ensures.ok) c.text_of.ensures
