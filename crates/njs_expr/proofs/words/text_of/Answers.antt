use Rattle.std.proofs.Common.{ap, ◌∙◌}
use Rattle.std.specs.Str.{chars}
use Rattle.njs_expr.proofs.Takes.{encoded}
use Rattle.njs_expr.proofs.words.text_of.Goals as goal

pub returns-in-Ok : goal.returns-in-Ok
returns-in-Ok c = encoded c.in-Ok.text c.as_bytes.result.now c.in-Ok.ensures.0 ∙ ap chars c.as_bytes.ensures.value
