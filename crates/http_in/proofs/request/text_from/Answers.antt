use Rattle.std.proofs.Common.{◌∙◌, sym, ap}
use Rattle.std.proofs.lemmas.Str.{chars-encodes}
use Rattle.std.specs.Str.{chars}
use Rattle.http_in.proofs.request.text_from.Goals as goal

pub returns-in-Ok : goal.returns-in-Ok
returns-in-Ok c = sym (chars-encodes c.in-Ok.text c.in-Ok.ensures.0.scalars) ∙ ap chars c.in-Ok.ensures.0.spelled
