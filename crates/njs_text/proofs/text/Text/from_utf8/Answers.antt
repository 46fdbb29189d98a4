use Rattle.std.proofs.Common.{subst}
use Rattle.njs_text.specs.Text.{TextFrom}
use Rattle.njs_text.proofs.text.Text.from_utf8.Goals as goal

pub returns-in-Ok : goal.returns-in-Ok
returns-in-Ok c = subst (λ bytes. TextFrom bytes c.of_str.result) c.in-Ok.ensures.cases.0 c.of_str.ensures
