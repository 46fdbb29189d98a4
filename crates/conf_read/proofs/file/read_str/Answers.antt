use Rattle.std.proofs.Common.{◌∙◌, subst}
use Rattle.conf_read.specs.Walk.{TextRead}
use Rattle.conf_read.proofs.file.read_str.Goals as goal

pub returns-clause-read : goal.returns-clause-read
returns-clause-read c = subst (λ text. TextRead text c.read_text.result) (c.deref.ensures.value ∙ c.in_ok-list.ensures.items) c.read_text.ensures
