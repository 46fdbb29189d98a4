use Rattle.std.proofs.Common.{ap, ◌∙◌}
use Rattle.std.specs.Str.{chars}
use Rattle.njs_lexer.proofs.Texts.{past_first}
use Rattle.njs_stmt.proofs.lines.behind.Goals as goal

pub returns : goal.returns
returns c = ap chars c.as_str.ensures ∙ past_first c.args.text.now c.chars-rest.result c.next.new.self c.next.result c.utf8.text c.chars-rest.ensures.rest c.next.ensures.steps
