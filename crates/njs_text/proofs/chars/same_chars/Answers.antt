use Rattle.std.proofs.Common.{◌∙◌}
use Rattle.njs_text.proofs.Encoded.{bytes_eq-chars}
use Rattle.njs_text.proofs.chars.same_chars.Goals as goal

pub returns : goal.returns
returns c = c.eq.ensures ∙ bytes_eq-chars c.args.a.now c.args.b.now c.utf8.a c.utf8.b
