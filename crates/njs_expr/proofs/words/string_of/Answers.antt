use Rattle.std.specs.Str.{chars}
use Rattle.njs_expr.proofs.Takes.{no_string_first}
use Rattle.njs_expr.proofs.words.string_of.Goals as goal

pub returns-in_default : goal.returns-in_default
returns-in_default c = no_string_first (chars c.args.text.now) c.args.tokens.now _ c.in-len1-up.len_at_least c.in_default.not-Str
