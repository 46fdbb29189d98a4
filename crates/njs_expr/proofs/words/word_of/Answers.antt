use Rattle.std.specs.Str.{chars}
use Rattle.njs_expr.proofs.Takes.{word_first}
use Rattle.njs_expr.proofs.words.word_of.Goals as goal

pub returns-in-Word : goal.returns-in-Word
returns-in-Word c = word_first (chars c.args.text.now) c.args.tokens.now _ (chars c.slice.result.now) c.in-len1-up.len_at_least c.in-Word.is c.slice.ensures
