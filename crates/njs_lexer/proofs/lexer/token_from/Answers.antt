use Rattle.std.proofs.Common.{sym}
use Rattle.std.specs.Str.{chars}
use Rattle.njs_lexer.proofs.Cutting.{cut_word}
use Rattle.njs_lexer.proofs.lexer.token_from.Goals as goal

pub returns-then-is_letter-clause-token : goal.returns-then-is_letter-clause-token
returns-then-is_letter-clause-token c = cut_word (chars c.args.text.now) (chars c.past_run.result.now) c.args.c c.requires.blank c.requires.first (sym c.if-is_letter.ensures) c.past_run.ensures
