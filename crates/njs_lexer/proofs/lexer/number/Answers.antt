use Rattle.std.specs.Str.{chars}
use Rattle.njs_lexer.proofs.Cutting.{cut_number}
use Rattle.njs_lexer.proofs.lexer.number.Goals as goal

pub returns-in-Ok-clause-token : goal.returns-in-Ok-clause-token
returns-in-Ok-clause-token c = cut_number (chars c.args.text.now) (chars c.in-Ok.rest.now) c.args.c c.requires.blank c.requires.first c.requires.digit c.in-Ok.ensures.passed
