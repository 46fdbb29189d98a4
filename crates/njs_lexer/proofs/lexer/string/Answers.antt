use Rattle.std.specs.Str.{chars}
use Rattle.njs_lexer.proofs.Cutting.{cut_string}
use Rattle.njs_lexer.proofs.lexer.string.Goals as goal

pub returns-in-Ok-clause-token : goal.returns-in-Ok-clause-token
returns-in-Ok-clause-token c =
    cut_string (chars c.args.text.now) (chars c.behind.result.now) (chars c.in-Ok.rest.now) c.args.c c.requires.blank c.requires.first c.requires.quote c.behind.ensures c.in-Ok.ensures.passed
