use Rattle.std.proofs.Common.{sym}
use Rattle.std.specs.Str.{chars}
use Rattle.std.proofs.lemmas.Option.{IfSome_then}
use Rattle.njs_lexer.proofs.Runs.{number_same}
use Rattle.njs_lexer.proofs.Blocks.{comment_blank}
use Rattle.njs_lexer.proofs.blanks.past_blank.Goals as goal

pub returns-then-c-eq47-clause-passed : goal.returns-then-c-eq47-clause-passed
returns-then-c-eq47-clause-passed c =
    IfSome_then c.past_comment.result c.past_comment.ensures.passed (λ past h.
    comment_blank (chars c.args.text.now) (chars c.behind-rest.result.now) (chars past.rest.now) c.in_ok-c.c h.0 past.lines (sym c.in_ok-c.ensures) c.behind-rest.ensures (number_same c.in_ok-c.c 47 c.if-c-eq47.true) h.1 h.2)
