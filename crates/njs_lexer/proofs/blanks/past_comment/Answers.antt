use Rattle.std.proofs.Common.{sym}
use Rattle.std.specs.Str.{chars}
use Rattle.std.proofs.lemmas.Option.{IfSome_then}
use Rattle.njs_lexer.proofs.Blocks.{line_comment, block_comment}
use Rattle.njs_lexer.proofs.blanks.past_comment.Goals as goal

pub returns-then-begins_with-clause-passed : goal.returns-then-begins_with-clause-passed
returns-then-begins_with-clause-passed c =
    line_comment (chars c.args.text.now) (chars c.behind-after.result.now) (chars c.past_run-rest.result.now) (sym c.if-begins_with.ensures) c.behind-after.ensures c.past_run-rest.ensures

pub returns-then-begins_with-2-clause-passed : goal.returns-then-begins_with-2-clause-passed
returns-then-begins_with-2-clause-passed c =
    IfSome_then c.past_block.result c.past_block.ensures.closed (λ past h.
    block_comment (chars c.args.text.now) (chars c.behind-after.result.now) (chars past.rest.now) h.0 past.lines (sym c.if-begins_with.ensures) (sym c.if-begins_with-2.ensures) c.behind-after.ensures h.1 h.2)
