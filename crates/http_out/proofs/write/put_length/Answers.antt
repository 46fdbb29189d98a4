use Rattle.std.proofs.Common.{arith, ◌∙◌, sym, append-nil}
use Rattle.http_out.specs.Message.{IsLine}
use Rattle.http_out.specs.Response.{length_lines}
use Rattle.http_out.proofs.Ended.{ended_lines-none, ended_lines-one}
use Rattle.http_out.proofs.Whole.{length_lines-whole}
use Rattle.std.proofs.lemmas.List.Elements.{All-nil}
use Rattle.http_out.proofs.write.put_length.Goals as goal

pub returns-in_ok-put_number-clause-bytes : goal.returns-in_ok-put_number-clause-bytes
unfolding length_lines
returns-in_ok-put_number-clause-bytes c = c.in_ok-put_number.ensures ∙ rw (c.as_bytes.ensures.bytes, ← c.if-has_content.ensures, ended_lines-one)

pub returns-in_ok-put_number-clause-lines : goal.returns-in_ok-put_number-clause-lines
returns-in_ok-put_number-clause-lines c = length_lines-whole c.args.reply.now (rw (← c.as_bytes.ensures.bytes) (omega arith))

pub returns-else-has_content-clause-bytes : goal.returns-else-has_content-clause-bytes
unfolding length_lines
returns-else-has_content-clause-bytes c = rw (← c.if-has_content.ensures, ended_lines-none) (sym (append-nil _))

pub returns-else-has_content-clause-lines : goal.returns-else-has_content-clause-lines
unfolding length_lines
returns-else-has_content-clause-lines c = rw (← c.if-has_content.ensures) (All-nil IsLine)
