use Rattle.std.proofs.Common.{◌∙◌, append_assoc}
use Rattle.http_out.specs.Message.{message}
use Rattle.http_out.specs.Response.{head_lines, response_bytes}
use Rattle.http_out.proofs.Ended.{ended_lines-one, ended_lines-append}
use Rattle.http_out.proofs.Whole.{head_lines-whole}
use Rattle.http_out.proofs.write.response.Goals as goal

pub returns-clause-bytes : goal.returns-clause-bytes
unfolding response_bytes message head_lines
returns-clause-bytes c =
    c.in_ok-put_content.ensures ∙
    rw (c.in_ok-put_line_end.ensures, c.in_ok-put_connection.ensures, c.in_ok-put_length.ensures.bytes, c.in_ok-put_further.ensures, c.in_ok-put_type.ensures, c.in_ok-put_status_line.ensures.bytes, c.new-bytes.ensures.items, c.as_slice.ensures)
    (simp (ended_lines-append, ended_lines-one, append_assoc))

pub returns-clause-reading : goal.returns-clause-reading
unfolding response_bytes
returns-clause-reading c = record {
  lines_whole = head_lines-whole c.args.reply.now c.args.keep c.requires c.in_ok-put_status_line.ensures.line c.in_ok-put_length.ensures.lines;
  spelled = returns-clause-bytes c;
}
