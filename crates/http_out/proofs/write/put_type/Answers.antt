use Rattle.std.proofs.Common.{◌∙◌, sym, append-nil}
use Rattle.http_out.specs.Response.{type_lines}
use Rattle.http_out.proofs.Ended.{ended_lines-none, ended_lines-one}
use Rattle.http_out.proofs.write.put_type.Goals as goal

pub returns-in_ok-put_field : goal.returns-in_ok-put_field
unfolding type_lines
returns-in_ok-put_field c = c.in_ok-put_field.ensures ∙ rw (c.as_str.ensures, ← c.if-has_content.ensures, ended_lines-one)

pub returns-else-has_content : goal.returns-else-has_content
unfolding type_lines
returns-else-has_content c = rw (← c.if-has_content.ensures, ended_lines-none) (sym (append-nil _))
