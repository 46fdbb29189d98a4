use Rattle.std.proofs.Common.{rules, append_assoc}
use Rattle.http_out.specs.Message.{ended}
use Rattle.http_out.specs.Response.{field_line}
use Rattle.http_out.proofs.lines.put_field.Goals as goal

pub returns : goal.returns
unfolding ended field_line
returns c = search (rules, append_assoc)
