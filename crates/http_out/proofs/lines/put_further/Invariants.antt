use Rattle.std.proofs.Common.{◌≡◌, ◌++◌, take, map}
use Rattle.http_out.specs.Message.{ended_lines}
use Rattle.http_out.specs.Response.{further_line}
use Rattle.http_out.proofs.lines.put_further.Given as goal

abbrev pub invariant-loop-name : goal.invariant-loop-name
invariant-loop-name l = l.bytes.items ≡ l.initial.bytes.items ++ ended_lines (map further_line (take l.name-index l.fields))
