use Rattle.std.proofs.Common.{take}
use Rattle.std.specs.Prelude.{All}
use Rattle.http_out.specs.Reply.{IsField}
use Rattle.http_out.proofs.reply.are_fields.Given as goal

abbrev pub invariant-loop-name : goal.invariant-loop-name
invariant-loop-name l = All IsField (take l.name-index l.fields)
