use Rattle.std.proofs.Common.{sym, subst}
use Rattle.std.specs.Str.{chars}
use Rattle.njs_request.specs.Response.{IsHead}
use Rattle.njs_request.proofs.Heads.{plain_is_head, plain_parts}
use Rattle.njs_request.proofs.record.Head.plain.Goals as goal

pub invariant_of-result : goal.invariant_of-result
unfolding chars
invariant_of-result c =
    subst IsHead (sym (plain_parts c.args.status c.fixed.result c.new.result c.fixed.ensures c.new.ensures)) (plain_is_head c.args.status c.requires.low c.requires.high)

pub returns : goal.returns
unfolding chars
returns c = plain_parts c.args.status c.fixed.result c.new.result c.fixed.ensures c.new.ensures
