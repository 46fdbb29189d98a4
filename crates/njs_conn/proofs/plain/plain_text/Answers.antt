use Rattle.std.proofs.Common.{refl, subst, sym}
use Rattle.std.specs.Str.{chars}
use Rattle.http_out.specs.Reply.{IsReply}
use Rattle.njs_conn.proofs.Replies.{sendable}
use Rattle.njs_conn.proofs.plain.plain_text.Goals as goal

pub returns-clause-reply : goal.returns-clause-reply
unfolding chars
returns-clause-reply c = rw (c.fixed.ensures, c.new.ensures) refl

pub returns-clause-valid : goal.returns-clause-valid
unfolding chars
returns-clause-valid c = rw (c.fixed.ensures, c.new.ensures) (sendable c.args.status c.args.body c.requires.low c.requires.high)
