use Rattle.std.proofs.Common.{◌∙◌, ap}
use Rattle.std.specs.Str.{chars}
use Rattle.njs_conn.specs.Meaning.{plain_text}
use Rattle.njs_conn.proofs.plain.without_body.Goals as goal

pub returns-clause-reply : goal.returns-clause-reply
unfolding chars
returns-clause-reply c = c.plain_text.ensures.reply ∙ ap (λ body. plain_text c.args.status body) c.fixed.ensures
