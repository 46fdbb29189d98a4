use Rattle.std.proofs.Common.{◌∙◌}
use Rattle.njs_stmt.proofs.Lookups.{spelled_between}
use Rattle.njs_stmt.proofs.lookup.is_spelled.Goals as goal

pub returns : goal.returns
returns c =
    c.eq.ensures ∙ spelled_between c.args.text.now c.as_str.result.now c.range.result.now c.args.spelling.now c.args.token.from c.args.token.to c.range.utf8 c.requires.ascii c.as_str.ensures c.range.ensures.value
