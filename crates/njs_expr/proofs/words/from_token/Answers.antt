use Rattle.std.proofs.Common.{rules, ap, ◌∙◌}
use Rattle.std.specs.Str.{chars}
use Rattle.njs_expr.proofs.Slices.{placed, same_from}
use Rattle.njs_expr.proofs.words.from_token.Goals as goal

pub range_from-requires : goal.range_from-requires
range_from-requires c = let h = (placed c.args.text.now c.utf8.text c.args.token.now c.requires).1 in search rules

pub returns : goal.returns
returns c = ap chars c.range_from.ensures.value ∙ same_from c.args.text.now c.utf8.text c.args.token.now.from
