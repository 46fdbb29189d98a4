use Rattle.std.proofs.Common.{ap, ◌∙◌}
use Rattle.std.specs.Str.{chars}
use Rattle.njs_expr.proofs.Slices.{placed, same_between}
use Rattle.njs_expr.proofs.words.slice.Goals as goal

pub range-requires-clause-start_le_end : goal.range-requires-clause-start_le_end
range-requires-clause-start_le_end c = (placed c.args.text.now c.utf8.text c.args.token.now c.requires).0

pub range-requires-clause-start_boundary : goal.range-requires-clause-start_boundary
range-requires-clause-start_boundary c = λ _. (placed c.args.text.now c.utf8.text c.args.token.now c.requires).1

pub range-requires-clause-end_boundary : goal.range-requires-clause-end_boundary
range-requires-clause-end_boundary c = (placed c.args.text.now c.utf8.text c.args.token.now c.requires).2

pub returns : goal.returns
returns c = ap chars c.range.ensures.value ∙ same_between c.args.text.now c.utf8.text c.args.token.now.from c.args.token.now.to
