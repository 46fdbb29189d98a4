use Rattle.std.proofs.Common.{ap, ◌∙◌, arith}
use Rattle.std.specs.Str.{chars}
use Rattle.njs_text.proofs.Places.{narrow_boundary, chars-narrow}
use Rattle.njs_text.proofs.chars.rest_of.Goals as goal

pub range_from-requires : goal.range_from-requires
range_from-requires c = λ _. narrow_boundary c.args.text.now c.utf8.text c.args.place (c.if-text-count.true ∙ c.requires.count) (omega arith)

pub returns-then-text-count : goal.returns-then-text-count
returns-then-text-count c =
    ap chars c.range_from.ensures.value
    ∙ chars-narrow c.args.text.now c.utf8.text c.args.place (c.if-text-count.true ∙ c.requires.count) (omega arith)
