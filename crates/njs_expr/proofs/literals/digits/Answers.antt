use Rattle.std.proofs.Common.{ap, sym, ◌∙◌}
use Rattle.std.specs.Str.{chars}
use Rattle.std.specs.Str.Parse.{digits_value_after}
use Rattle.njs_expr.proofs.StringParts.{no_front}
use Rattle.njs_expr.proofs.literals.digits.Goals as goal

pub returns-clause-value : goal.returns-clause-value
returns-clause-value c =
    sym (c.loop-c.invariant.1 ∙ ap (digits_value_after c.args.radix c.loop-c.value) (no_front (chars c.loop-c.rest.now) (sym c.first.ensures ∙ c.in_default.is)))
