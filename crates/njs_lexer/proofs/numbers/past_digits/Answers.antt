use Rattle.std.proofs.Common.{◌+◌, ◌*◌, min, sym, ap, ◌∙◌, arith}
use Rattle.std.specs.Str.{chars}
use Rattle.njs_lexer.proofs.Words.{cap, digits_more}
use Rattle.njs_lexer.proofs.numbers.past_digits.Goals as goal

pub loop-digit-preserved : goal.loop-digit-preserved
loop-digit-preserved c =
    let v = c.min-value.ensures ∙ ap (λ z. min (c.loop-digit.value * z + c.from-in-Some.result) cap) c.from.ensures ∙ ap (λ z. min (c.loop-digit.value * c.args.radix + z) cap) c.from-in-Some.ensures in (
      c.behind-rest.utf8,
      digits_more c.args.radix (chars c.args.text.now) (chars c.loop-digit.rest.now) (chars c.behind-rest.result.now) c.loop-digit.value c.in-Some.digit c.min-value.result (omega (arith, c.requires.lower)) c.loop-digit.invariant.1
          (sym c.in-Some.ensures.value) c.behind-rest.ensures v,
    )
