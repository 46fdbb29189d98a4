use Rattle.std.proofs.Common.{sym, subst}
use Rattle.std.specs.Str.{chars}
use Rattle.njs_lexer.specs.Steps.{ReadsDigits}
use Rattle.njs_lexer.proofs.LongestNumber.{longest_hex}
use Rattle.njs_lexer.proofs.numbers.past_zero.Goals as goal

pub returns-then-is_hex_start-clause-rest : goal.returns-then-is_hex_start-clause-rest
returns-then-is_hex_start-clause-rest c =
    (longest_hex (chars c.args.text.now) (chars c.behind-after.result.now) (chars c.past_digits.result.rest.now) c.past_digits.result.value c.requires c.behind-after.ensures (sym c.if-is_hex_start.ensures)
    (subst (λ z. ReadsDigits 16 z (chars c.past_digits.result.rest.now) c.past_digits.result.value) c.behind.ensures c.past_digits.ensures.read)).0

pub returns-then-is_hex_start-clause-value : goal.returns-then-is_hex_start-clause-value
returns-then-is_hex_start-clause-value c =
    (longest_hex (chars c.args.text.now) (chars c.behind-after.result.now) (chars c.past_digits.result.rest.now) c.past_digits.result.value c.requires c.behind-after.ensures (sym c.if-is_hex_start.ensures)
    (subst (λ z. ReadsDigits 16 z (chars c.past_digits.result.rest.now) c.past_digits.result.value) c.behind.ensures c.past_digits.ensures.read)).1
