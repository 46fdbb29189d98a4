use Rattle.std.proofs.Common.{sym}
use Rattle.std.specs.Str.{chars}
use Rattle.njs_lexer.proofs.LongestNumber.{longest_decimal}
use Rattle.njs_lexer.proofs.numbers.longest.Goals as goal

pub returns-else-begins_with-clause-value : goal.returns-else-begins_with-clause-value
returns-else-begins_with-clause-value c =
    (longest_decimal (chars c.args.text.now) (chars c.past_digits.result.rest.now) c.past_digits.result.value c.requires (sym c.if-begins_with.ensures) c.past_digits.ensures.read).1
