use Rattle.std.proofs.Common.{length}
use denote.Text.{Utf8}
use denote.Shadow.{shadow}
use Rattle.std.specs.Str.{chars}
use Rattle.njs_lexer.proofs.Words.{InDigits}
use Rattle.njs_lexer.proofs.numbers.past_digits.Given as goal

abbrev pub invariant-loop-digit : goal.invariant-loop-digit
invariant-loop-digit l = shadow (Utf8 l.rest) × InDigits l.radix (chars l.text) (chars l.rest) l.value

abbrev pub decreases-loop-digit : goal.decreases-loop-digit
decreases-loop-digit l = length (chars l.rest)
