use Rattle.std.proofs.Common.{◌≡◌, ◌≤◌, length}
use denote.Text.{Utf8}
use denote.Shadow.{shadow}
use Rattle.std.specs.Str.{chars}
use Rattle.njs_meaning.specs.Numbers.{max_safe, numeral}
use Rattle.njs_meaning.proofs.Digits.{spelled_from}
use Rattle.njs_meaning.proofs.literal.numeral.Given as goal

-- the rest, after the number so far, spells what the whole does
abbrev pub invariant-loop-first : goal.invariant-loop-first
invariant-loop-first l =
    shadow (Utf8 l.rest) × (spelled_from l.radix l.number (chars l.rest) ≡ numeral l.radix (chars l.digits)) × (l.number ≤ max_safe)

abbrev pub decreases-loop-first : goal.decreases-loop-first
decreases-loop-first l = length (chars l.rest)
