use Rattle.std.proofs.Common.{◌≡◌, ◌≤◌, length}
use denote.Text.{Utf8}
use denote.Shadow.{shadow}
use Rattle.std.specs.Str.{chars}
use Rattle.std.specs.Str.Parse.{digits_value, digits_value_after}
use Rattle.njs_tree.specs.Lexical.{max_number}
use Rattle.njs_expr.proofs.literals.digits.Given as goal

abbrev pub invariant-loop-c : goal.invariant-loop-c
invariant-loop-c l = shadow (Utf8 l.rest) × (digits_value l.radix (chars l.text) ≡ digits_value_after l.radix l.value (chars l.rest)) × (l.value ≤ max_number)

abbrev pub decreases-loop-c : goal.decreases-loop-c
decreases-loop-c l = length (chars l.rest)
