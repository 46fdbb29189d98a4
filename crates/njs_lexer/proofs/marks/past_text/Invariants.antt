use Rattle.std.proofs.Common.{◌≡◌, drop}
use denote.Text.{Utf8}
use denote.Shadow.{shadow}
use Rattle.std.specs.Str.{chars}
use Rattle.njs_lexer.specs.Steps.{begins_text}
use Rattle.njs_lexer.proofs.marks.past_text.Given as goal

abbrev pub invariant-loop-c : goal.invariant-loop-c
invariant-loop-c l = shadow (Utf8 l.rest) × (chars l.rest ≡ drop l.c-index (chars l.text)) × (begins_text l.expected (chars l.text) ≡ begins_text (drop l.c-index l.expected) (chars l.rest))
