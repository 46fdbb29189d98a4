use Rattle.std.proofs.Common.{length}
use denote.Text.{Utf8}
use denote.Shadow.{shadow}
use Rattle.std.specs.Str.{chars}
use Rattle.njs_lexer.proofs.Blocks.{InBlanks}
use Rattle.njs_lexer.proofs.blanks.past_blanks.Given as goal

abbrev pub invariant-loop-past : goal.invariant-loop-past
invariant-loop-past l = shadow (Utf8 l.rest) × InBlanks (chars l.text) (chars l.rest) l.lines

abbrev pub decreases-loop-past : goal.decreases-loop-past
decreases-loop-past l = length (chars l.rest)
