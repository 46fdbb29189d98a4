use Rattle.std.proofs.Common.{length}
use denote.Text.{Utf8}
use denote.Shadow.{shadow}
use Rattle.std.specs.Str.{chars}
use Rattle.njs_lexer.proofs.Blocks.{Passed, InBlock}
use Rattle.njs_lexer.proofs.blanks.past_block.Given as goal

abbrev pub invariant-loop-c : goal.invariant-loop-c
invariant-loop-c l = shadow (Utf8 l.rest) × Passed (chars l.text) (chars l.rest) l.lines × InBlock (chars l.text) (chars l.rest)

abbrev pub decreases-loop-c : goal.decreases-loop-c
decreases-loop-c l = length (chars l.rest)
