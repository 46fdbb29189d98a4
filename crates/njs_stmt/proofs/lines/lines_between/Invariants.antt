use Rattle.std.proofs.Common.{◌≡◌, ◌+◌, length}
use denote.Text.{Utf8}
use denote.Shadow.{shadow}
use Rattle.std.specs.Str.{chars}
use Rattle.njs_tree.specs.Characters.{line_ends}
use Rattle.njs_stmt.specs.Cut.{IsRest}
use Rattle.njs_stmt.proofs.lines.lines_between.Given as goal

-- the lines so far are those before what is left
abbrev pub invariant-loop-here : goal.invariant-loop-here
invariant-loop-here l = shadow (Utf8 l.here) × IsRest (chars l.here) (chars l.rest) × (l.lines + line_ends (chars l.here) ≡ line_ends (chars l.text))

abbrev pub decreases-loop-here : goal.decreases-loop-here
decreases-loop-here l = length (chars l.here)
