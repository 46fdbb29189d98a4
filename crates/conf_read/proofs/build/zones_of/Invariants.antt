use Rattle.std.proofs.Common.{◌≡◌, ◌++◌, drop}
use Rattle.conf_read.specs.Meaning.{zones_in}
use Rattle.conf_read.specs.Walk.{listed}
use Rattle.conf_read.proofs.build.zones_of.Given as goal

-- those so far, and those of the rest
abbrev pub invariant-loop-piece : goal.invariant-loop-piece
invariant-loop-piece l = l.zones ++ zones_in (listed (drop l.piece-index l.pieces)) ≡ zones_in (listed l.pieces)
