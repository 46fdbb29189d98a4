use Rattle.std.proofs.Common.{◌≡◌, drop}
use Rattle.conf_read.specs.Meaning.{content_in}
use Rattle.conf_read.specs.Walk.{listed}
use Rattle.conf_read.proofs.build.content_in.Given as goal

-- the rest decides
abbrev pub invariant-loop-piece : goal.invariant-loop-piece
invariant-loop-piece l = content_in (listed l.pieces) ≡ content_in (listed (drop l.piece-index l.pieces))
