use Rattle.std.proofs.Common.{◌≡◌, drop}
use Rattle.conf_read.specs.Meaning.{words_of}
use Rattle.conf_read.specs.Walk.{listed}
use Rattle.conf_read.proofs.build.words_of.Given as goal

-- the rest decides
abbrev pub invariant-loop-piece : goal.invariant-loop-piece
invariant-loop-piece l = words_of l.name (listed l.pieces) ≡ words_of l.name (listed (drop l.piece-index l.pieces))
