use Rattle.std.proofs.Common.{◌≡◌, ◌++◌, drop}
use Rattle.conf_read.specs.Meaning.{imports_in}
use Rattle.conf_read.specs.Walk.{listed}
use Rattle.conf_read.proofs.build.imports_of.Given as goal

-- those so far, and those of the rest
abbrev pub invariant-loop-piece : goal.invariant-loop-piece
invariant-loop-piece l = l.imports ++ imports_in (listed (drop l.piece-index l.pieces)) ≡ imports_in (listed l.pieces)
