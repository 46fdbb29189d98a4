use Rattle.std.proofs.Common.{◌≡◌, ◌++◌, length}
use Rattle.conf_read.specs.Meaning.{locations_in}
use Rattle.conf_read.specs.Walk.{listed}
use Rattle.conf_read.proofs.build.locations_of.Given as goal

-- those so far, and those of the rest
abbrev pub invariant-loop-rest : goal.invariant-loop-rest
invariant-loop-rest l = l.locations ++ locations_in l.imports (listed l.rest) ≡ locations_in l.imports (listed l.pieces)

abbrev pub decreases-loop-rest : goal.decreases-loop-rest
decreases-loop-rest l = length l.rest
