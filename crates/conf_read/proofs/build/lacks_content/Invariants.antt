use Rattle.std.proofs.Common.{◌≡◌, length}
use Rattle.conf_read.specs.Meaning.{lacks_content}
use Rattle.conf_read.specs.Walk.{listed}
use Rattle.conf_read.proofs.build.lacks_content.Given as goal

-- the rest decides
abbrev pub invariant-loop-rest : goal.invariant-loop-rest
invariant-loop-rest l = lacks_content (listed l.pieces) ≡ lacks_content (listed l.rest)

abbrev pub decreases-loop-rest : goal.decreases-loop-rest
decreases-loop-rest l = length l.rest
