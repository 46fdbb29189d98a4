use Rattle.std.specs.Io.KnownBytes.{Keeps}
use Rattle.njs_edge.proofs.source.read_once.Given as goal

-- an interruption changes nothing
abbrev pub invariant-loop-count : goal.invariant-loop-count
invariant-loop-count g l = Keeps (g.R.Read.remaining l.fn.inner) (g.R.Read.remaining l.inner)

abbrev pub decreases-loop-count : goal.decreases-loop-count
decreases-loop-count g l = l.interruptions.left
