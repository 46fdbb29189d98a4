use Rattle.std.specs.Io.KnownBytes.{Keeps}
use Rattle.njs_edge.proofs.sink.write_once.Given as goal

-- an interruption changes nothing
abbrev pub invariant-loop-count : goal.invariant-loop-count
invariant-loop-count g l = Keeps (g.W.Write.contents l.fn.inner) (g.W.Write.contents l.inner)

abbrev pub decreases-loop-count : goal.decreases-loop-count
decreases-loop-count g l = l.interruptions.left
