use Rattle.std.specs.Io.KnownBytes.{Keeps}
use Rattle.njs_edge.proofs.sink.flush_once.Given as goal

-- an interruption changes nothing
abbrev pub invariant-loop-error : goal.invariant-loop-error
invariant-loop-error g l = Keeps (g.W.Write.contents l.fn.inner) (g.W.Write.contents l.inner)

abbrev pub decreases-loop-error : goal.decreases-loop-error
decreases-loop-error g l = l.interruptions.left
