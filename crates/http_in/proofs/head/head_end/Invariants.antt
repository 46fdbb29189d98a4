use Rattle.http_in.specs.Deciding.{Passes}
use Rattle.http_in.proofs.head.head_end.Given as goal

abbrev pub invariant-loop-index : goal.invariant-loop-index
invariant-loop-index l = Passes l.index l.bytes
