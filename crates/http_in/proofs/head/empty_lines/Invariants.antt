use Rattle.http_in.specs.Deciding.{PassesOver}
use Rattle.http_in.proofs.head.empty_lines.Given as goal

abbrev pub invariant-loop-index : goal.invariant-loop-index
invariant-loop-index l = PassesOver l.index l.bytes
