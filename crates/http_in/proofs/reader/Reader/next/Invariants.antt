use Rattle.std.proofs.Common.{◌≤◌, ◌-◌, length}
use Rattle.http_in.proofs.Taking.{SoFar}
use Rattle.http_in.proofs.reader.Reader.next.Given as goal

abbrev pub invariant-loop-request : goal.invariant-loop-request
invariant-loop-request g l = record {
  so_far : SoFar (g.S.Source.left l.fn.source) (g.S.Source.left l.source) l.fn.self l.self;
  later : g.S.Source.faults l.fn.source ≤ g.S.Source.faults l.source;
}

abbrev pub decreases-loop-request : goal.decreases-loop-request
decreases-loop-request g l = 1064960 - length l.self.held
