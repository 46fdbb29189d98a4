use Rattle.std.proofs.Common.{◌≡◌, ◌≤◌, ◌-◌, false}
use Rattle.njs_conn.proofs.Serving.{SoFar}
use Rattle.njs_conn.proofs.connection.serve_connection.Given as goal

abbrev pub invariant-loop-request : goal.invariant-loop-request
invariant-loop-request g l = record {
  so_far : SoFar l.loaded l.peer l.reader (g.S.Source.left l.fn.source) (g.S.Source.left l.source) (g.K.Sink.got l.fn.sink) (g.K.Sink.got l.sink);
  unspent : l.reader.spent ≡ false;
  source_later : g.S.Source.faults l.fn.source ≤ g.S.Source.faults l.source;
  sink_later : g.K.Sink.faults l.fn.sink ≤ g.K.Sink.faults l.sink;
}

abbrev pub decreases-loop-request : goal.decreases-loop-request
decreases-loop-request g l = 1000 - l.reader.given
