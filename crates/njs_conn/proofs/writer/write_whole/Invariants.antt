use Rattle.std.proofs.Common.{◌≤◌, length}
use Rattle.njs_conn.specs.Writer.{Wrote}
use Rattle.njs_conn.proofs.writer.write_whole.Given as goal

abbrev pub invariant-loop-rest : goal.invariant-loop-rest
invariant-loop-rest g l = record {
  wrote : Wrote (g.K.Sink.got l.fn.sink) (g.K.Sink.got l.sink) l.rest l.bytes;
  later : g.K.Sink.faults l.fn.sink ≤ g.K.Sink.faults l.sink;
}

abbrev pub decreases-loop-rest : goal.decreases-loop-rest
decreases-loop-rest g l = length l.rest
