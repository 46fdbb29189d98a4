use Rattle.std.proofs.Common.{arith}
use Rattle.std.proofs.lemmas.Grind.{common_steps}
use Rattle.njs_conn.proofs.Writing.{wrote_more}
use Rattle.njs_conn.proofs.writer.write_whole.Goals as goal

pub loop-rest-preserved : goal.loop-rest-preserved
loop-rest-preserved g c = record {
  wrote = wrote_more _ (g.K.Sink.got c.loop-rest.sink) _ c.loop-rest.rest.now _ _ c.in-Bytes.count c.loop-rest.invariant.wrote c.in-Bytes.ensures.put (grind (arith, common_steps));
  later = omega arith;
}
