use Rattle.std.proofs.Common.{arith}
use Rattle.std.proofs.lemmas.Grind.{common_steps}
use Rattle.std.proofs.lemmas.Option.{gets}
use Rattle.njs_edge.proofs.Readings.{told_more}
use Rattle.njs_edge.proofs.clock.ListClockClock.now.Goals as goal

pub returns-clause-readings : goal.returns-clause-readings
returns-clause-readings c =
    told_more c.args.self.now.list.now c.args.self.now.calls c.saturating_add-self.result c.unwrap_or-reading.result (omega arith) (grind arith)
    (grind (arith, common_steps, gets))
