use Rattle.std.proofs.Common.{◌<◌}
use Rattle.http_in.proofs.tests.put_number.Given as goal

abbrev pub invariant-loop : goal.invariant-loop
invariant-loop l = 0 < l.unit
