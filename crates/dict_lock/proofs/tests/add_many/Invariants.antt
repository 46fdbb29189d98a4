use Rattle.std.proofs.Common.{◌≡◌}
use Rattle.dict_lock.proofs.tests.add_many.Given as goal

abbrev pub invariant-loop-reading : goal.invariant-loop-reading
invariant-loop-reading g l = l.seat.zone ≡ l.zone
