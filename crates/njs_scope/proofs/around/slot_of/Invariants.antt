use Rattle.std.proofs.Common.{◌≡◌, drop}
use Rattle.njs_meaning.specs.Places.{slot_of}
use Rattle.njs_scope.proofs.Slots.{after}
use Rattle.njs_scope.proofs.around.slot_of.Given as goal

abbrev pub invariant-loop-i : goal.invariant-loop-i
invariant-loop-i l = slot_of l.name l.names ≡ after l.i (slot_of l.name (drop l.i l.names))
