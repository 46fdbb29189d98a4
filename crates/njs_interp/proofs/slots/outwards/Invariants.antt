use Rattle.std.proofs.Common.{◌≡◌, ◌-◌, ◌<◌, length}
use Rattle.njs_interp.specs.Slots.{outwards}
use Rattle.njs_interp.proofs.slots.outwards.Given as goal

abbrev pub invariant-loop-step : goal.invariant-loop-step
invariant-loop-step l = record {
  left : outwards (l.up - l.step) l.machine.scopes l.at.0 ≡ outwards l.up l.machine.scopes l.fn.scope.0;
  within : l.at.0 < length l.machine.scopes;
}
