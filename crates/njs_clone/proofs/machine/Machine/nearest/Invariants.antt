use Rattle.std.proofs.Common.{◌≡◌, ◌<◌, ◌-◌, length}
use Rattle.njs_meaning.specs.Chains.{nearest, own}
use Rattle.njs_clone.proofs.Chains.{found_from}
use Rattle.njs_clone.proofs.machine.Machine.nearest.Given as goal

-- what the rest of the chain gives
abbrev pub invariant-loop-step : goal.invariant-loop-step
invariant-loop-step l = record {
  within : l.at.0 < length l.self.objects;
  rest : found_from (own l.name) l.self.objects (length l.self.objects - l.step) l.at.0 ≡ nearest l.name l.self.objects l.fn.object.0;
}
