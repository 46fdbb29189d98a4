use Rattle.std.proofs.Common.{◌≡◌, ◌<◌, ◌-◌, length}
use Rattle.njs_members.proofs.InstanceOf.{target_by}
use Rattle.njs_members.proofs.instances.target_of.Given as goal

-- what the rest of the way gives
abbrev pub invariant-loop-step : goal.invariant-loop-step
invariant-loop-step l = record {
  within : l.at.0 < length l.machine.objects;
  rest : target_by l.machine (length l.machine.objects - l.step) l.at.0 ≡ target_by l.machine (length l.machine.objects) l.fn.function.0;
}
