use Rattle.std.proofs.Common.{◌≡◌, ◌<◌, ◌-◌, length}
use Rattle.njs_members.proofs.InstanceOf.{behind_by}
use Rattle.njs_members.proofs.instances.is_behind.Given as goal

-- what the rest of the chain gives
abbrev pub invariant-loop-step : goal.invariant-loop-step
invariant-loop-step l = record {
  within : l.at.0 < length l.machine.objects;
  rest : behind_by l.machine l.sought.0 (length l.machine.objects - l.step) l.at.0 ≡ behind_by l.machine l.sought.0 (length l.machine.objects) l.fn.object.0;
}
