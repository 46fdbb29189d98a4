use Rattle.std.proofs.Common.{◌≡◌, ◌<◌, ◌-◌, length}
use Rattle.njs_members.proofs.Walked.{found_by}
use Rattle.njs_members.proofs.found.has_within.Given as goal

-- what the rest of the chain gives
abbrev pub invariant-loop-step : goal.invariant-loop-step
invariant-loop-step l = record {
  within : l.at.0 < length l.machine.objects;
  rest : found_by l.machine l.name (l.count - l.step) l.at.0 ≡ found_by l.machine l.name l.count l.fn.object.0;
}
