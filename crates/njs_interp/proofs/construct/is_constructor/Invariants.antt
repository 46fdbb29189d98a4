use Rattle.std.proofs.Common.{◌≡◌, ◌<◌, ◌-◌, length}
use Rattle.njs_meaning.specs.Functions.{Program}
use Rattle.njs_interp.proofs.Constructing.{constructor_by}
use Rattle.njs_interp.proofs.construct.is_constructor.Given as goal

-- what the rest of the way gives
abbrev pub invariant-loop-step : goal.invariant-loop-step
invariant-loop-step g l = record {
  within : l.at.0 < length l.machine.objects;
  rest : (program : Program) → constructor_by program l.machine (length l.machine.objects - l.step) l.at.0 ≡ constructor_by program l.machine (length l.machine.objects) l.fn.object.0;
}
