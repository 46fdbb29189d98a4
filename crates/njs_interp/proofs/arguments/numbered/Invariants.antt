use Rattle.std.proofs.Common.{◌≡◌, take}
use Rattle.njs_interp.specs.Counting.{numbered_values}
use Rattle.njs_interp.proofs.arguments.numbered.Given as goal

abbrev pub invariant-loop-place : goal.invariant-loop-place
invariant-loop-place l = l.props ≡ numbered_values 0 (take l.place l.args)
