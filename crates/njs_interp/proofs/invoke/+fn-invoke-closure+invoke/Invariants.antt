use Rattle.std.proofs.Common.{◌+◌, ◌*◌}
use Rattle.njs_interp.proofs.invoke.+fn-invoke-closure+invoke.Given as goal

abbrev pub decreases-closure : goal.decreases-closure
decreases-closure g l = 2 * l.further + 1

abbrev pub decreases-invoke : goal.decreases-invoke
decreases-invoke g l = 2 * l.calls
