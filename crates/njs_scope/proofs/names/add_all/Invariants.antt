use Rattle.std.proofs.Common.{◌≡◌, length}
use Rattle.njs_scope.specs.Walked.{each_once_more}
use Rattle.njs_scope.proofs.names.add_all.Given as goal

abbrev pub invariant-loop-name : goal.invariant-loop-name
invariant-loop-name l = each_once_more l.initial.names l.initial.more ≡ each_once_more l.names l.more

abbrev pub decreases-loop-name : goal.decreases-loop-name
decreases-loop-name l = length l.more
