use Rattle.std.proofs.Common.{◌≡◌, drop}
use Rattle.njs_scope.specs.Walked.{each_once_more}
use Rattle.njs_scope.proofs.names.add_copies.Given as goal

abbrev pub invariant-loop-name : goal.invariant-loop-name
invariant-loop-name l = each_once_more l.initial.names l.more ≡ each_once_more l.names (drop l.name-index l.more)
