use Rattle.std.proofs.Common.{◌≡◌, ◌++◌, drop}
use Rattle.njs_scope.specs.Planned.{outermost}
use Rattle.njs_scope.proofs.script.outermost.Given as goal

abbrev pub invariant-loop-other : goal.invariant-loop-other
invariant-loop-other l = outermost l.others ≡ l.names ++ drop l.other-index l.others
