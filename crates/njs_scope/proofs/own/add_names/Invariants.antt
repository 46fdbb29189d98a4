use Rattle.std.proofs.Common.{◌≡◌, ◌++◌, map, drop}
use Rattle.njs_scope.specs.Walked.{values_of}
use Rattle.njs_scope.proofs.own.add_names.Given as goal

abbrev pub invariant-loop-i : goal.invariant-loop-i
invariant-loop-i l = l.names ≡ map (λ v. v.0) (values_of (drop l.i l.list)) ++ l.initial.names
