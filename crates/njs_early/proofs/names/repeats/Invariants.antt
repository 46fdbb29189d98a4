use Rattle.std.proofs.Common.{◌≡◌, drop}
use Rattle.njs_tree.specs.Early.{repeats}
use Rattle.njs_early.proofs.names.repeats.Given as goal

abbrev pub invariant-loop-i : goal.invariant-loop-i
invariant-loop-i l = repeats l.names ≡ repeats (drop l.i l.names)
