use Rattle.std.proofs.Common.{◌≡◌, ◌≤◌, ◌+◌, drop, length}
use Rattle.conf_read.specs.Rules.{alike}
use Rattle.conf_read.specs.Walk.{listed}
use Rattle.conf_read.proofs.rules.count_alike.Given as goal

-- those so far, and those of the rest
abbrev pub invariant-loop-piece : goal.invariant-loop-piece
invariant-loop-piece l = record {
  counted : l.count + length (alike l.directive (listed (drop l.piece-index l.earlier))) ≡ length (alike l.directive (listed l.earlier));
  few : l.count ≤ l.piece-index;
}
