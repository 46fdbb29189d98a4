use Rattle.std.proofs.Common.{◌≡◌, ◌≤◌, ◌+◌, drop, sum_by}
use Rattle.conf_read.specs.Rules.{alike, zone_bytes}
use Rattle.conf_read.specs.Walk.{listed}
use Rattle.conf_read.proofs.rules.zones_fit.Given as goal

-- the bytes so far, and those of the rest
abbrev pub invariant-loop-piece : goal.invariant-loop-piece
invariant-loop-piece l = record {
  counted : l.total + sum_by zone_bytes (alike l.directive (listed (drop l.piece-index l.earlier))) ≡ sum_by zone_bytes (alike l.directive (listed l.earlier));
  within : l.total ≤ 1073741824;
}
