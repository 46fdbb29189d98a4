use Rattle.std.proofs.Common.{◌≡◌, drop, max}
use Rattle.conf_read.specs.Choose.{longest}
use Rattle.conf_read.proofs.conf.longest.Given as goal

-- the longest so far, or one of the rest
abbrev pub invariant-loop-location : goal.invariant-loop-location
invariant-loop-location l = max l.longest (longest l.path (drop l.location-index l.locations)) ≡ longest l.path l.locations
