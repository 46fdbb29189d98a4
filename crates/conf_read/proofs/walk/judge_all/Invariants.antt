use Rattle.std.proofs.Common.{◌≡◌, [], take, drop}
use Rattle.conf_read.specs.declared.table.Place.TheVariants as place
use Rattle.conf_read.specs.Walk.{walk, walked, listed}
use Rattle.conf_read.proofs.walk.judge_all.Given as goal

-- the first rule that fails among all pieces is the first that fails among the rest
abbrev pub invariant-loop-place : goal.invariant-loop-place
invariant-loop-place l = walked l.imports l.walk (listed (take l.place l.pieces)) (drop l.place l.pieces) ≡ walk l.imports (record { place = place.Main; seen = [] }) [] [] l.pieces
