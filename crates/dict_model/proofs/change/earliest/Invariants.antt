use Rattle.std.proofs.Common.{take}
use Rattle.dict_model.specs.Places.{EarliestOf}
use Rattle.dict_model.proofs.change.earliest.Given as goal

abbrev pub invariant-loop-place : goal.invariant-loop-place
invariant-loop-place l = EarliestOf l.key (take l.place l.entries) l.earliest l.time
