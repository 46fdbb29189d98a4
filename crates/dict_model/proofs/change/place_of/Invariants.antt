use Rattle.dict_model.proofs.Placing.{Passed}
use Rattle.dict_model.proofs.change.place_of.Given as goal

abbrev pub invariant-loop-place : goal.invariant-loop-place
invariant-loop-place l = Passed l.key l.entries l.place
