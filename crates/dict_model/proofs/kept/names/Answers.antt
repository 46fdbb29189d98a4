use Rattle.std.proofs.Common.{arith}
use Rattle.std.proofs.lemmas.Grind.{common_steps}
use Rattle.dict_model.proofs.Names.{take_cons}
use Rattle.dict_model.proofs.kept.names.Goals as goal
use Rattle.dict_model.proofs.kept.names.Goals.{then-is_live+in_ok-copy+in_ok-push, else-is_live}

pub loop-entry-preserved : goal.loop-entry-preserved
loop-entry-preserved c = elim c.if-is_live.branch [
  | then-is_live+in_ok-copy+in_ok-push w ↦ grind (arith, common_steps, take_cons)
  | else-is_live w ↦ grind (arith, common_steps)
]
