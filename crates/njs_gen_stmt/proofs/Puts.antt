-- The code of a function takes its place among the others.
use Rattle.std.proofs.Common.{◌≡◌, ◌+◌, List, [], ◌∷◌, ◌++◌, length, Bool, true, false, ◌||◌, refl, sym, ap, arith, ◌∙◌}
use Rattle.std.proofs.Math.Bool.{or_assoc}
use Rattle.njs_code.specs.declared.code.FunctionCode.{FunctionCode}
use Rattle.njs_simul.specs.Counts.{operations_in}
use Rattle.njs_gen_stmt.specs.Walked.{unwritten, is_crowded, any_crowded}

pub operations_put : (front behind : List FunctionCode) (code : FunctionCode) → operations_in (front ++ (unwritten ∷ behind)) + length code.ops ≡ operations_in (front ++ (code ∷ behind))
operations_put [] behind code = omega arith
operations_put (f ∷ fs) behind code = let later = operations_put fs behind code in omega (arith, later)

or_swap : (a b : Bool) → (a || b) ≡ (b || a)
or_swap true true = refl
or_swap true false = refl
or_swap false true = refl
or_swap false false = refl

pub crowded_put : (front behind : List FunctionCode) (code : FunctionCode) → any_crowded (front ++ (code ∷ behind)) ≡ (any_crowded (front ++ (unwritten ∷ behind)) || is_crowded code.slots)
crowded_put [] behind code = or_swap (is_crowded code.slots) (any_crowded behind)
crowded_put (f ∷ fs) behind code = ap (λ b. is_crowded f.slots || b) (crowded_put fs behind code) ∙ sym (or_assoc (is_crowded f.slots) (any_crowded (fs ++ (unwritten ∷ behind))) (is_crowded code.slots))
