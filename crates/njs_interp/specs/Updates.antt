-- How a number is stepped.
use Rattle.njs_tree.specs.declared.tree.BinaryOp.{BinaryOp}
use Rattle.njs_tree.specs.declared.tree.BinaryOp.TheVariants as op
use Rattle.njs_tree.specs.declared.tree.UpdateOp.{UpdateOp}
use Rattle.njs_tree.specs.declared.tree.UpdateOp.TheVariants as step

-- the operator that steps a number by one
abbrev pub step_operator : UpdateOp → BinaryOp
step_operator step.Add = op.Add
step_operator step.Sub = op.Sub
