use Rattle.std.proofs.Common.{◌-ℤ◌, FitsSigned, w64, rules}
use Rattle.std.proofs.lemmas.Int.{to_z-of_z}
use Rattle.njs_ops.proofs.arithmetic.difference.Goals as goal

pub returns-clause-answers : goal.returns-clause-answers
returns-clause-answers c =
    let first : FitsSigned w64 c.args.first = c.ranges.first in
    let second : FitsSigned w64 c.args.second = c.ranges.second in
    let fits : FitsSigned w64 (c.args.first -ℤ c.args.second) = search rules in
    simp to_z-of_z at c.safe.ensures.answers
