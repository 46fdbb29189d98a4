use Rattle.std.proofs.Common.{pos, refl, subst}
use Rattle.njs_meaning.specs.Primitives.{Number}
use Rattle.njs_meaning.specs.Operators.{binary_of}
use Rattle.njs_meaning.specs.Operations.{answered}
use Rattle.njs_interp.specs.Outcomes.{MeansOnHeap}
use Rattle.njs_interp.proofs.Stepped.{alone-means, means-stepped}
use Rattle.njs_interp.proofs.operators.updates.stepped.Goals as goal

pub returns-clause-told : goal.returns-clause-told
returns-clause-told g c = λ n is.
    let h = c.args.machine.now in
    let k = c.of_two.new.machine in
    let operator = c.operator_of-operator.result in
    means-stepped h k c.of_two.result c.args.op n
    (subst (λ o. MeansOnHeap h k c.of_two.result (answered (binary_of o (Number n) (Number (pos 1))))) c.operator_of-operator.ensures
    (alone-means h k c.of_two.result (answered (binary_of operator (Number n) (Number (pos 1)))) c.sizes-sizes.ensures.fits c.of_two.ensures.extends (c.of_two.ensures.told (Number n) (Number (pos 1)) is refl)))
