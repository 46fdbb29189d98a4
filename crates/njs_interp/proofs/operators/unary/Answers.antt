use Rattle.njs_convert.proofs.Grown.{Grows-Extends}
use Rattle.njs_interp.proofs.operators.unary.Goals as goal

pub returns-in-TypeOf-clause-grows : goal.returns-in-TypeOf-clause-grows
returns-in-TypeOf-clause-grows g c = Grows-Extends c.args.machine.now c.type_of.new.machine c.type_of.ensures.extends
