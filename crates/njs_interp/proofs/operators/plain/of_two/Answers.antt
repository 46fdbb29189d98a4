use Rattle.njs_meaning.specs.Operators.{binary_of}
use Rattle.njs_ops.specs.Values.{operand}
use Rattle.njs_interp.proofs.Meanings.{binary_nameless, names_nothing}
use Rattle.njs_interp.proofs.operators.plain.of_two.Goals as goal

pub answered-requires-clause-names : goal.answered-requires-clause-names
answered-requires-clause-names g c =
    names_nothing (binary_of c.args.op (operand c.operand.result) (operand c.operand-2.result)) c.binary-answer.result (binary_nameless c.args.op (operand c.operand.result) (operand c.operand-2.result)) c.binary-answer.ensures.answers
