use Rattle.std.proofs.Common.{rules}
use Rattle.njs_code.specs.declared.op.Kind.TheVariants as kind
use Rattle.njs_gen_expr.proofs.operators.number.Goals as goal

pub returns-clause-written : goal.returns-clause-written
returns-clause-written c = c.constant.ensures.written (kind.Num c.args.number.now) (λ g. search rules)
