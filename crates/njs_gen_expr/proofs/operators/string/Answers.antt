use Rattle.std.proofs.Common.{ap}
use Rattle.njs_code.specs.declared.op.Kind.TheVariants as kind
use Rattle.njs_gen_expr.proofs.operators.string.Goals as goal

pub returns-clause-written : goal.returns-clause-written
returns-clause-written c at first start n ops front s h =
    c.constant.ensures.written (kind.Str c.args.text.now) (λ g. ap (λ text. kind.Str text) (c.copy-copy.ensures.copied g)) at first start n ops front s (c.copy-copy.ensures.holds _ h)
