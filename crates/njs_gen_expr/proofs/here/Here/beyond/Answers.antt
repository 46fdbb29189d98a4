use Rattle.std.proofs.Common.{subst, sym}
use Rattle.njs_simul.specs.Emission as emit
use Rattle.njs_gen_expr.specs.Written.{Stands, DepthIs}
use Rattle.njs_gen_expr.proofs.Depths.{on_on}
use Rattle.njs_gen_expr.proofs.here.Here.beyond.Goals as goal

pub returns : goal.returns
returns c at s =
    let stood : Stands c.deeper-2.result (emit.deeper c.args.more (emit.deeper c.args.less at)) = c.deeper-2.ensures (emit.deeper c.args.less at) (c.deeper.ensures at s) in
    (subst (λ n. DepthIs c.deeper-2.result.depth (record at.depth { operands = n })) (sym (on_on c.args.more c.args.less at.depth.operands)) stood.0, stood.1)
