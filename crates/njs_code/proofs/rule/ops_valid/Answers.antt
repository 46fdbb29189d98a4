use Rattle.std.proofs.Common.{◌∙◌, sym, arith}
use Rattle.njs_code.proofs.Ops.{ops_stop, ops_step}
use Rattle.njs_code.proofs.rule.ops_valid.Goals as goal

pub returns-then-not-op_valid : goal.returns-then-not-op_valid
returns-then-not-op_valid c =
    let stopped = ops_stop c.args.functions.now c.args.f.now c.args.ops.now c.loop-i.i c.index-ops-i.result (omega arith) c.index-ops-i.is (sym c.op_valid.ensures ∙ c.if-not-op_valid.true) in
    sym (c.loop-i.invariant ∙ stopped)

pub loop-i-preserved : goal.loop-i-preserved
loop-i-preserved c =
    c.loop-i.invariant
    ∙ ops_step c.args.functions.now c.args.f.now c.args.ops.now c.loop-i.i c.index-ops-i.result (omega arith) c.index-ops-i.is (sym c.op_valid.ensures ∙ c.if-not-op_valid.false)
