use Rattle.std.proofs.Common.{suc, ◌+◌, true, refl, arith}
use Rattle.njs_code.specs.declared.op.Kind.TheVariants as kind
use Rattle.njs_simul.specs.Emission as emit
use Rattle.njs_gen_expr.proofs.Drafts.{recount}
use Rattle.njs_gen_expr.proofs.reference.delete_at.Goals as goal

pub returns-in-Value-clause-written : goal.returns-in-Value-clause-written
returns-in-Value-clause-written c at d s h =
    let behind = c.write.ensures.written (kind.Bool true) at d (λ g. refl) s h in
    rw c.in-Value.is (recount c.write-in-Value.new.self _ _ (2 + d.count) _ _ (omega arith) (c.write-in-Value.ensures.written kind.Drop (emit.deeper 1 at) (record d { ops = emit.op (kind.Bool true) at d.ops; count = suc d.count }) (λ g. refl) (c.deeper.ensures at s) behind))

pub returns-in-Name-clause-written : goal.returns-in-Name-clause-written
returns-in-Name-clause-written c at d s h =
    rw c.in-Name.is (recount c.write-in-Name.new.self _ _ (1 + d.count) _ _ (omega arith) (c.write-in-Name.ensures.written (kind.Bool true) at d (λ g. refl) s h))

pub returns-in-Member-clause-written : goal.returns-in-Member-clause-written
returns-in-Member-clause-written c at d s h =
    rw c.in-Member.is (recount c.write-in-Member.new.self _ _ (1 + d.count) _ _ (omega arith) (c.write-in-Member.ensures.written kind.DeleteMember (emit.deeper 2 at) d (λ g. refl) (c.deeper-in-Member.ensures at s) h))
