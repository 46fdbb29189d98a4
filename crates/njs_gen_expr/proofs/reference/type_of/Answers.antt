use Rattle.std.proofs.Common.{suc, ◌+◌, refl, ap, ◌∙◌, arith}
use Rattle.njs_tree.specs.declared.tree.UnaryOp.TheVariants as sign
use Rattle.njs_meaning.specs.Places.{place_in}
use Rattle.njs_code.specs.declared.op.Kind.TheVariants as kind
use Rattle.njs_simul.specs.Emission as emit
use Rattle.njs_gen_expr.specs.Written.{Draft}
use Rattle.njs_gen_expr.proofs.Drafts.{recount}
use Rattle.njs_gen_expr.proofs.reference.type_of.Goals as goal

pub returns-in-Value-clause-written : goal.returns-in-Value-clause-written
returns-in-Value-clause-written c at d p s h =
    rw c.in-Value.is (recount c.write.new.self _ _ (1 + d.count) _ _ (omega arith) (c.write.ensures.written (kind.Unary sign.TypeOf) (emit.deeper 1 at) d (λ g. refl) (c.deeper.ensures at s) h))

pub returns-in-Name-clause-written : goal.returns-in-Name-clause-written
returns-in-Name-clause-written c at d p s h =
    let name = c.in-Name.text.now in
    let placed = rw c.in-Name.is at p in
    let behind = c.write.ensures.written (kind.Unary sign.TypeOf) (emit.deeper 1 at) d (λ g. refl) (c.deeper.ensures at s) h in
    let after : Draft = record d { ops = emit.op (kind.Unary sign.TypeOf) (emit.deeper 1 at) d.ops; count = suc d.count } in
    rw c.in-Name.is
    (recount c.write-in-Name.new.self _ _ (2 + d.count) _ _ (omega arith) (c.write-in-Name.ensures.written (emit.value_for_type name (place_in name at.names)) at after
    (λ g. c.value_for_type-kind.ensures.given g ∙ ap (λ place. emit.value_for_type name place) (placed (c.write.ensures.stays (c.value_for_type-kind.ensures.stays g)))) s (c.value_for_type-kind.ensures.holds after behind)))

pub returns-in-Member-clause-written : goal.returns-in-Member-clause-written
returns-in-Member-clause-written c at d p s h =
    let behind = c.write.ensures.written (kind.Unary sign.TypeOf) (emit.deeper 1 at) d (λ g. refl) (c.deeper.ensures at s) h in
    let after : Draft = record d { ops = emit.op (kind.Unary sign.TypeOf) (emit.deeper 1 at) d.ops; count = suc d.count } in
    rw c.in-Member.is (recount c.write-in-Member.new.self _ _ (2 + d.count) _ _ (omega arith) (c.write-in-Member.ensures.written kind.Get (emit.deeper 2 at) after (λ g. refl) (c.deeper-in-Member.ensures at s) behind))
