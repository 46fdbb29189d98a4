use Rattle.std.proofs.Common.{◌≡◌, suc, ◌+◌, refl, arith}
use Rattle.njs_tree.specs.declared.tree.UnaryOp.{UnaryOp}
use Rattle.njs_tree.specs.declared.tree.UnaryOp.TheVariants as sign
use Rattle.njs_code.specs.declared.op.Kind.TheVariants as kind
use Rattle.njs_simul.specs.Emission as emit
use Rattle.njs_simul.specs.Emission.{op, deeper}
use Rattle.njs_gen_expr.specs.Written.{Progress, Draft, Holds}
use Rattle.njs_gen_expr.specs.References.{form_of, operator_count, operator_emits}
use Rattle.njs_gen_expr.proofs.Drafts.{recount}
use Rattle.njs_gen_expr.proofs.operators.operator.Goals as goal

other : (f : UnaryOp) → (f ≡ sign.Delete → ⊥) → (f ≡ sign.TypeOf → ⊥) → (form : emit.Form) (w : Progress) (at : emit.Here) (d : Draft)
    → Holds w (record d { ops = emit.fetch form at (op (kind.Unary f) (deeper 1 at) d.ops); count = emit.fetch_size form + suc d.count })
    → Holds w (record d { ops = operator_emits f form at d.ops; count = operator_count f form + d.count })
other sign.Delete no_delete no_type form w at d h = absurd (no_delete refl)
other sign.TypeOf no_delete no_type form w at d h = absurd (no_type refl)
other sign.Void no_delete no_type form w at d h = recount w _ (emit.fetch_size form + suc d.count) (emit.fetch_size form + 1 + d.count) d.places d.functions (omega arith) h
other sign.Plus no_delete no_type form w at d h = recount w _ (emit.fetch_size form + suc d.count) (emit.fetch_size form + 1 + d.count) d.places d.functions (omega arith) h
other sign.Minus no_delete no_type form w at d h = recount w _ (emit.fetch_size form + suc d.count) (emit.fetch_size form + 1 + d.count) d.places d.functions (omega arith) h
other sign.BitNot no_delete no_type form w at d h = recount w _ (emit.fetch_size form + suc d.count) (emit.fetch_size form + 1 + d.count) d.places d.functions (omega arith) h
other sign.Not no_delete no_type form w at d h = recount w _ (emit.fetch_size form + suc d.count) (emit.fetch_size form + 1 + d.count) d.places d.functions (omega arith) h

pub returns-in-Delete-clause-written : goal.returns-in-Delete-clause-written
returns-in-Delete-clause-written c at d p s h = rw c.in-Delete.is (c.delete_at.ensures.written at d s h)

pub returns-in-TypeOf-clause-written : goal.returns-in-TypeOf-clause-written
returns-in-TypeOf-clause-written c at d p s h = rw c.in-TypeOf.is (c.type_of.ensures.written at d p s h)

pub returns-in_default-clause-written : goal.returns-in_default-clause-written
returns-in_default-clause-written c at d p s h =
    let f = c.args.op in
    let behind : Draft = record d { ops = op (kind.Unary f) (deeper 1 at) d.ops; count = suc d.count } in
    other f c.in_default.not-Delete c.in_default.not-TypeOf (form_of c.args.r.now) c.fetch.new.w at d
    (c.fetch.ensures.written at behind (λ g. p (c.write.ensures.stays g)) s (c.write.ensures.written (kind.Unary f) (deeper 1 at) d (λ g. refl) (c.deeper.ensures at s) h))
