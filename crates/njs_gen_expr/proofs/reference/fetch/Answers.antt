use Rattle.std.proofs.Common.{◌+◌, refl, ap, ◌∙◌, arith}
use Rattle.njs_meaning.specs.Places.{place_in}
use Rattle.njs_code.specs.declared.op.Kind.TheVariants as kind
use Rattle.njs_simul.specs.Emission as emit
use Rattle.njs_gen_expr.proofs.Drafts.{recount}
use Rattle.njs_gen_expr.proofs.reference.fetch.Goals as goal

pub returns-in-Value-clause-written : goal.returns-in-Value-clause-written
returns-in-Value-clause-written c at d p s h = rw c.in-Value.is (recount _ _ _ _ _ _ (omega arith) h)

pub returns-in-Name-clause-written : goal.returns-in-Name-clause-written
returns-in-Name-clause-written c at d p s h =
    let name = c.in-Name.text.now in
    let placed = rw c.in-Name.is at p in
    rw c.in-Name.is
    (recount c.write.new.self _ _ (1 + d.count) _ _ (omega arith) (c.write.ensures.written (emit.load name (place_in name at.names)) at d
    (λ g. c.load-kind.ensures.given g ∙ ap (λ place. emit.load name place) (placed (c.load-kind.ensures.stays g))) s (c.load-kind.ensures.holds d h)))

pub returns-in-Member-clause-written : goal.returns-in-Member-clause-written
returns-in-Member-clause-written c at d p s h =
    rw c.in-Member.is (recount c.write-in-Member.new.self _ _ (1 + d.count) _ _ (omega arith) (c.write-in-Member.ensures.written kind.Get (emit.deeper 2 at) d (λ g. refl) (c.deeper.ensures at s) h))
