use Rattle.std.proofs.Common.{refl, ap, ◌∙◌}
use Rattle.njs_meaning.specs.Places.{place_in}
use Rattle.njs_simul.specs.Emission as emit
use Rattle.njs_gen_expr.proofs.reference.assign_to.Goals as goal

pub returns-in-Value-clause-written : goal.returns-in-Value-clause-written
returns-in-Value-clause-written c at d p s h =
    rw c.in-Value.is (c.write.ensures.written _ (emit.deeper 2 at) d (λ g. refl) (c.deeper.ensures at s) h)

pub returns-in-Name-clause-written : goal.returns-in-Name-clause-written
returns-in-Name-clause-written c at d p s h =
    let name = c.in-Name.text.now in
    let placed = rw c.in-Name.is at p in
    rw c.in-Name.is
    (c.write-in-Name.ensures.written (emit.store name (place_in name at.names)) (emit.deeper 1 at) d
    (λ g. c.store-kind.ensures.given g ∙ ap (λ place. emit.store name place) (placed (c.store-kind.ensures.stays g))) (c.deeper-in-Name.ensures at s) (c.store-kind.ensures.holds d h))

pub returns-in-Member-clause-written : goal.returns-in-Member-clause-written
returns-in-Member-clause-written c at d p s h =
    rw c.in-Member.is (c.write-in-Member.ensures.written _ (emit.deeper 3 at) d (λ g. refl) (c.deeper-in-Member.ensures at s) h)
