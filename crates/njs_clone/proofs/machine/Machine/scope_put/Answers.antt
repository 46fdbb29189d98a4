use Rattle.std.proofs.Common.{sym, subst}
use Rattle.njs_shared.specs.Fits.{FitsValue}
use Rattle.njs_shared.specs.Heap.{Heap, sizes}
use Rattle.njs_clone.proofs.Held.{slot_changed}
use Rattle.njs_clone.proofs.machine.Machine.scope_put.Goals as goal

pub invariant_of-self-2 : goal.invariant_of-self-2
invariant_of-self-2 g c =
    let heap : Heap = record { objects = c.self.inside.objects; scopes = c.self.inside.scopes; texts = c.self.inside.texts } in
    let e = c.in_ok-change.ensures.ok in
    slot_changed heap c.self.invariant c.args.scope.0 c.args.slot c.args.value e.0 e.1 c.change.new.self e.2 e.3
    (subst (λ (h : Heap). FitsValue (sizes h) c.args.value) (sym c.self.view_is) c.requires.value) e.4
