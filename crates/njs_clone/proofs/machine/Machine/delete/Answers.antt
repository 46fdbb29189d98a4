use Rattle.njs_shared.specs.Fits.{FitsValue}
use Rattle.njs_shared.specs.Heap.{Heap, sizes}
use Rattle.njs_clone.proofs.Held.{properties_changed}
use Rattle.njs_clone.proofs.Kept.{delete-kept}
use Rattle.njs_clone.proofs.Lengths.{delete_keeps}
use Rattle.njs_clone.proofs.machine.Machine.delete.Goals as goal

pub invariant_of-self-2 : goal.invariant_of-self-2
invariant_of-self-2 g c =
    let heap : Heap = record { objects = c.self.inside.objects; scopes = c.self.inside.scopes; texts = c.self.inside.texts } in
    let e = c.in-Ok.ensures.ok in
    properties_changed heap c.self.invariant c.args.object.0 e.0 e.1 _ c.change.new.self e.2 e.3.1
    (λ all. delete-kept (FitsValue (sizes heap)) c.args.name.now e.0.props all)
    (λ is_array h. delete_keeps c.args.name.now e.0.props h)
    e.4
