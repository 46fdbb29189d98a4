use Rattle.njs_shared.specs.Heap.{Heap}
use Rattle.njs_clone.proofs.Held.{extensions_stopped}
use Rattle.njs_clone.proofs.machine.Machine.stop_extensions.Goals as goal

pub invariant_of-self-2 : goal.invariant_of-self-2
invariant_of-self-2 g c =
    let heap : Heap = record { objects = c.self.inside.objects; scopes = c.self.inside.scopes; texts = c.self.inside.texts } in
    let e = c.in_ok-change.ensures.ok in
    extensions_stopped heap c.self.invariant c.args.object.0 e.0 e.1 c.change.new.self e.2 e.3 e.4
