use Rattle.std.proofs.Common.{◌<◌, sym, subst, List}
use Rattle.std.specs.Option.{ForSome}
use Rattle.njs_shared.specs.Fits.{FitsInner, FitsProperties}
use Rattle.njs_shared.specs.Heap.{Heap, HeapObject, sizes}
use Rattle.njs_clone.proofs.Held.{Holds, object_more}
use Rattle.njs_clone.proofs.machine.Machine.new_object_with.Goals as goal

pub invariant_of-self-2 : goal.invariant_of-self-2
invariant_of-self-2 g c =
    let heap : Heap = record { objects = c.self.inside.objects; scopes = c.self.inside.scopes; texts = c.self.inside.texts } in
    subst (λ (os : List HeapObject). Holds (record heap { objects = os })) (sym c.in_ok-object.ensures.ok)
    (object_more heap c.self.invariant _ (record {
      prototype = subst (λ (h : Heap). ForSome c.args.prototype (λ up. up.0 < (sizes h).objects)) (sym c.self.view_is) c.requires.prototype;
      props = subst (λ (h : Heap). FitsProperties (sizes h) c.args.props) (sym c.self.view_is) c.requires.props;
      inner = subst (λ (h : Heap). FitsInner (sizes h) c.args.inner) (sym c.self.view_is) c.requires.inner;
    }) c.requires.length)
