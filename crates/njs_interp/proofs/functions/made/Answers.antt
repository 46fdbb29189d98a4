use Rattle.std.proofs.Common.{◌≡◌, ◌+◌, List, [], ◌∷◌, ◌++◌, length, refl, ap, ◌∙◌, length-append}
use Rattle.njs_shared.specs.Heap.{Heap, HeapObject}
use Rattle.njs_clone.specs.Gives.{define_in}
use Rattle.njs_meaning.specs.Functions.{prototype_name, function_object, prototype_object}
use Rattle.njs_meaning.specs.Objects.{with_props}
use Rattle.njs_meaning.specs.PlainHeap.{Script}
use Rattle.njs_meaning.specs.Values.{ObjectAt}
use Rattle.njs_members.proofs.Told.{change-keeps}
use Rattle.njs_interp.specs.Making.{prototype_desc}
use Rattle.njs_interp.proofs.Extending.{on-pushed, count-same}
use Rattle.njs_interp.proofs.Made.{adds-nothing, adds-kept, adds-object, adds-trans, adds-makes, first_object, whole_object, second_object, both, changed-both, both-plain}
use Rattle.njs_interp.proofs.functions.made.Goals as goal

pub returns-in-Err-clause-makes : goal.returns-in-Err-clause-makes
returns-in-Err-clause-makes g c =
    let m = c.args.making in
    let h = c.args.machine.now in
    adds-makes m.unit m.number m.scope h c.function_object.new.machine (adds-nothing m.unit m.number m.scope h c.function_object.new.machine c.in-Err.ensures.err)

pub returns-in-Err-prototype_object-clause-makes : goal.returns-in-Err-prototype_object-clause-makes
returns-in-Err-prototype_object-clause-makes g c =
    let m = c.args.making in
    let h = c.args.machine.now in
    let k = c.function_object.new.machine in
    let l = c.prototype_object.new.machine in
    adds-makes m.unit m.number m.scope h l
    (adds-trans m.unit m.number m.scope h k l (adds-object m.unit m.number m.scope h k (first_object m.unit m.number m.params m.scope) (refl, refl, refl) c.in-Ok.ensures.ok)
    (adds-nothing m.unit m.number m.scope k l c.in-Err-prototype_object.ensures.err))

pub returns-in-Ok-set_prototype-clause-makes : goal.returns-in-Ok-set_prototype-clause-makes
returns-in-Ok-set_prototype-clause-makes g c =
    let m = c.args.making in
    let f = c.in-Ok.function in
    let p = c.in-Ok-prototype_object.prototype in
    let h = c.args.machine.now in
    let k = c.function_object.new.machine in
    let l = c.prototype_object.new.machine in
    let n = c.set_prototype.new.machine in
    adds-makes m.unit m.number m.scope h n
    (adds-trans m.unit m.number m.scope h k n (adds-object m.unit m.number m.scope h k (first_object m.unit m.number m.params m.scope) (refl, refl, refl) c.in-Ok.ensures.ok)
    (adds-trans m.unit m.number m.scope k l n (adds-object m.unit m.number m.scope k l (second_object f) tt c.in-Ok-prototype_object.ensures.ok)
    (adds-kept m.unit m.number m.scope l n (change-keeps l n f.0 (define_in l f.0 prototype_name (prototype_desc p)) c.set_prototype.result c.set_prototype.ensures.gives))))

pub returns-in-Err-set_prototype-clause-makes : goal.returns-in-Err-set_prototype-clause-makes
returns-in-Err-set_prototype-clause-makes g c =
    let m = c.args.making in
    let f = c.in-Ok.function in
    let p = c.in-Ok-prototype_object.prototype in
    let h = c.args.machine.now in
    let k = c.function_object.new.machine in
    let l = c.prototype_object.new.machine in
    let n = c.set_prototype.new.machine in
    adds-makes m.unit m.number m.scope h n
    (adds-trans m.unit m.number m.scope h k n (adds-object m.unit m.number m.scope h k (first_object m.unit m.number m.params m.scope) (refl, refl, refl) c.in-Ok.ensures.ok)
    (adds-trans m.unit m.number m.scope k l n (adds-object m.unit m.number m.scope k l (second_object f) tt c.in-Ok-prototype_object.ensures.ok)
    (adds-kept m.unit m.number m.scope l n (change-keeps l n f.0 (define_in l f.0 prototype_name (prototype_desc p)) c.set_prototype.result c.set_prototype.ensures.gives))))

pub returns-in-Ok-set_prototype-clause-told : goal.returns-in-Ok-set_prototype-clause-told
returns-in-Ok-set_prototype-clause-told g c =
    let m = c.args.making in
    let f = c.in-Ok.function in
    let p = c.in-Ok-prototype_object.prototype in
    let h = c.args.machine.now in
    let l = c.prototype_object.new.machine in
    let n = c.set_prototype.new.machine in
    let first = c.in-Ok.ensures.ok in
    let second : l ≡ both h m.unit m.number m.params m.scope f p c.in-Ok.ensures.number =
    c.in-Ok-prototype_object.ensures.ok ∙ ap (λ (k : Heap). record k { objects = k.objects ++ second_object f ∷ [] }) first
    in
    let whole : List HeapObject = (h.objects ++ whole_object m.unit m.number m.params m.scope p ∷ []) ++ second_object f ∷ [] in
    let third : n ≡ record h { objects = whole } =
    c.in-Ok-set_prototype.ensures.gives.1 ∙ ap (λ (k : Heap). record k { objects = with_props k.objects f.0 (define_in k f.0 prototype_name (prototype_desc p)).props }) second
    ∙ ap (λ os. record h { objects = os }) (changed-both h m.unit m.number m.params m.scope f p c.in-Ok.ensures.number)
    in
    let next : p.0 ≡ length h.objects + 1 =
    c.in-Ok-prototype_object.ensures.number ∙ ap (λ (k : Heap). length k.objects) first ∙ length-append h.objects (first_object m.unit m.number m.params m.scope ∷ [])
    in
    record {
      by = λ s stands. (
        ap ObjectAt (c.in-Ok.ensures.number ∙ count-same h s stands),
        on-pushed h n s whole ((s.objects ++ function_object m.params (length s.objects + 1) (Script m.unit m.number m.scope) ∷ []) ++ prototype_object (length s.objects) ∷ []) third
            (both-plain h m.unit m.number m.params m.scope f p c.in-Ok.ensures.number (length s.objects) (count-same h s stands) next
            ∙ ap (λ os. (os ++ function_object m.params (length s.objects + 1) (Script m.unit m.number m.scope) ∷ []) ++ prototype_object (length s.objects) ∷ []) stands.objects)
            stands,
      );
    }
