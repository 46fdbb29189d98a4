-- The objects of requests, once they are made.
use Rattle.std.proofs.Common.{◌≡◌, List, [], ◌∷◌, ◌++◌, Some, length, sym, ap, ◌∙◌}
use Rattle.std.specs.Prelude.{Result, Ok, Err, OnOk, OnErr}
use Rattle.std.proofs.lemmas.List.{map-append, length-map}
use Rattle.njs_text.specs.declared.memory.NoMemory.{NoMemory}
use Rattle.njs_value.specs.declared.Class.TheVariants as class
use Rattle.njs_value.specs.declared.ObjId.{ObjId}
use Rattle.njs_shared.specs.declared.object.Inner.TheVariants as inner
use Rattle.njs_shared.specs.Heap.{Heap, HeapObject}
use Rattle.njs_clone.specs.Content.{content, written}
use Rattle.njs_clone.specs.Created.{object_of}
use Rattle.njs_clone.specs.StandsFor.{mapped_object, content_inner, plain_objects}
use Rattle.njs_meaning.specs.Objects.{with_new_object}
use Rattle.njs_convert.specs.Tells.{Grows}
use Rattle.njs_convert.proofs.Grown.{Grows-same, Grows-objects}
use Rattle.njs_request.specs.Rows.{return_row}
use Rattle.njs_request.specs.EntryObjects.{built_in, request_prototype, with_prototype, with_request, length_props, prototype_props}

-- further objects, or want of memory
pub objects_grow : (h k : Heap) (os : List HeapObject) (r : Result ObjId NoMemory) → OnOk r (k ≡ record h { objects = h.objects ++ os }) → OnErr r (k ≡ h) → Grows h k
objects_grow h k os (Ok object) is stays = Grows-objects h k os is
objects_grow h k os (Err none) is stays = Grows-same h k stays

-- a request
pub request_made : (h k : Heap) (up : ObjId) (r : Result ObjId NoMemory) → OnOk r (k ≡ record h { objects = with_new_object written class.Request (Some up) inner.Plain h.objects })
    → OnOk r (plain_objects k ≡ with_request up (plain_objects h))
request_made h k up (Ok object) is =
    ap plain_objects is ∙ map-append (mapped_object (content h.texts) (content_inner h.texts)) h.objects (object_of class.Request (Some up) [] inner.Plain ∷ [])
request_made h k up (Err none) is = tt

-- the function `return` and the prototype of requests
abbrev pub function_object : HeapObject
function_object = object_of class.Function (Some (record { 0 = 1 })) (length_props 1) (inner.BuiltIn return_row)

abbrev pub methods_object : ObjId → HeapObject
methods_object function = object_of class.Object (Some (record { 0 = 0 })) (prototype_props function) inner.Plain

pub prototype_made : (h k l : Heap) (function : ObjId) (r : Result ObjId NoMemory) → function.0 ≡ length h.objects → k ≡ record h { objects = h.objects ++ function_object ∷ [] }
    → OnOk r (l ≡ record k { objects = k.objects ++ methods_object function ∷ [] }) → OnOk r (plain_objects l ≡ with_prototype (plain_objects h))
prototype_made h k l function (Ok object) at first second =
    let f = mapped_object (content h.texts) (content_inner h.texts) in
    let both = (h.objects ++ function_object ∷ []) ++ methods_object function ∷ [] in
    let is : l ≡ record h { objects = both } = second ∙ ap (λ (m : Heap). record m { objects = m.objects ++ methods_object function ∷ [] }) first in
    let count : function.0 ≡ length (plain_objects h) = at ∙ sym (length-map h.objects f) in
    ap plain_objects is ∙ map-append f (h.objects ++ function_object ∷ []) (methods_object function ∷ [])
    ∙ ap (λ os. os ++ request_prototype function.0 ∷ []) (map-append f h.objects (function_object ∷ []))
    ∙ ap (λ n. (plain_objects h ++ built_in return_row 1 ∷ []) ++ request_prototype n ∷ []) count
prototype_made h k l function (Err none) at first second = tt
