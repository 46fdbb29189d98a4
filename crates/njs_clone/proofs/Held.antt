-- What holds of every heap holds after each change.
use Rattle.std.proofs.Common.{◌≡◌, ℕ, List, [], ◌∷◌, ◌++◌, Some, ap, sym, subst, slice_get, slice_set, false}
use Rattle.njs_value.specs.declared.Class.TheVariants.{Array}
use Rattle.njs_value.specs.declared.Value.{Value}
use Rattle.njs_props.specs.declared.map.Property.{Property}
use Rattle.njs_shared.specs.declared.object.Scope.{Scope}
use Rattle.njs_shared.specs.Heap.{Heap, HeapObject, sizes}
use Rattle.njs_shared.specs.Fits.{FitsValue, FitsProperties, FitsObject, FitsScope, FitsHeap}
use Rattle.njs_shared.specs.Lengths.{HasLength, HasLengthOfArray, HasLengths}
use Rattle.njs_shared.specs.Ends.{HasEnds}
use Rattle.njs_clone.proofs.Fitting.{all_push, all_set, all_at, push_object, push_scope, push_text, set_object, object_fits, changed_object, changed_scope}
use Rattle.njs_clone.proofs.Ending.{object_ends, scope_ends, text_ends, changed_ends, slot_ends}

-- what holds of a heap
abbrev pub Holds : Heap → Type 0
Holds heap = FitsHeap heap × HasLengths heap × HasEnds heap

module _ (heap : Heap) (holds : Holds heap) where
  -- an object more
  pub object_more : (o : HeapObject) → FitsObject (sizes heap) o → HasLengthOfArray o → Holds (record heap { objects = heap.objects ++ o ∷ [] })
  object_more o fits has_length = (
    push_object heap holds.0 o fits,
    record { arrays = all_push HasLengthOfArray heap.objects o holds.1.arrays has_length },
    object_ends heap holds.0 holds.2 o fits,
  )

  -- a scope more
  pub scope_more : (s : Scope) → FitsScope (sizes heap) s → Holds (record heap { scopes = heap.scopes ++ s ∷ [] })
  scope_more s fits = (push_scope heap holds.0 s fits, record { arrays = holds.1.arrays }, scope_ends heap holds.0 holds.2 s fits)

  -- a text more
  pub text_more : (t : List ℕ) → Holds (record heap { texts = heap.texts ++ t ∷ [] })
  text_more t = (push_text heap holds.0 t, record { arrays = holds.1.arrays }, text_ends heap holds.2 (heap.texts ++ t ∷ []))

  -- an object with other properties, of which holds what held of those before
  pub properties_changed : (at : ℕ) (o after : HeapObject) (props : List (List ℕ × Property Value)) (objects : List HeapObject) → slice_get heap.objects at ≡ Some o
      → after ≡ record o { props = props } → (FitsProperties (sizes heap) o.props → FitsProperties (sizes heap) props) → (o.class ≡ Array → HasLength o.props → HasLength props)
      → objects ≡ slice_set heap.objects at after → Holds (record heap { objects = objects })
  properties_changed at o after props objects there change keeps lengths set =
      let has_length : HasLengthOfArray after =
      subst HasLengthOfArray (sym change) (λ is_array. lengths is_array (all_at HasLengthOfArray heap.objects at o holds.1.arrays there is_array))
      in (
        changed_object heap holds.0 at o after props objects there change keeps set,
        subst (λ (os : List HeapObject). HasLengths (record heap { objects = os })) (sym set) (record { arrays = all_set HasLengthOfArray heap.objects at after holds.1.arrays has_length }),
        subst (λ (os : List HeapObject). HasEnds (record heap { objects = os })) (sym set)
            (changed_ends heap holds.2 at o after there (ap (λ (p : HeapObject). p.prototype) change) (ap (λ (p : HeapObject). p.inner) change)),
      )

  -- an object that takes no new properties any more
  pub extensions_stopped : (at : ℕ) (o after : HeapObject) (objects : List HeapObject) → slice_get heap.objects at ≡ Some o → after ≡ record o { extensible = false }
      → objects ≡ slice_set heap.objects at after → Holds (record heap { objects = objects })
  extensions_stopped at o after objects there change set =
      let before = object_fits heap holds.0 at o there in
      let fits : FitsObject (sizes heap) after = subst (FitsObject (sizes heap)) (sym change) (record { prototype = before.prototype; props = before.props; inner = before.inner }) in
      let has_length : HasLengthOfArray after = subst HasLengthOfArray (sym change) (all_at HasLengthOfArray heap.objects at o holds.1.arrays there) in
      subst (λ (os : List HeapObject). Holds (record heap { objects = os })) (sym set) (
        set_object heap holds.0 at after fits,
        record { arrays = all_set HasLengthOfArray heap.objects at after holds.1.arrays has_length },
        changed_ends heap holds.2 at o after there (ap (λ (p : HeapObject). p.prototype) change) (ap (λ (p : HeapObject). p.inner) change),
      )

  -- a scope with another value in a slot
  pub slot_changed : (at slot : ℕ) (v : Value) (s after : Scope) (scopes : List Scope) → slice_get heap.scopes at ≡ Some s
      → after ≡ record s { slots = slice_set s.slots slot v } → FitsValue (sizes heap) v → scopes ≡ slice_set heap.scopes at after → Holds (record heap { scopes = scopes })
  slot_changed at slot v s after scopes there change here set = (
    changed_scope heap holds.0 at slot v s after scopes there change here set,
    record { arrays = holds.1.arrays },
    subst (λ (ss : List Scope). HasEnds (record heap { scopes = ss })) (sym set) (slot_ends heap holds.2 at s after there (ap (λ (p : Scope). p.parent) change)),
  )
