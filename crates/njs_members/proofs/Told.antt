-- How changes of an object's properties tell what the definitions give.
use Rattle.std.proofs.Common.{◌≡◌, ℕ, zero, suc, List, [], ◌∷◌, Option, Some, None, Result, Ok, Err, map, ap, refl, sym, ◌∙◌, slice_get, slice_set}
use Rattle.std.specs.Option.{option_map_or}
use Rattle.njs_value.specs.declared.HeapStop.{HeapStop}
use Rattle.njs_value.specs.declared.HeapStop.TheVariants.{Throw, NoMemory}
use Rattle.njs_value.specs.declared.Value.{Value}
use Rattle.njs_shared.specs.Heap.{Heap, HeapObject}
use Rattle.njs_clone.specs.Content.{content}
use Rattle.njs_clone.specs.Gives.{GivesAt}
use Rattle.njs_clone.specs.StandsFor.{mapped_change, content_objects, plain_objects, GoByContent}
use Rattle.njs_meaning.specs.Values.{PlainValue}
use Rattle.njs_meaning.specs.PlainHeap.{PlainObject}
use Rattle.njs_meaning.specs.Properties.{Properties, Change}
use Rattle.njs_meaning.specs.Objects.{with_props}
use Rattle.njs_meaning.specs.State.{State, Gives}
use Rattle.njs_meaning.specs.Errors.{throw}
use Rattle.njs_meaning.specs.Running.{changed}
use Rattle.njs_members.specs.Gains.{KeepsRest}
use Rattle.njs_members.specs.Tells.{Tells}

module _ (h : Heap) (law : GoByContent h) (at : ℕ) (change : Change Value) (plain : List PlainObject → Change PlainValue) (same : plain (plain_objects h) ≡ mapped_change (content h.texts) change) (given : PlainValue) where
  abbrev after : State → State
  after s = record s { objects = content_objects h.texts (with_props h.objects at change.props) }

  -- what the definition gives, by the change of the heap
  given_by : (s : State) → s.objects ≡ plain_objects h → changed at (plain s.objects) (Gives given) s ≡ option_map_or (λ cause. throw cause (after s)) change.thrown (Gives given (after s))
  given_by s stands =
      ap (λ os. changed at (plain os) (Gives given) (record s { objects = os })) stands
      ∙ ap (λ c. changed at c (Gives given) (record s { objects = plain_objects h })) same
      ∙ ap (λ os. option_map_or (λ cause. throw cause (record s { objects = os })) change.thrown (Gives given (record s { objects = os }))) (law.changed at change.props)

  pub change-told : {A : Type 0} (k : Heap) (r : Result A HeapStop) → GivesAt change at h k r → Tells given (λ s. changed at (plain s.objects) (Gives given) s) h k r
  change-told k (Ok answer) is = λ s stands.
      given_by s stands ∙ ap (λ t. option_map_or (λ cause. throw cause (after s)) t (Gives given (after s))) is.0
      ∙ ap (λ (m : Heap). Gives given (record s { objects = plain_objects m })) (sym is.1)
  change-told k (Err (Throw cause)) is = λ s stands.
      given_by s stands ∙ ap (λ t. option_map_or (λ cause. throw cause (after s)) t (Gives given (after s))) is.0
      ∙ ap (λ (m : Heap). throw {A = PlainValue} cause (record s { objects = plain_objects m })) (sym is.1)
  change-told k (Err NoMemory) is = is

-- ---- what stays

set_keeps : (os : List HeapObject) (at : ℕ) (o : HeapObject) (props : Properties Value) → slice_get os at ≡ Some o
    → map (λ (o : HeapObject). o.inner) (slice_set os at (record o { props = props })) ≡ map (λ (o : HeapObject). o.inner) os
set_keeps [] at o props there = refl
set_keeps (p ∷ os) zero o props there = let same : p ≡ o = cc in ap (λ (q : HeapObject). q.inner ∷ map (λ (o : HeapObject). o.inner) os) (sym same)
set_keeps (p ∷ os) (suc at) o props there = ap (λ is. p.inner ∷ is) (set_keeps os at o props there)

inner_kept : (os : List HeapObject) (at : ℕ) (props : Properties Value) → map (λ (o : HeapObject). o.inner) (with_props os at props) ≡ map (λ (o : HeapObject). o.inner) os
inner_kept os at props = by (slice_get os at) refl
  where
    by : (r : Option HeapObject) → slice_get os at ≡ r
        → map (λ (o : HeapObject). o.inner) (option_map_or (λ (o : HeapObject). slice_set os at (record o { props = props })) r os) ≡ map (λ (o : HeapObject). o.inner) os
    by None is = refl
    by (Some o) is = set_keeps os at o props is

pub keeps-all : (h : Heap) → KeepsRest h h
keeps-all h = record { scopes = refl; texts = refl; inner = refl }

keeps_changed : (h k : Heap) (at : ℕ) (props : Properties Value) → k ≡ record h { objects = with_props h.objects at props } → KeepsRest h k
keeps_changed h k at props is = record {
  scopes = ap (λ (m : Heap). m.scopes) is;
  texts = ap (λ (m : Heap). m.texts) is;
  inner = ap (λ (m : Heap). map (λ (o : HeapObject). o.inner) m.objects) is ∙ inner_kept h.objects at props;
}

pub change-keeps : {A : Type 0} (h k : Heap) (at : ℕ) (change : Change Value) (r : Result A HeapStop) → GivesAt change at h k r → KeepsRest h k
change-keeps h k at change (Ok answer) is = keeps_changed h k at change.props is.1
change-keeps h k at change (Err (Throw cause)) is = keeps_changed h k at change.props is.1
change-keeps h k at change (Err NoMemory) is = record {
  scopes = ap (λ (m : Heap). m.scopes) is;
  texts = ap (λ (m : Heap). m.texts) is;
  inner = ap (λ (m : Heap). map (λ (o : HeapObject). o.inner) m.objects) is;
}
