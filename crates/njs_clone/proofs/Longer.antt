-- More texts change no value.
use Rattle.std.proofs.Common.{◌≡◌, ℕ, zero, suc, ◌+◌, ◌<◌, List, [], ◌∷◌, ◌++◌, length, map, ap, refl, ◌∙◌, arith, slice_index_or}
use Rattle.std.specs.List.{AllByRecursion}
use Rattle.njs_value.specs.declared.Value.{Value}
use Rattle.njs_value.specs.declared.Value.TheVariants as value
use Rattle.njs_props.specs.declared.map.Property.{Property}
use Rattle.njs_shared.specs.Heap.{Heap, HeapObject, Sizes, sizes}
use Rattle.njs_shared.specs.Fits.{FitsValue, FitsInner, FitsProperties, FitsObject, FitsHeap}
use Rattle.njs_shared.specs.declared.object.Inner.{Inner}
use Rattle.njs_shared.specs.declared.object.Inner.TheVariants as inner
use Rattle.njs_meaning.specs.PlainHeap.{PlainInner, PlainObject, Bound}
use Rattle.njs_meaning.specs.Primitives.{Characters}
use Rattle.njs_meaning.specs.Properties.{Properties}
use Rattle.njs_meaning.specs.Values.{PlainValue, Simple}
use Rattle.njs_clone.specs.Content.{content}
use Rattle.njs_clone.specs.StandsFor.{mapped_all, mapped_object, content_inner, content_objects}

in_front : (texts more : List (List ℕ)) (i : ℕ) → i < length texts → slice_index_or (texts ++ more) i [] ≡ slice_index_or texts i []
in_front [] more i within = absurd (omega arith)
in_front (t ∷ texts) more zero within = refl
in_front (t ∷ texts) more (suc i) within = in_front texts more i (omega arith)

module _ (n : Sizes) (texts more : List (List ℕ)) (few : n.texts ≡ length texts) where
  value_same : (v : Value) → FitsValue n v → content (texts ++ more) v ≡ content texts v
  value_same value.Undefined fits = refl
  value_same value.Null fits = refl
  value_same (value.Bool b) fits = refl
  value_same (value.Num i) fits = refl
  value_same (value.Str t) fits = ap (λ s. Simple (Characters s)) (in_front texts more t.0 (omega (arith, fits, few)))
  value_same (value.Obj o) fits = refl

  values_same : (vs : List Value) → AllByRecursion (FitsValue n) vs → map (content (texts ++ more)) vs ≡ map (content texts) vs
  values_same [] all = refl
  values_same (v ∷ vs) all = ap (λ w. w ∷ map (content (texts ++ more)) vs) (value_same v all.0) ∙ ap (λ ws. content texts v ∷ ws) (values_same vs all.1)

  properties_same : (es : Properties Value) → FitsProperties n es → mapped_all (content (texts ++ more)) es ≡ mapped_all (content texts) es
  properties_same [] all = refl
  properties_same (e ∷ es) all =
      ap (λ v. (e.0, record { value = v; flags = e.1.flags }) ∷ mapped_all (content (texts ++ more)) es) (value_same e.1.value all.0)
      ∙ ap (λ t. (e.0, record { value = content texts e.1.value; flags = e.1.flags }) ∷ t) (properties_same es all.1)

  inner_same : (i : Inner) → FitsInner n i → content_inner (texts ++ more) i ≡ content_inner texts i
  inner_same inner.Plain fits = refl
  inner_same (inner.Script unit code scope) fits = refl
  inner_same (inner.BuiltIn row) fits = refl
  inner_same (inner.Bound target this args) fits =
      ap (λ v. Bound target v (map (content (texts ++ more)) args)) (value_same this fits.1) ∙ ap (λ vs. Bound target (content texts this) vs) (values_same args fits.2)
  inner_same (inner.ZoneNumber zone) fits = refl

  object_same : (o : HeapObject) → FitsObject n o → mapped_object (content (texts ++ more)) (content_inner (texts ++ more)) o ≡ mapped_object (content texts) (content_inner texts) o
  object_same o fits =
      ap (λ (i : PlainInner). record (mapped_object (content (texts ++ more)) (content_inner (texts ++ more)) o) { inner = i }) (inner_same o.inner fits.inner)
      ∙ ap (λ (ps : Properties PlainValue). record (mapped_object (content texts) (content_inner texts) o) { props = ps }) (properties_same o.props fits.props)

  pub objects_same : (os : List HeapObject) → AllByRecursion (FitsObject n) os → content_objects (texts ++ more) os ≡ content_objects texts os
  objects_same [] all = refl
  objects_same (o ∷ os) all = ap (λ p. p ∷ content_objects (texts ++ more) os) (object_same o all.0) ∙ ap (λ ps. mapped_object (content texts) (content_inner texts) o ∷ ps) (objects_same os all.1)
