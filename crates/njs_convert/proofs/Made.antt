-- A new error, by content.
use Rattle.std.proofs.Common.{◌≡◌, ℕ, zero, suc, ◌<◌, List, [], ◌∷◌, ◌++◌, Some, length, map, slice_get, sym, ap, refl, ◌∙◌, subst, arith, length-append, true}
use Rattle.std.specs.Prelude.{slice_index_or}
use Rattle.std.specs.List.{AllByRecursion}
use Rattle.njs_value.specs.declared.Cause.{Cause}
use Rattle.njs_value.specs.declared.Class.TheVariants.{Error}
use Rattle.njs_value.specs.declared.ObjId.{ObjId}
use Rattle.njs_value.specs.declared.TextId.{TextId}
use Rattle.njs_value.specs.declared.Value.{Value}
use Rattle.njs_value.specs.declared.Value.TheVariants as value
use Rattle.njs_props.specs.declared.map.Property.{Property}
use Rattle.njs_shared.specs.declared.object.Inner.{Inner}
use Rattle.njs_shared.specs.declared.object.Inner.TheVariants as inner
use Rattle.njs_shared.specs.Heap.{Heap, HeapObject, Sizes, sizes}
use Rattle.njs_shared.specs.Fits.{FitsValue, FitsInner, FitsProperties, FitsObject, FitsHeap}
use Rattle.njs_clone.specs.Content.{content}
use Rattle.njs_clone.specs.Created.{with_object_of}
use Rattle.njs_clone.specs.StandsFor.{mapped, mapped_all, mapped_object, content_inner, content_objects, plain_objects}
use Rattle.njs_meaning.specs.declared.prototypes.Prototype.TheVariants.{Error as ErrorPrototype}
use Rattle.njs_meaning.specs.Primitives.{Characters}
use Rattle.njs_meaning.specs.Values.{PlainValue, Simple}
use Rattle.njs_meaning.specs.PlainHeap.{PlainObject, PlainInner, Bound}
use Rattle.njs_meaning.specs.Errors.{place_of, prototype_of, message_of, error_with}
use Rattle.njs_convert.specs.Tells.{text_at, message_props, MadeError}
use Rattle.njs_convert.proofs.Grown.{heap_with}

-- ---- what was there stays where a text comes behind the others
pub kept_at : (xs ys : List (List ℕ)) (i : ℕ) → i < length xs → slice_index_or (xs ++ ys) i [] ≡ slice_index_or xs i []
kept_at [] ys i h = absurd (omega arith)
kept_at (x ∷ xs) ys zero h = refl
kept_at (x ∷ xs) ys (suc i) h = kept_at xs ys i (omega arith)

pub last_at : (xs : List (List ℕ)) (y : List ℕ) → slice_index_or (xs ++ y ∷ []) (length xs) [] ≡ y
last_at [] y = refl
last_at (x ∷ xs) y = last_at xs y

unfoldable built : HeapObject → List (List ℕ × Property PlainValue) → PlainInner → PlainObject
built o props i = record { class = o.class; prototype = o.prototype; extensible = o.extensible; props = props; inner = i }

module _ (texts more : List (List ℕ)) (n : Sizes) (e : n.texts ≡ length texts) where
  content_kept : (v : Value) → FitsValue n v → content (texts ++ more) v ≡ content texts v
  content_kept value.Undefined fits = refl
  content_kept value.Null fits = refl
  content_kept (value.Bool b) fits = refl
  content_kept (value.Num i) fits = refl
  content_kept (value.Str t) fits = ap (λ x. Simple (Characters x)) (kept_at texts more t.0 (omega arith))
  content_kept (value.Obj o) fits = refl

  args_kept : (vs : List Value) → AllByRecursion (FitsValue n) vs → map (content (texts ++ more)) vs ≡ map (content texts) vs
  args_kept [] fits = refl
  args_kept (v ∷ vs) fits =
      ap (λ x. x ∷ map (content (texts ++ more)) vs) (content_kept v fits.0) ∙ ap (λ xs. content texts v ∷ xs) (args_kept vs fits.1)

  inner_kept : (i : Inner) → FitsInner n i → content_inner (texts ++ more) i ≡ content_inner texts i
  inner_kept inner.Plain fits = refl
  inner_kept (inner.Script unit code scope) fits = refl
  inner_kept (inner.BuiltIn row) fits = refl
  inner_kept (inner.Bound target this args) fits =
      ap (λ x. Bound target x (map (content (texts ++ more)) args)) (content_kept this fits.1) ∙ ap (λ xs. Bound target (content texts this) xs) (args_kept args fits.2)
  inner_kept (inner.ZoneNumber zone) fits = refl

  props_kept : (ps : List (List ℕ × Property Value)) → FitsProperties n ps → mapped_all (content (texts ++ more)) ps ≡ mapped_all (content texts) ps
  props_kept [] fits = refl
  props_kept (p ∷ ps) fits =
      ap (λ (x : PlainValue). (p.0, record { value = x; flags = p.1.flags }) ∷ mapped_all (content (texts ++ more)) ps) (content_kept p.1.value fits.0)
      ∙ ap (λ (rest : List (List ℕ × Property PlainValue)). (p.0, mapped (content texts) p.1) ∷ rest) (props_kept ps fits.1)

  object_kept : (o : HeapObject) → FitsObject n o → mapped_object (content (texts ++ more)) (content_inner (texts ++ more)) o ≡ mapped_object (content texts) (content_inner texts) o
  unfolding built
  object_kept o fits =
      ap (λ ps. built o ps (content_inner (texts ++ more) o.inner)) (props_kept o.props fits.props) ∙ ap (λ i. built o (mapped_all (content texts) o.props) i) (inner_kept o.inner fits.inner)

  pub objects_kept : (os : List HeapObject) → AllByRecursion (FitsObject n) os → content_objects (texts ++ more) os ≡ content_objects texts os
  objects_kept [] fits = refl
  objects_kept (o ∷ os) fits =
      ap (λ x. x ∷ content_objects (texts ++ more) os) (object_kept o fits.0) ∙ ap (λ xs. mapped_object (content texts) (content_inner texts) o ∷ xs) (objects_kept os fits.1)

-- ---- the last object
pub push_get : {X : Type 0} (xs : List X) (x : X) → slice_get (xs ++ x ∷ []) (length xs) ≡ Some x
push_get [] x = refl
push_get (y ∷ ys) x = push_get ys x

-- ---- the whole
abbrev pub error_object : ObjId → TextId → HeapObject
error_object up text = record { class = Error; prototype = Some up; extensible = true; props = message_props (value.Str text); inner = inner.Plain }

module _ (h a b : Heap) (message : List ℕ) (text : TextId) (props : List (List ℕ × Property Value)) (up : ObjId) (at : ℕ) (first : a ≡ heap_with h h.objects (h.texts ++ message ∷ []))
    (same : props ≡ message_props (value.Str text)) (second : b ≡ record a { objects = with_object_of Error (Some up) props inner.Plain a.objects }) (last : at ≡ length a.objects) where
  pub made_second : b ≡ heap_with h (h.objects ++ error_object up text ∷ []) (h.texts ++ message ∷ [])
  made_second =
      second ∙ ap (λ ps. heap_with a (with_object_of Error (Some up) ps inner.Plain a.objects) a.texts) same
      ∙ ap (λ (m : Heap). heap_with m (with_object_of Error (Some up) (message_props (value.Str text)) inner.Plain m.objects) m.texts) first

  pub made_at : at ≡ length h.objects
  made_at = last ∙ ap (λ (m : Heap). length m.objects) first

-- the message is one of the heap's texts
pub message_fits : (h a : Heap) (message : List ℕ) (text : TextId) (props : List (List ℕ × Property Value)) → a ≡ heap_with h h.objects (h.texts ++ message ∷ []) → text.0 ≡ length h.texts
    → props ≡ message_props (value.Str text) → FitsProperties (sizes a) props
message_fits h a message text props first numbered same =
    let within : text.0 < length a.texts = omega (arith, numbered, ap (λ (m : Heap). length m.texts) first, length-append h.texts (message ∷ [])) in
    subst (FitsProperties (sizes a)) (sym same) (within, tt)

pub map-push : (f : HeapObject → PlainObject) (xs : List HeapObject) (x : HeapObject) → map f (xs ++ x ∷ []) ≡ map f xs ++ f x ∷ []
map-push f [] x = refl
map-push f (y ∷ ys) x = ap (λ t. f y ∷ t) (map-push f ys x)

unfoldable error_at : ObjId → List ℕ → PlainObject
error_at up message = record (error_with ErrorPrototype message) { prototype = Some up }

pub made_error : (cause : Cause) (h c : Heap) (text : TextId) (place at : ℕ) → FitsHeap h → text.0 ≡ length h.texts → place ≡ place_of (prototype_of cause) → at ≡ length h.objects
    → c ≡ heap_with h (h.objects ++ error_object (record { 0 = place }) text ∷ []) (h.texts ++ message_of (text_at h.texts) cause ∷ []) → MadeError cause h c at
unfolding error_at
made_error cause h c text place at fits numbered placed last is =
    let message = message_of (text_at h.texts) cause in
    let texts = h.texts ++ message ∷ [] in
    let read : slice_index_or texts text.0 [] ≡ message = ap (λ i. slice_index_or texts i []) numbered ∙ last_at h.texts message in
    record {
      last = last;
      within = omega (arith, last, ap (λ (m : Heap). length m.objects) is, length-append h.objects (error_object (record { 0 = place }) text ∷ []));
      objects =
          ap plain_objects is ∙ map-push (mapped_object (content texts) (content_inner texts)) h.objects (error_object (record { 0 = place }) text)
          ∙ ap (λ os. os ++ error_at (record { 0 = place }) (slice_index_or texts text.0 []) ∷ []) (objects_kept h.texts (message ∷ []) (sizes h) refl h.objects fits.objects)
          ∙ ap (λ m. plain_objects h ++ error_at (record { 0 = place }) m ∷ []) read
          ∙ ap (λ p. plain_objects h ++ error_at (record { 0 = p }) message ∷ []) placed;
    }
