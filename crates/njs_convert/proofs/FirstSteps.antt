-- The rows of the first heap's table, one after another.
use Rattle.std.proofs.Common.{◌≡◌, ℕ, suc, ◌<◌, ◌≤◌, ◌+◌, List, [], ◌∷◌, ◌++◌, Option, Some, None, Bool, true, length, map, sym, ap, refl, ◌∙◌, arith, append_assoc, length-append, subst}
use Rattle.std.specs.Prelude.{nat_lt, nat_le, ◌&&◌, slice_index_or, replicate, fold, codes}
use Rattle.std.specs.Option.{option_map, option_map_or, ForSome}
use Rattle.std.proofs.lemmas.Bool.{and_parts, ltb-true, leb-true}
use Rattle.njs_value.specs.declared.Class.{Class}
use Rattle.njs_value.specs.declared.Class.TheVariants.{Error}
use Rattle.njs_value.specs.declared.ObjId.{ObjId}
use Rattle.njs_value.specs.declared.ScopeId.{ScopeId}
use Rattle.njs_value.specs.declared.TextId.{TextId}
use Rattle.njs_value.specs.declared.Value.{Value}
use Rattle.njs_value.specs.declared.Value.TheVariants as value
use Rattle.njs_props.specs.declared.map.Property.{Property}
use Rattle.njs_shared.specs.declared.object.Inner.TheVariants as inner
use Rattle.njs_shared.specs.Heap.{Heap, HeapObject, sizes}
use Rattle.njs_shared.specs.Fits.{FitsHeap}
use Rattle.njs_clone.specs.Content.{content, written}
use Rattle.njs_clone.specs.Created.{with_object_of}
use Rattle.njs_clone.specs.Scopes.{with_new_scope}
use Rattle.njs_clone.specs.StandsFor.{plain_objects, content_objects, content_inner, mapped_object, GoByContent}
use Rattle.njs_meaning.specs.declared.prototypes.Prototype.{Prototype}
use Rattle.njs_meaning.specs.Primitives.{Undefined}
use Rattle.njs_meaning.specs.Values.{Simple, length_value}
use Rattle.njs_meaning.specs.PlainHeap.{PlainObject, Plain, Variable}
use Rattle.njs_meaning.specs.Objects.{with_new_object}
use Rattle.njs_meaning.specs.Errors.{place_of}
use Rattle.njs_convert.specs.declared.first.FirstObject.{FirstObject}
use Rattle.njs_convert.specs.FirstHeap.{object_of, prototype_object, text_property, error_prototype, further_variable, first_scope, slots_of, nameless, first_objects, first_heap, StandsFor}
use Rattle.njs_convert.specs.FirstRows.{named_props, with_plain, made, HasMade}
use Rattle.njs_convert.proofs.Made.{last_at, kept_at, objects_kept, map-push}

-- ---- objects

pub plain_made : (h k : Heap) (class : Class) (up : Option Prototype) (above : Option ObjId) → GoByContent h → above ≡ option_map object_of up
    → k ≡ record h { objects = with_new_object written class above inner.Plain h.objects } → plain_objects k ≡ with_plain class up (plain_objects h)
plain_made h k class up above law same is =
    ap plain_objects is ∙ sym (law.created class above inner.Plain) ∙ ap (λ u. with_new_object length_value class u Plain (plain_objects h)) same

-- where the texts of a prototype of errors stand
abbrev named : Prototype → List ℕ → List ℕ → PlainObject
named up name message = prototype_object Error (Some up) (text_property (codes "name") name ∷ text_property (codes "message") message ∷ [])

module _ (h a b k : Heap) (name wanted message : List ℕ) (first second : TextId) (props : List (List ℕ × Property Value)) (up : Prototype) (above : ObjId)
    (one : a ≡ record h { texts = h.texts ++ name ∷ [] }) (two : b ≡ record a { texts = a.texts ++ message ∷ [] }) (first_is : first.0 ≡ length h.texts) (second_is : second.0 ≡ length a.texts)
    (same : props ≡ named_props (value.Str first) (value.Str second)) where
  both : b ≡ record h { texts = (h.texts ++ name ∷ []) ++ message ∷ [] }
  both = two ∙ ap (λ (m : Heap). record m { texts = m.texts ++ message ∷ [] }) one

  second_at : second.0 ≡ length (h.texts ++ name ∷ [])
  second_at = second_is ∙ ap (λ (m : Heap). length m.texts) one

  pub errors_made : FitsHeap h → name ≡ wanted → message ≡ [] → above ≡ object_of up → k ≡ record b { objects = with_object_of Error (Some above) props inner.Plain b.objects }
      → plain_objects k ≡ plain_objects h ++ error_prototype up wanted ∷ []
  errors_made fits is_name is_message is_above is =
      let texts = (h.texts ++ name ∷ []) ++ message ∷ [] in
      let f = mapped_object (content texts) (content_inner texts) in
      let o : HeapObject = record { class = Error; prototype = Some above; extensible = true; props = named_props (value.Str first) (value.Str second); inner = inner.Plain } in
      let read_first : slice_index_or texts first.0 [] ≡ name =
      ap (λ i. slice_index_or texts i []) first_is
      ∙ kept_at (h.texts ++ name ∷ []) (message ∷ []) (length h.texts) (omega (arith, length-append h.texts (name ∷ []))) ∙ last_at h.texts name
      in
      let read_second : slice_index_or texts second.0 [] ≡ message = ap (λ i. slice_index_or texts i []) second_at ∙ last_at (h.texts ++ name ∷ []) message in
      let kept : content_objects texts h.objects ≡ plain_objects h =
      ap (λ ts. content_objects ts h.objects) (append_assoc h.texts (name ∷ []) (message ∷ [])) ∙ objects_kept h.texts (name ∷ message ∷ []) (sizes h) refl h.objects fits.objects
      in
      ap plain_objects (is ∙ ap (λ ps. record b { objects = with_object_of Error (Some above) ps inner.Plain b.objects }) same
      ∙ ap (λ (m : Heap). record m { objects = with_object_of Error (Some above) (named_props (value.Str first) (value.Str second)) inner.Plain m.objects }) both)
      ∙ map-push f h.objects o
      ∙ ap (λ os. os ++ f o ∷ []) kept
      ∙ ap (λ (p : ObjId). plain_objects h ++ mapped_object (content texts) (content_inner texts) (record o { prototype = Some p }) ∷ []) is_above
      ∙ ap (λ t. plain_objects h ++ named up t (slice_index_or texts second.0 []) ∷ []) (read_first ∙ is_name)
      ∙ ap (λ t. plain_objects h ++ named up wanted t ∷ []) (read_second ∙ is_message)

-- what must be so of a row that fits
pub plain_fits : (n : ℕ) (up : Option Prototype) → option_map_or (λ up. nat_lt (place_of up) n) up true ≡ true → ForSome up (λ up. place_of up < n)
plain_fits n None e p is = cc
plain_fits n (Some up) e p is = let same : up ≡ p = cc in subst (λ q. place_of q < n) same (ltb-true (place_of up) n e)

pub errors_fit : (n k : ℕ) (up : Prototype) → (nat_lt (place_of up) n && nat_le k 32) ≡ true → (place_of up < n) × (k ≤ 32)
errors_fit n k up e =
    let parts = and_parts (nat_lt (place_of up) n) (nat_le k 32) e in
    (ltb-true (place_of up) n parts.0, leb-true k 32 parts.1)

-- the prototypes that are above stand there
pub above_fits : (n : ℕ) (up : Option Prototype) (above : Option ObjId) → above ≡ option_map object_of up → ForSome up (λ up. place_of up < n) → ForSome above (λ up. up.0 < n)
above_fits n None above e fits p is = cc
above_fits n (Some up) above e fits p is =
    let same : object_of up ≡ p = cc in
    let less : place_of up < n = fits up refl in
    subst (λ (q : ObjId). q.0 < n) same less

-- ---- the outermost scope

all_undefined : (texts : List (List ℕ)) (further : List (List ℕ × Bool)) → map (content texts) (replicate (length further) value.Undefined) ≡ map (λ (v : Variable). v.value) (map further_variable further)
all_undefined texts [] = refl
all_undefined texts (n ∷ ns) = ap (λ vs. Simple Undefined ∷ vs) (all_undefined texts ns)

pub first_slots : (texts : List (List ℕ)) (further : List (List ℕ × Bool)) (slots : ℕ) → slots ≡ 1 + length further → map (slots_of texts) (with_new_scope None slots []) ≡ map nameless (first_scope further ∷ [])
first_slots texts further slots e =
    let more : slots ≡ suc (length further) = omega (arith, e) in
    let none : Option ScopeId = None in
    ap (λ n. map (slots_of texts) (with_new_scope None n [])) more ∙ ap (λ vs. (none, Simple Undefined ∷ vs) ∷ []) (all_undefined texts further)

-- ---- the whole

pub stands_after : (h made_all k : Heap) (rows : List FirstObject) (slots : ℕ) → h.objects ≡ [] → HasMade rows (plain_objects h) (plain_objects made_all)
    → k ≡ record made_all { scopes = with_new_scope None slots [] } → fold made [] rows ≡ first_objects → (further : List (List ℕ × Bool)) → slots ≡ 1 + length further → StandsFor k (first_heap further)
stands_after h made_all k rows slots none first last whole further e = record {
  objects = ap plain_objects last ∙ first.by ∙ ap (λ os. fold made (content_objects h.texts os) rows) none ∙ whole;
  scopes = ap (λ (m : Heap). map (slots_of k.texts) m.scopes) last ∙ first_slots k.texts further slots e;
}
