-- A function is made: two objects, of which the first gets its `prototype`.
use Rattle.std.proofs.Common.{◌≡◌, ℕ, ◌+◌, List, [], ◌∷◌, ◌++◌, Option, Some, length, map, ap, refl, sym, ◌∙◌, subst, slice_get, slice_set, append_assoc, arith}
use Rattle.std.specs.Prelude.{pos}
use Rattle.std.specs.List.{AllByRecursion}
use Rattle.std.specs.Option.{option_map, option_map_or, option_and_then}
use Rattle.std.proofs.lemmas.List.{append-nil, map-append, length-map}
use Rattle.std.proofs.lemmas.Option.{slice_get-map}
use Rattle.njs_value.specs.declared.Class.TheVariants as class
use Rattle.njs_value.specs.declared.ObjId.{ObjId}
use Rattle.njs_value.specs.declared.ScopeId.{ScopeId}
use Rattle.njs_value.specs.declared.Value.{Value}
use Rattle.njs_value.specs.declared.Value.TheVariants as value
use Rattle.njs_props.specs.Names.{length_name}
use Rattle.njs_props.specs.Props.{property}
use Rattle.njs_shared.specs.declared.object.Inner.{Inner}
use Rattle.njs_shared.specs.declared.object.Inner.TheVariants as inner
use Rattle.njs_shared.specs.Heap.{Heap, HeapObject}
use Rattle.njs_clone.specs.Content.{content, same_value, given, stored, written}
use Rattle.njs_clone.specs.Created.{object_of}
use Rattle.njs_clone.specs.Gives.{define_in}
use Rattle.njs_clone.specs.StandsFor.{mapped_object, content_inner, content_objects, plain_objects}
use Rattle.njs_meaning.specs.Functions.{prototype_name, function_object, prototype_object, no_flags}
use Rattle.njs_meaning.specs.Objects.{define, gives_other, with_props}
use Rattle.njs_meaning.specs.PlainHeap.{Script}
use Rattle.njs_meaning.specs.Properties.{Change, done, only_writable}
use Rattle.njs_members.specs.Gains.{KeepsRest}
use Rattle.njs_interp.specs.Grown.{SameInner}
use Rattle.njs_interp.specs.Making.{length_props, constructor_props, prototype_desc, IsMade, MakesFunction}
use Rattle.njs_interp.proofs.Kept.{all-joined, front-at, behind-at, map-at}

-- ---- what is added

abbrev pub inners : List HeapObject → List Inner
inners os = map (λ (o : HeapObject). o.inner) os

pub record Adds (unit number : ℕ) (scope : ScopeId) (old new : Heap) : Type 0 where
  pub scopes : new.scopes ≡ old.scopes
  pub texts : new.texts ≡ old.texts
  pub others : List Inner
  pub made : AllByRecursion (IsMade unit number scope) others
  pub inner : map (λ (o : HeapObject). o.inner) new.objects ≡ map (λ (o : HeapObject). o.inner) old.objects ++ others

module _ (unit number : ℕ) (scope : ScopeId) where
  pub adds-nothing : (h k : Heap) → k ≡ h → Adds unit number scope h k
  adds-nothing h k is = subst (Adds unit number scope h) (sym is) (record { scopes = refl; texts = refl; others = []; made = tt; inner = sym (append-nil (inners h.objects)) })

  pub adds-kept : (h k : Heap) → KeepsRest h k → Adds unit number scope h k
  adds-kept h k keeps = record { scopes = keeps.scopes; texts = keeps.texts; others = []; made = tt; inner = keeps.inner ∙ sym (append-nil (inners h.objects)) }

  pub adds-object : (h k : Heap) (o : HeapObject) → IsMade unit number scope o.inner → k ≡ record h { objects = h.objects ++ o ∷ [] } → Adds unit number scope h k
  adds-object h k o made is = subst (Adds unit number scope h) (sym is) (record {
    scopes = refl;
    texts = refl;
    others = o.inner ∷ [];
    made = (made, tt);
    inner = map-append (λ (o : HeapObject). o.inner) h.objects (o ∷ []);
  })

  pub adds-trans : (h k l : Heap) → Adds unit number scope h k → Adds unit number scope k l → Adds unit number scope h l
  adds-trans h k l a b = record {
    scopes = b.scopes ∙ a.scopes;
    texts = b.texts ∙ a.texts;
    others = a.others ++ b.others;
    made = all-joined (IsMade unit number scope) a.others b.others a.made b.made;
    inner = b.inner ∙ ap (λ is. is ++ b.others) a.inner ∙ append_assoc (inners h.objects) a.others b.others;
  }

  module _ (h k : Heap) (adds : Adds unit number scope h k) where
    object_kept : (at : ℕ) (o : HeapObject) → slice_get h.objects at ≡ Some o → SameInner o k.objects at
    object_kept at o there =
        let before : slice_get (inners h.objects) at ≡ Some o.inner = slice_get-map (λ (o : HeapObject). o.inner) h.objects at ∙ ap (option_map (λ (o : HeapObject). o.inner)) there in
        let after : slice_get (inners k.objects) at ≡ Some o.inner = ap (λ is. slice_get is at) adds.inner ∙ front-at (inners h.objects) adds.others at o.inner before in
        let found = map-at (λ (o : HeapObject). o.inner) k.objects at o.inner after in
        record { now = found.0; there = found.1; inner = found.2 }

    pub adds-makes : MakesFunction unit number scope h k
    adds-makes = record {
      widens = record {
        scopes = λ at scope there. record { now = scope; there = ap (λ ss. slice_get ss at) adds.scopes ∙ there; parent = refl; slots = refl };
        objects = object_kept;
        more = [];
        texts = adds.texts ∙ sym (append-nil h.texts);
      };
      scopes = adds.scopes;
      fresh = λ at o there far.
          behind-at (IsMade unit number scope) (inners h.objects) adds.others at o.inner
          (ap (λ is. slice_get is at) (sym adds.inner) ∙ slice_get-map (λ (o : HeapObject). o.inner) k.objects at ∙ ap (option_map (λ (o : HeapObject). o.inner)) there)
          (omega (arith, far, length-map h.objects (λ (o : HeapObject). o.inner))) adds.made;
    }

-- ---- the two objects

next_to_last : {X : Type 0} (xs : List X) (x y : X) → slice_get ((xs ++ x ∷ []) ++ y ∷ []) (length xs) ≡ Some x
next_to_last [] x y = refl
next_to_last (z ∷ xs) x y = next_to_last xs x y

next_to_last_set : {X : Type 0} (xs : List X) (x y z : X) → slice_set ((xs ++ x ∷ []) ++ y ∷ []) (length xs) z ≡ (xs ++ z ∷ []) ++ y ∷ []
next_to_last_set [] x y z = refl
next_to_last_set (w ∷ xs) x y z = ap (λ ws. w ∷ ws) (next_to_last_set xs x y z)

abbrev pub first_object : ℕ → ℕ → ℕ → ScopeId → HeapObject
first_object unit number params scope = object_of class.Function (Some (record { 0 = 1 })) (length_props params) (inner.Script unit number scope)

abbrev pub whole_object : ℕ → ℕ → ℕ → ScopeId → ObjId → HeapObject
whole_object unit number params scope p =
    object_of class.Function (Some (record { 0 = 1 }))
    ((length_name, record { value = value.Num (pos params); flags = no_flags }) ∷ (prototype_name, record { value = value.Obj p; flags = only_writable }) ∷ []) (inner.Script unit number scope)

abbrev pub second_object : ObjId → HeapObject
second_object f = object_of class.Object (Some (record { 0 = 0 })) (constructor_props f) inner.Plain

module _ (h : Heap) (unit number params : ℕ) (scope : ScopeId) (f p : ObjId) (at : f.0 ≡ length h.objects) where
  abbrev pub both : Heap
  both = record h { objects = (h.objects ++ first_object unit number params scope ∷ []) ++ second_object f ∷ [] }

  abbrev changed_by : HeapObject → Change Value
  changed_by o =
      define stored written value.Undefined (option_and_then (given h.texts) (prototype_desc p).value) (gives_other (same_value h.texts) (prototype_desc p) (property prototype_name o.props)) o.class o.extensible
      prototype_name (prototype_desc p) o.props

  abbrev changed_in : Option HeapObject → List HeapObject
  changed_in r = option_map_or (λ (o : HeapObject). slice_set both.objects f.0 (record o { props = (option_map_or changed_by r (done [])).props })) r both.objects

  there : slice_get both.objects f.0 ≡ Some (first_object unit number params scope)
  there = ap (slice_get both.objects) at ∙ next_to_last h.objects (first_object unit number params scope) (second_object f)

  pub changed-both : with_props both.objects f.0 (define_in both f.0 prototype_name (prototype_desc p)).props ≡ (h.objects ++ whole_object unit number params scope p ∷ []) ++ second_object f ∷ []
  changed-both =
      ap changed_in there
      ∙ ap (λ n. slice_set both.objects n (whole_object unit number params scope p)) at
      ∙ next_to_last_set h.objects (first_object unit number params scope) (second_object f) (whole_object unit number params scope p)

  -- by content
  pub both-plain : (count : ℕ) → length h.objects ≡ count → p.0 ≡ length h.objects + 1
      → content_objects h.texts ((h.objects ++ whole_object unit number params scope p ∷ []) ++ second_object f ∷ [])
      ≡ (plain_objects h ++ function_object params (count + 1) (Script unit number scope) ∷ []) ++ prototype_object count ∷ []
  both-plain count counted next =
      map-append (mapped_object (content h.texts) (content_inner h.texts)) (h.objects ++ whole_object unit number params scope p ∷ []) (second_object f ∷ [])
      ∙ ap (λ os. os ++ prototype_object f.0 ∷ []) (map-append (mapped_object (content h.texts) (content_inner h.texts)) h.objects (whole_object unit number params scope p ∷ []))
      ∙ ap (λ n. (plain_objects h ++ function_object params n (Script unit number scope) ∷ []) ++ prototype_object f.0 ∷ []) (next ∙ ap (λ n. n + 1) counted)
      ∙ ap (λ n. (plain_objects h ++ function_object params (count + 1) (Script unit number scope) ∷ []) ++ prototype_object n ∷ []) (at ∙ counted)
