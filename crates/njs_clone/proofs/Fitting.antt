-- Heaps stay without numbers of what isn't there.
use Rattle.std.proofs.Common.{◌≡◌, ℕ, zero, suc, ◌<◌, ◌≤◌, ◌^◌, List, [], ◌∷◌, ◌++◌, Some, length, length-append, slice_get, slice_set, ap, sym, refl, subst, arith, replicate}
use Rattle.std.specs.List.{AllByRecursion}
use Rattle.njs_value.specs.declared.Value.{Value}
use Rattle.njs_value.specs.declared.Value.TheVariants.{Undefined, Null, Bool, Num, Str, Obj}
use Rattle.njs_props.specs.declared.map.Property.{Property}
use Rattle.njs_shared.specs.declared.object.Inner.{Inner}
use Rattle.njs_shared.specs.declared.object.Inner.TheVariants.{Plain, Script, BuiltIn, Bound, ZoneNumber}
use Rattle.njs_shared.specs.declared.object.Scope.{Scope}
use Rattle.njs_shared.specs.Heap.{Heap, HeapObject, Sizes, sizes}
use Rattle.njs_shared.specs.Fits.{FitsValue, FitsInner, FitsProperties, FitsObject, FitsScope, FitsHeap}
use Rattle.njs_meaning.proofs.Safe.{IsSafe-pos}
use Rattle.njs_clone.specs.Content.{written}

module _ {X : Type 0} (P : X → Type 0) where
  all_more : (Q : X → Type 0) → ((x : X) → P x → Q x) → (xs : List X) → AllByRecursion P xs → AllByRecursion Q xs
  all_more Q more [] all = tt
  all_more Q more (x ∷ xs) all = (more x all.0, all_more Q more xs all.1)

  pub all_push : (xs : List X) (x : X) → AllByRecursion P xs → P x → AllByRecursion P (xs ++ x ∷ [])
  all_push [] x all here = (here, tt)
  all_push (y ∷ ys) x all here = (all.0, all_push ys x all.1 here)

  pub all_set : (xs : List X) (i : ℕ) (x : X) → AllByRecursion P xs → P x → AllByRecursion P (slice_set xs i x)
  all_set [] i x all here = tt
  all_set (y ∷ ys) zero x all here = (here, all.1)
  all_set (y ∷ ys) (suc i) x all here = (all.0, all_set ys i x all.1 here)

  -- of each item, so of the one at a place
  pub all_at : (xs : List X) (i : ℕ) (x : X) → AllByRecursion P xs → slice_get xs i ≡ Some x → P x
  all_at [] i x all at = cc
  all_at (y ∷ ys) zero x all at = let same : y ≡ x = cc in subst P same all.0
  all_at (y ∷ ys) (suc i) x all at = all_at ys i x all.1 at

  pub all_repeated : (n : ℕ) (x : X) → P x → AllByRecursion P (replicate n x)
  all_repeated zero x here = tt
  all_repeated (suc n) x here = (here, all_repeated n x here)

length-set : {X : Type 0} (xs : List X) (i : ℕ) (x : X) → length (slice_set xs i x) ≡ length xs
length-set [] i x = refl
length-set (y ∷ ys) zero x = refl
length-set (y ∷ ys) (suc i) x = ap suc (length-set ys i x)

-- a small number fits
pub written-fits : (n : Sizes) (k : ℕ) → k < 2 ^ 32 → FitsValue n (written k)
written-fits n k small = IsSafe-pos k (omega arith)

-- no fewer objects, scopes and texts
record Grows (n m : Sizes) : Type 0 where
  objects : n.objects ≤ m.objects
  scopes : n.scopes ≤ m.scopes
  texts : n.texts ≤ m.texts

module _ (n m : Sizes) (grows : Grows n m) where
  value_more : (v : Value) → FitsValue n v → FitsValue m v
  value_more Undefined fits = tt
  value_more Null fits = tt
  value_more (Bool b) fits = tt
  value_more (Num i) fits = fits
  value_more (Str t) fits = let more = grows.texts in omega arith
  value_more (Obj o) fits = let more = grows.objects in omega arith

  inner_more : (inner : Inner) → FitsInner n inner → FitsInner m inner
  inner_more Plain fits = tt
  inner_more (Script unit code scope) fits = let more = grows.scopes in omega arith
  inner_more (BuiltIn row) fits = tt
  inner_more (Bound target this args) fits =
      let more = grows.objects in
      let within = fits.0 in
      (omega arith, value_more this fits.1, all_more (FitsValue n) (FitsValue m) value_more args fits.2)
  inner_more (ZoneNumber zone) fits = tt

  object_more : (o : HeapObject) → FitsObject n o → FitsObject m o
  object_more o fits = record {
    prototype = λ up is. let more = grows.objects in let within = fits.prototype up is in omega arith;
    props = all_more (λ e. FitsValue n e.1.value) (λ e. FitsValue m e.1.value) (λ e. value_more e.1.value) o.props fits.props;
    inner = inner_more o.inner fits.inner;
  }

  scope_more : (s : Scope) → FitsScope n s → FitsScope m s
  scope_more s fits = record {
    parent = λ up is. let more = grows.scopes in let within = fits.parent up is in omega arith;
    slots = all_more (FitsValue n) (FitsValue m) value_more s.slots fits.slots;
  }

module _ (heap : Heap) (fits : FitsHeap heap) where
  pub push_object : (o : HeapObject) → FitsObject (sizes heap) o → FitsHeap (record heap { objects = heap.objects ++ o ∷ [] })
  push_object o here =
      let m : Sizes = sizes (record heap { objects = heap.objects ++ o ∷ [] }) in
      let grows : Grows (sizes heap) m = record { objects = omega (arith, length-append heap.objects (o ∷ [])); scopes = omega arith; texts = omega arith } in
      record {
        objects = all_push (FitsObject m) heap.objects o (all_more (FitsObject (sizes heap)) (FitsObject m) (object_more (sizes heap) m grows) heap.objects fits.objects) (object_more (sizes heap) m grows o here);
        scopes = all_more (FitsScope (sizes heap)) (FitsScope m) (scope_more (sizes heap) m grows) heap.scopes fits.scopes;
      }

  pub push_scope : (s : Scope) → FitsScope (sizes heap) s → FitsHeap (record heap { scopes = heap.scopes ++ s ∷ [] })
  push_scope s here =
      let m : Sizes = sizes (record heap { scopes = heap.scopes ++ s ∷ [] }) in
      let grows : Grows (sizes heap) m = record { objects = omega arith; scopes = omega (arith, length-append heap.scopes (s ∷ [])); texts = omega arith } in
      record {
        objects = all_more (FitsObject (sizes heap)) (FitsObject m) (object_more (sizes heap) m grows) heap.objects fits.objects;
        scopes = all_push (FitsScope m) heap.scopes s (all_more (FitsScope (sizes heap)) (FitsScope m) (scope_more (sizes heap) m grows) heap.scopes fits.scopes) (scope_more (sizes heap) m grows s here);
      }

  pub push_text : (t : List ℕ) → FitsHeap (record heap { texts = heap.texts ++ t ∷ [] })
  push_text t =
      let m : Sizes = sizes (record heap { texts = heap.texts ++ t ∷ [] }) in
      let grows : Grows (sizes heap) m = record { objects = omega arith; scopes = omega arith; texts = omega (arith, length-append heap.texts (t ∷ [])) } in
      record {
        objects = all_more (FitsObject (sizes heap)) (FitsObject m) (object_more (sizes heap) m grows) heap.objects fits.objects;
        scopes = all_more (FitsScope (sizes heap)) (FitsScope m) (scope_more (sizes heap) m grows) heap.scopes fits.scopes;
      }

  pub set_object : (at : ℕ) (o : HeapObject) → FitsObject (sizes heap) o → FitsHeap (record heap { objects = slice_set heap.objects at o })
  set_object at o here =
      let m : Sizes = sizes (record heap { objects = slice_set heap.objects at o }) in
      let grows : Grows (sizes heap) m = record { objects = omega (arith, length-set heap.objects at o); scopes = omega arith; texts = omega arith } in
      record {
        objects = all_set (FitsObject m) heap.objects at o (all_more (FitsObject (sizes heap)) (FitsObject m) (object_more (sizes heap) m grows) heap.objects fits.objects) (object_more (sizes heap) m grows o here);
        scopes = all_more (FitsScope (sizes heap)) (FitsScope m) (scope_more (sizes heap) m grows) heap.scopes fits.scopes;
      }

  pub set_scope : (at : ℕ) (s : Scope) → FitsScope (sizes heap) s → FitsHeap (record heap { scopes = slice_set heap.scopes at s })
  set_scope at s here =
      let m : Sizes = sizes (record heap { scopes = slice_set heap.scopes at s }) in
      let grows : Grows (sizes heap) m = record { objects = omega arith; scopes = omega (arith, length-set heap.scopes at s); texts = omega arith } in
      record {
        objects = all_more (FitsObject (sizes heap)) (FitsObject m) (object_more (sizes heap) m grows) heap.objects fits.objects;
        scopes = all_set (FitsScope m) heap.scopes at s (all_more (FitsScope (sizes heap)) (FitsScope m) (scope_more (sizes heap) m grows) heap.scopes fits.scopes) (scope_more (sizes heap) m grows s here);
      }

  -- the property of a name of the object at a place
  pub object_fits : (at : ℕ) (o : HeapObject) → slice_get heap.objects at ≡ Some o → FitsObject (sizes heap) o
  object_fits at o there = all_at (FitsObject (sizes heap)) heap.objects at o fits.objects there

  -- an object with other properties, which fit where those before did
  pub changed_object : (at : ℕ) (o after : HeapObject) (props : List (List ℕ × Property Value)) (objects : List HeapObject) → slice_get heap.objects at ≡ Some o
      → after ≡ record o { props = props } → (FitsProperties (sizes heap) o.props → FitsProperties (sizes heap) props) → objects ≡ slice_set heap.objects at after
      → FitsHeap (record heap { objects = objects })
  changed_object at o after props objects there change keeps set =
      let before = object_fits at o there in
      let new : FitsObject (sizes heap) after = subst (FitsObject (sizes heap)) (sym change) (record { prototype = before.prototype; props = keeps before.props; inner = before.inner }) in
      subst (λ (os : List HeapObject). FitsHeap (record heap { objects = os })) (sym set) (set_object at after new)

  -- a scope with another value in a slot
  pub changed_scope : (at slot : ℕ) (v : Value) (s after : Scope) (scopes : List Scope) → slice_get heap.scopes at ≡ Some s
      → after ≡ record s { slots = slice_set s.slots slot v } → FitsValue (sizes heap) v → scopes ≡ slice_set heap.scopes at after → FitsHeap (record heap { scopes = scopes })
  changed_scope at slot v s after scopes there change here set =
      let before = all_at (FitsScope (sizes heap)) heap.scopes at s fits.scopes there in
      let new : FitsScope (sizes heap) after = subst (FitsScope (sizes heap)) (sym change) (record { parent = before.parent; slots = all_set (FitsValue (sizes heap)) s.slots slot v before.slots here }) in
      subst (λ (ss : List Scope). FitsHeap (record heap { scopes = ss })) (sym set) (set_scope at after new)
