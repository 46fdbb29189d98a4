-- Heaps that have grown.
use Rattle.std.proofs.Common.{◌≡◌, ℕ, zero, suc, Some, None, slice_get, List, [], ◌∷◌, ◌++◌, length, map, sym, ap, refl, ◌∙◌, subst, append_assoc, arith, length-append}
use Rattle.std.proofs.lemmas.List.{append-nil, length-map}
use Rattle.std.specs.Option.{option_map}
use Rattle.std.proofs.lemmas.Option.{slice_get-map}
use Rattle.njs_shared.specs.declared.object.Scope.{Scope}
use Rattle.njs_shared.specs.Heap.{Heap, HeapObject}
use Rattle.njs_convert.specs.Tells.{Grows, Extends, IsOrdinary, SameShape, SameInner}

pub Grows-refl : (h : Heap) → Grows h h
Grows-refl h = record {
  objects = omega arith;
  scopes = omega arith;
  shapes = λ at scope there. record { now = scope; there = there; parent = refl; slots = refl };
  inner = λ at object there. record { now = object; there = there; inner = refl };
  more = [];
  texts = sym (append-nil h.texts);
}

pub Grows-same : (h k : Heap) → k ≡ h → Grows h k
Grows-same h k is = subst (Grows h) (sym is) (Grows-refl h)

pub Grows-trans : (h k l : Heap) → Grows h k → Grows k l → Grows h l
Grows-trans h k l a b =
    let o = a.objects in
    let p = b.objects in
    let s = a.scopes in
    let t = b.scopes in
    record {
      objects = omega arith;
      scopes = omega arith;
      shapes = λ at scope there.
          let first = a.shapes at scope there in
          let second = b.shapes at first.now first.there in
          record { now = second.now; there = second.there; parent = second.parent ∙ first.parent; slots = second.slots ∙ first.slots };
      inner = λ at object there.
          let first = a.inner at object there in
          let second = b.inner at first.now first.there in
          record { now = second.now; there = second.there; inner = second.inner ∙ first.inner };
      more = a.more ++ b.more;
      texts = b.texts ∙ ap (λ ts. ts ++ b.more) a.texts ∙ append_assoc h.texts a.more b.more;
    }

-- ---- what stands at a place
front_at : {A : Type 0} (xs ys : List A) (at : ℕ) (x : A) → slice_get xs at ≡ Some x → slice_get (xs ++ ys) at ≡ Some x
front_at [] ys at x e = cc
front_at (z ∷ xs) ys zero x e = e
front_at (z ∷ xs) ys (suc at) x e = front_at xs ys at x e

-- what was mapped to the element of a list
record Mapped {A B : Type 0} (f : A → B) (xs : List A) (at : ℕ) (y : B) : Type 0 where
  now : A
  there : slice_get xs at ≡ Some now
  is : f now ≡ y

map_at : {A B : Type 0} (f : A → B) (xs : List A) (at : ℕ) (y : B) → slice_get (map f xs) at ≡ Some y → Mapped f xs at y
map_at f [] at y e = cc
map_at f (x ∷ xs) zero y e = record { now = x; there = refl; is = cc }
map_at f (x ∷ xs) (suc at) y e = let found = map_at f xs at y e in record { now = found.now; there = found.there; is = found.is }

-- the heap with other objects and texts
abbrev pub heap_with : Heap → List HeapObject → List (List ℕ) → Heap
heap_with h objects texts = record { objects = objects; scopes = h.scopes; texts = texts }

pub Extends-refl : (h : Heap) → Extends h h
Extends-refl h = record {
  scopes = refl;
  others = [];
  ordinary = tt;
  inner = sym (append-nil (map (λ (o : HeapObject). o.inner) h.objects));
  more = [];
  texts = sym (append-nil h.texts);
}

pub Extends-text : (h : Heap) (t : List ℕ) → Extends h (heap_with h h.objects (h.texts ++ t ∷ []))
Extends-text h t = record {
  scopes = refl;
  others = [];
  ordinary = tt;
  inner = sym (append-nil (map (λ (o : HeapObject). o.inner) h.objects));
  more = t ∷ [];
  texts = refl;
}

map-push : (xs : List HeapObject) (x : HeapObject) → map (λ (o : HeapObject). o.inner) (xs ++ x ∷ []) ≡ map (λ (o : HeapObject). o.inner) xs ++ x.inner ∷ []
map-push [] x = refl
map-push (y ∷ ys) x = ap (λ is. y.inner ∷ is) (map-push ys x)

pub Extends-made : (h : Heap) (o : HeapObject) (t : List ℕ) → IsOrdinary o.inner → Extends h (heap_with h (h.objects ++ o ∷ []) (h.texts ++ t ∷ []))
Extends-made h o t ordinary = record {
  scopes = refl;
  others = o.inner ∷ [];
  ordinary = (ordinary, tt);
  inner = map-push h.objects o;
  more = t ∷ [];
  texts = refl;
}

-- a scope that is still there
same_shape : (scope : Scope) (before after : List Scope) (at : ℕ) → after ≡ before → slice_get before at ≡ Some scope → SameShape scope after at
same_shape scope before after at is there = record { now = scope; there = ap (λ scopes. slice_get scopes at) is ∙ there; parent = refl; slots = refl }

-- an object that is still there
extended : (h k : Heap) → Extends h k → (at : ℕ) (object : HeapObject) → slice_get h.objects at ≡ Some object → SameInner object k.objects at
extended h k e at object there =
    let before : slice_get (map (λ (o : HeapObject). o.inner) h.objects) at ≡ Some object.inner = slice_get-map (λ (o : HeapObject). o.inner) h.objects at ∙ ap (option_map (λ (o : HeapObject). o.inner)) there in
    let after : slice_get (map (λ (o : HeapObject). o.inner) k.objects) at ≡ Some object.inner =
    ap (λ is. slice_get is at) e.inner ∙ front_at (map (λ (o : HeapObject). o.inner) h.objects) e.others at object.inner before
    in
    let found = map_at (λ (o : HeapObject). o.inner) k.objects at object.inner after in
    record { now = found.now; there = found.there; inner = found.is }

pub Grows-Extends : (h k : Heap) → Extends h k → Grows h k
Grows-Extends h k e =
    let lengths : length k.objects ≡ length (map (λ (o : HeapObject). o.inner) h.objects ++ e.others) = sym (length-map k.objects (λ (o : HeapObject). o.inner)) ∙ ap length e.inner in
    record {
      objects = omega (arith, lengths, length-append (map (λ (o : HeapObject). o.inner) h.objects) e.others, length-map h.objects (λ (o : HeapObject). o.inner));
      scopes = omega (arith, ap length e.scopes);
      shapes = λ at scope there. same_shape scope h.scopes k.scopes at e.scopes there;
      inner = extended h k e;
      more = e.more;
      texts = e.texts;
    }

-- further objects
pub Grows-objects : (h k : Heap) (os : List HeapObject) → k ≡ heap_with h (h.objects ++ os) h.texts → Grows h k
Grows-objects h k os is = record {
  objects = omega (arith, ap (λ (m : Heap). length m.objects) is, length-append h.objects os);
  scopes = omega (arith, ap (λ (m : Heap). length m.scopes) is);
  shapes = λ at scope there. same_shape scope h.scopes k.scopes at (ap (λ (m : Heap). m.scopes) is) there;
  inner = λ at object there. record { now = object; there = ap (λ (m : Heap). slice_get m.objects at) is ∙ front_at h.objects os at object there; inner = refl };
  more = [];
  texts = ap (λ (m : Heap). m.texts) is ∙ sym (append-nil h.texts);
}

-- a further text
pub Grows-text : (h k : Heap) (t : List ℕ) → k ≡ heap_with h h.objects (h.texts ++ t ∷ []) → Grows h k
Grows-text h k t is = subst (Grows h) (sym is) (Grows-Extends h (heap_with h h.objects (h.texts ++ t ∷ [])) (Extends-text h t))

-- from no object and no scope
pub Grows-empty : (h k : Heap) (more : List (List ℕ)) → h.objects ≡ [] → h.scopes ≡ [] → k.texts ≡ h.texts ++ more → Grows h k
Grows-empty h k more no_objects no_scopes texts = record {
  objects = omega (arith, ap length no_objects);
  scopes = omega (arith, ap length no_scopes);
  shapes = λ at scope there. let never : None ≡ Some scope = ap (λ scopes. slice_get scopes at) (sym no_scopes) ∙ there in cc;
  inner = λ at object there. let never : None ≡ Some object = ap (λ objects. slice_get objects at) (sym no_objects) ∙ there in cc;
  more = more;
  texts = texts;
}
