-- Chains of prototypes, of scopes and of bound functions go on to end.
use Rattle.std.proofs.Common.{◌≡◌, ℕ, zero, suc, ◌<◌, ◌==◌, ◌⊎◌, inl, inr, List, [], ◌∷◌, ◌++◌, Option, Some, None, true, false, cond, ap, refl, sym, ◌∙◌, subst, length, map, slice_get, slice_set, arith}
use Rattle.std.proofs.lemmas.Bool.Decides.{nat_tests}
use Rattle.std.proofs.lemmas.Option.{slice_get_within}
use Rattle.std.proofs.lemmas.List.{length-map}
use Rattle.std.specs.List.{AllByRecursion}
use Rattle.std.specs.Option.{option_map, option_map_or, ForSome}
use Rattle.njs_value.specs.Ends.{Ends}
use Rattle.njs_value.specs.declared.ObjId.{ObjId}
use Rattle.njs_value.specs.declared.ScopeId.{ScopeId}
use Rattle.njs_shared.specs.declared.object.Inner.{Inner}
use Rattle.njs_shared.specs.declared.object.Inner.TheVariants as inner
use Rattle.njs_shared.specs.declared.object.Scope.{Scope}
use Rattle.njs_shared.specs.Heap.{Heap, HeapObject, sizes}
use Rattle.njs_shared.specs.Fits.{FitsInner, FitsObject, FitsScope, FitsHeap}
use Rattle.njs_shared.specs.Ends.{HasEnds, bound_target}

-- ---- a way more

-- every way leads to a place
abbrev pub LeadWithin : List (Option ℕ) → Type 0
LeadWithin ways = (place next : ℕ) → slice_get ways place ≡ Some (Some next) → next < length ways

-- what stands behind the others is the last, and nothing else changed
pushed : {X : Type 0} (xs : List X) (x y : X) (place : ℕ) → slice_get (xs ++ x ∷ []) place ≡ Some y → (slice_get xs place ≡ Some y) ⊎ ((place ≡ length xs) × (x ≡ y))
pushed [] x y zero at = inr (refl, cc)
pushed [] x y (suc place) at = cc
pushed (z ∷ xs) x y zero at = inl at
pushed (z ∷ xs) x y (suc place) at = elim (pushed xs x y place at) [ inl there ↦ inl there | inr here ↦ inr (ap suc here.0, here.1) ]

module _ (ways : List (Option ℕ)) (ends : Ends ways) (within : LeadWithin ways) (way : Option ℕ) (leads : ForSome way (λ next. next < length ways)) where
  -- the new place stands above the one that it leads to
  rank_with : ℕ → ℕ
  rank_with place = cond (place == length ways) (option_map_or (λ next. suc (ends.rank next)) way 0) (ends.rank place)

  rank_old : (place : ℕ) → place < length ways → rank_with place ≡ ends.rank place
  unfolding rank_with
  rank_old place less =
      let other : (place == length ways) ≡ false = grind (arith, nat_tests) in
      ap (λ b. cond b (option_map_or (λ next. suc (ends.rank next)) way 0) (ends.rank place)) other

  rank_new : (next : ℕ) → way ≡ Some next → rank_with (length ways) ≡ suc (ends.rank next)
  unfolding rank_with
  rank_new next is =
      let same : (length ways == length ways) ≡ true = grind (arith, nat_tests) in
      ap (λ b. cond b (option_map_or (λ next. suc (ends.rank next)) way 0) (ends.rank (length ways))) same ∙ ap (λ r. option_map_or (λ next. suc (ends.rank next)) r 0) is

  falls_with : (place next : ℕ) → slice_get (ways ++ way ∷ []) place ≡ Some (Some next) → rank_with next < rank_with place
  falls_with place next at = elim (pushed ways way (Some next) place at) [
    | inl there ↦
        let falls = ends.falls place next there in
        omega (arith, rank_old place (slice_get_within ways place (Some next) there), rank_old next (within place next there))
    | inr here ↦ omega (arith, ap rank_with here.0 ∙ rank_new next here.1, rank_old next (leads next here.1))
  ]

  pub way_more : Ends (ways ++ way ∷ [])
  way_more = record { rank = rank_with; falls = falls_with }

-- ---- lists of ways

map_push : {X Y : Type 0} (f : X → Y) (xs : List X) (x : X) → map f (xs ++ x ∷ []) ≡ map f xs ++ f x ∷ []
map_push f [] x = refl
map_push f (y ∷ ys) x = ap (λ t. f y ∷ t) (map_push f ys x)

map_same : {X Y : Type 0} (f : X → Y) (xs : List X) (i : ℕ) (x y : X) → slice_get xs i ≡ Some x → f y ≡ f x → map f (slice_set xs i y) ≡ map f xs
map_same f [] i x y at same = refl
map_same f (z ∷ zs) zero x y at same = let here : z ≡ x = cc in ap (λ w. w ∷ map f zs) (same ∙ ap f (sym here))
map_same f (z ∷ zs) (suc i) x y at same = ap (λ t. f z ∷ t) (map_same f zs i x y at same)

lead_within : {X : Type 0} (P : X → Type 0) (f : X → Option ℕ) (k : ℕ) → ((x : X) → P x → ForSome (f x) (λ next. next < k)) → (xs : List X) → AllByRecursion P xs
    → (place next : ℕ) → slice_get (map f xs) place ≡ Some (Some next) → next < k
lead_within P f k leads [] all place next at = cc
lead_within P f k leads (x ∷ xs) all zero next at = leads x all.0 next cc
lead_within P f k leads (x ∷ xs) all (suc place) next at = lead_within P f k leads xs all.1 place next at

-- ---- where the objects and scopes of a heap lead

numbered : (r : Option ObjId) (k : ℕ) → ForSome r (λ up. up.0 < k) → ForSome (option_map (λ up. up.0) r) (λ next. next < k)
numbered None k less next is = cc
numbered (Some up) k less next is = let same : up.0 ≡ next = cc in let within : up.0 < k = less up refl in omega arith

numbered_scope : (r : Option ScopeId) (k : ℕ) → ForSome r (λ up. up.0 < k) → ForSome (option_map (λ up. up.0) r) (λ next. next < k)
numbered_scope None k less next is = cc
numbered_scope (Some up) k less next is = let same : up.0 ≡ next = cc in let within : up.0 < k = less up refl in omega arith

module _ (heap : Heap) where
  target_within : (i : Inner) → FitsInner (sizes heap) i → ForSome (bound_target i) (λ next. next < length heap.objects)
  target_within inner.Plain fits next is = cc
  target_within (inner.Script unit code scope) fits next is = cc
  target_within (inner.BuiltIn row) fits next is = cc
  target_within (inner.Bound target this args) fits next is = let same : target.0 ≡ next = cc in let within = fits.0 in omega arith
  target_within (inner.ZoneNumber zone) fits next is = cc

  abbrev up_of : HeapObject → Option ℕ
  up_of o = option_map (λ up. up.0) o.prototype

  abbrev target_of : HeapObject → Option ℕ
  target_of o = bound_target o.inner

  abbrev out_of : Scope → Option ℕ
  out_of s = option_map (λ up. up.0) s.parent

  up_within : (o : HeapObject) → FitsObject (sizes heap) o → ForSome (up_of o) (λ next. next < length heap.objects)
  up_within o fits = numbered o.prototype (length heap.objects) fits.prototype

  out_within : (s : Scope) → FitsScope (sizes heap) s → ForSome (out_of s) (λ next. next < length heap.scopes)
  out_within s fits = numbered_scope s.parent (length heap.scopes) fits.parent

  module _ (fits : FitsHeap heap) (ends : HasEnds heap) where
    more_ways : {X : Type 0} (P : X → Type 0) (f : X → Option ℕ) (xs : List X) (x : X) → ((x : X) → P x → ForSome (f x) (λ next. next < length xs)) → AllByRecursion P xs → P x → Ends (map f xs)
        → Ends (map f (xs ++ x ∷ []))
    more_ways P f xs x leads all here ends =
        let same : length (map f xs) ≡ length xs = length-map xs f in
        subst Ends (sym (map_push f xs x))
        (way_more (map f xs) ends (λ place next at. let less = lead_within P f (length xs) leads xs all place next at in omega (arith, same)) (f x)
        (λ next is. let less = leads x here next is in omega (arith, same)))

    -- an object more
    pub object_ends : (o : HeapObject) → FitsObject (sizes heap) o → HasEnds (record heap { objects = heap.objects ++ o ∷ [] })
    object_ends o here = record {
      prototypes = more_ways (FitsObject (sizes heap)) up_of heap.objects o up_within fits.objects here ends.prototypes;
      targets = more_ways (FitsObject (sizes heap)) target_of heap.objects o (λ o fits. target_within o.inner fits.inner) fits.objects here ends.targets;
      scopes = ends.scopes;
    }

    -- a scope more
    pub scope_ends : (s : Scope) → FitsScope (sizes heap) s → HasEnds (record heap { scopes = heap.scopes ++ s ∷ [] })
    scope_ends s here = record {
      prototypes = ends.prototypes;
      targets = ends.targets;
      scopes = more_ways (FitsScope (sizes heap)) out_of heap.scopes s out_within fits.scopes here ends.scopes;
    }

  module _ (ends : HasEnds heap) where
    -- a text more
    pub text_ends : (texts : List (List ℕ)) → HasEnds (record heap { texts = texts })
    text_ends texts = record { prototypes = ends.prototypes; targets = ends.targets; scopes = ends.scopes }

    -- another object in the place of one with the same prototype and the same inner part
    pub changed_ends : (at : ℕ) (o after : HeapObject) → slice_get heap.objects at ≡ Some o → after.prototype ≡ o.prototype → after.inner ≡ o.inner
        → HasEnds (record heap { objects = slice_set heap.objects at after })
    changed_ends at o after there up target = record {
      prototypes = subst Ends (sym (map_same up_of heap.objects at o after there (ap (option_map (λ (up : ObjId). up.0)) up))) ends.prototypes;
      targets = subst Ends (sym (map_same target_of heap.objects at o after there (ap bound_target target))) ends.targets;
      scopes = ends.scopes;
    }

    -- another scope in the place of one with the same parent
    pub slot_ends : (at : ℕ) (s after : Scope) → slice_get heap.scopes at ≡ Some s → after.parent ≡ s.parent → HasEnds (record heap { scopes = slice_set heap.scopes at after })
    slot_ends at s after there up = record {
      prototypes = ends.prototypes;
      targets = ends.targets;
      scopes = subst Ends (sym (map_same out_of heap.scopes at s after there (ap (option_map (λ (up : ScopeId). up.0)) up))) ends.scopes;
    }
