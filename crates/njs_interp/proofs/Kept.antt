-- What stands, and the states that a heap stands for, where the heap grows and where operands come and go.
use Rattle.std.proofs.Common.{◌≡◌, ℕ, zero, suc, ◌+◌, ◌-◌, ◌<◌, ◌≤◌, List, [], ◌∷◌, ◌++◌, length, map, reverse, replicate, drop, Some, Bool, true, false, nat_lt, slice_get, slice_index_or, ap, refl, sym, ◌∙◌, subst, arith, append_assoc, length-append}
use Rattle.std.specs.List.{AllByRecursion}
use Rattle.std.specs.Option.{option_map}
use Rattle.std.proofs.lemmas.List.{reverse-append, length-map, append-nil}
use Rattle.std.proofs.lemmas.Option.{slice_get-map, slice_get_within}
use Rattle.std.proofs.lemmas.Bool.Decides.{nat_tests}
use Rattle.njs_value.specs.declared.ScopeId.{ScopeId}
use Rattle.njs_value.specs.declared.Value.{Value}
use Rattle.njs_value.specs.declared.Value.TheVariants as value
use Rattle.njs_props.specs.declared.map.Property.{Property}
use Rattle.njs_shared.specs.declared.object.Inner.{Inner}
use Rattle.njs_shared.specs.declared.object.Inner.TheVariants as inner
use Rattle.njs_shared.specs.declared.object.Scope.{Scope}
use Rattle.njs_shared.specs.Heap.{Heap, HeapObject, Sizes, sizes}
use Rattle.njs_shared.specs.Fits.{FitsValue, FitsInner, FitsProperties, FitsObject, FitsScope, FitsHeap}
use Rattle.njs_clone.specs.Content.{content}
use Rattle.njs_clone.specs.StandsFor.{mapped, mapped_all, mapped_object, content_inner, content_objects}
use Rattle.njs_code.specs.declared.op.Depth.{Depth}
use Rattle.njs_code.specs.declared.op.Op.{Op}
use Rattle.njs_code.specs.declared.code.FunctionCode.{FunctionCode}
use Rattle.njs_code.specs.Effects.{depth_left, depth_next}
use Rattle.njs_meaning.specs.Primitives.{Characters}
use Rattle.njs_meaning.specs.Values.{Simple}
use Rattle.njs_meaning.specs.PlainHeap.{PlainHeap, Bound}
use Rattle.njs_meaning.specs.Completions.{Returned}
use Rattle.njs_meaning.specs.State.{State}
use Rattle.njs_convert.specs.FirstHeap.{StandsFor, slots_of}
use Rattle.njs_convert.specs.Tells.{Extends, IsOrdinary}
use Rattle.njs_members.specs.Gains.{GainsTexts, KeepsRest}
use Rattle.njs_simul.specs.Stacks.{Ended, Thrown}
use Rattle.njs_interp.specs.declared.stacks.Ending.{Ending}
use Rattle.njs_interp.specs.declared.stacks.Ending.TheVariants as ending
use Rattle.njs_interp.specs.declared.stacks.Listing.{Listing}
use Rattle.njs_interp.specs.declared.stacks.Stacks.{Stacks}
use Rattle.njs_interp.specs.Plain.{heap_of, plain_ending, plain_listing, plain_stacks}
use Rattle.njs_interp.specs.Sits.{HasSlots, SlotsFrom, Entered, FitsEnding, Sits, Ready}
use Rattle.njs_interp.specs.Acts.{SameBeside, OnHeap, Unanswered}
use Rattle.njs_interp.specs.Grown.{SameInner, Widens, Grown}
use Rattle.njs_interp.specs.Operands.{Takes, Gives}

-- ---- lists

module _ {X : Type 0} where
  pub all-more : (P Q : X → Type 0) → ((x : X) → P x → Q x) → (xs : List X) → AllByRecursion P xs → AllByRecursion Q xs
  all-more P Q more [] all = tt
  all-more P Q more (x ∷ xs) all = (more x all.0, all-more P Q more xs all.1)

  pub all-behind : (P : X → Type 0) (xs ys : List X) → AllByRecursion P (xs ++ ys) → AllByRecursion P ys
  all-behind P [] ys all = all
  all-behind P (x ∷ xs) ys all = all-behind P xs ys all.1

  pub all-front : (P : X → Type 0) (xs ys : List X) → AllByRecursion P (xs ++ ys) → AllByRecursion P xs
  all-front P [] ys all = tt
  all-front P (x ∷ xs) ys all = (all.0, all-front P xs ys all.1)

  pub all-joined : (P : X → Type 0) (xs ys : List X) → AllByRecursion P xs → AllByRecursion P ys → AllByRecursion P (xs ++ ys)
  all-joined P [] ys front behind = behind
  all-joined P (x ∷ xs) ys front behind = (front.0, all-joined P xs ys front.1 behind)

  pub all-drop : (P : X → Type 0) (n : ℕ) (xs : List X) → AllByRecursion P xs → AllByRecursion P (drop n xs)
  all-drop P zero xs all = all
  all-drop P (suc n) [] all = tt
  all-drop P (suc n) (x ∷ xs) all = all-drop P n xs all.1

  pub all-at : (P : X → Type 0) (xs : List X) (at : ℕ) (x : X) → AllByRecursion P xs → slice_get xs at ≡ Some x → P x
  all-at P [] at x all there = cc
  all-at P (y ∷ ys) zero x all there = let same : y ≡ x = cc in subst P same all.0
  all-at P (y ∷ ys) (suc at) x all there = all-at P ys at x all.1 there

  pub front-at : (xs ys : List X) (at : ℕ) (x : X) → slice_get xs at ≡ Some x → slice_get (xs ++ ys) at ≡ Some x
  front-at [] ys at x there = cc
  front-at (z ∷ xs) ys zero x there = there
  front-at (z ∷ xs) ys (suc at) x there = front-at xs ys at x there

  -- what stands behind is among the others
  pub behind-at : (P : X → Type 0) (xs ys : List X) (at : ℕ) (x : X) → slice_get (xs ++ ys) at ≡ Some x → length xs ≤ at → AllByRecursion P ys → P x
  behind-at P [] ys at x there far all = all-at P ys at x all there
  behind-at P (a ∷ xs) ys zero x there far all = absurd (omega arith)
  behind-at P (a ∷ xs) ys (suc at) x there far all = behind-at P xs ys at x there (omega arith) all

  -- a list at each of whose places another has something is not longer
  pub no-longer : {Y : Type 0} (xs : List X) (ys : List Y) → ((at : ℕ) (x : X) → slice_get xs at ≡ Some x → (y : Y) × (slice_get ys at ≡ Some y)) → length xs ≤ length ys
  no-longer [] ys each = omega arith
  no-longer (x ∷ xs) [] each = let found = each 0 x refl in cc
  no-longer (x ∷ xs) (y ∷ ys) each = let rest = no-longer xs ys (λ at z there. each (suc at) z there) in omega arith

module _ {X Y : Type 0} where
  pub map-same : (P : X → Type 0) (f g : X → Y) → ((x : X) → P x → f x ≡ g x) → (xs : List X) → AllByRecursion P xs → map f xs ≡ map g xs
  map-same P f g same [] all = refl
  map-same P f g same (x ∷ xs) all = ap (λ y. y ∷ map f xs) (same x all.0) ∙ ap (λ ys. g x ∷ ys) (map-same P f g same xs all.1)

  map-push : (f : X → Y) (xs : List X) (x : X) → map f (xs ++ x ∷ []) ≡ map f xs ++ f x ∷ []
  map-push f [] x = refl
  map-push f (y ∷ ys) x = ap (λ zs. f y ∷ zs) (map-push f ys x)

  pub map-reversed : (f : X → Y) (xs : List X) → map f (reverse xs) ≡ reverse (map f xs)
  map-reversed f [] = refl
  map-reversed f (x ∷ xs) =
      ap (map f) (reverse-append (x ∷ []) xs) ∙ map-push f (reverse xs) x ∙ ap (λ l. l ++ f x ∷ []) (map-reversed f xs) ∙ sym (reverse-append (f x ∷ []) (map f xs))

  -- where the image of a list has something, the list has
  pub map-at : (f : X → Y) (xs : List X) (at : ℕ) (y : Y) → slice_get (map f xs) at ≡ Some y → (x : X) × (slice_get xs at ≡ Some x) × (f x ≡ y)
  map-at f [] at y there = cc
  map-at f (x ∷ xs) zero y there = (x, refl, cc)
  map-at f (x ∷ xs) (suc at) y there = map-at f xs at y there

-- ---- further texts

text_kept : (texts more : List (List ℕ)) (i : ℕ) → i < length texts → slice_index_or (texts ++ more) i [] ≡ slice_index_or texts i []
text_kept [] more i within = absurd (omega arith)
text_kept (t ∷ texts) more zero within = refl
text_kept (t ∷ texts) more (suc i) within = text_kept texts more i (omega arith)

module _ (n : Sizes) (texts more : List (List ℕ)) (few : n.texts ≡ length texts) where
  -- a value of a heap is by content the same under further texts
  pub content-further : (v : Value) → FitsValue n v → content (texts ++ more) v ≡ content texts v
  content-further value.Undefined fits = refl
  content-further value.Null fits = refl
  content-further (value.Bool b) fits = refl
  content-further (value.Num i) fits = refl
  content-further (value.Str t) fits = ap (λ s. Simple (Characters s)) (text_kept texts more t.0 (omega (arith, fits, few)))
  content-further (value.Obj o) fits = refl

  pub values-further : (vs : List Value) → AllByRecursion (FitsValue n) vs → map (content (texts ++ more)) vs ≡ map (content texts) vs
  values-further vs fits = map-same (FitsValue n) (content (texts ++ more)) (content texts) content-further vs fits

  pub ending-further : (e : Ending) → FitsEnding n e → plain_ending (texts ++ more) e ≡ plain_ending texts e
  ending-further ending.Normal fits = refl
  ending-further (ending.Returned v) fits = ap (λ w. Ended (Returned w)) (content-further v fits)
  ending-further (ending.Broken label) fits = refl
  ending-further (ending.Continued label) fits = refl
  ending-further (ending.Thrown v) fits = ap Thrown (content-further v fits)

  listing_further : (l : Listing) → FitsValue n l.value → plain_listing (texts ++ more) l ≡ plain_listing texts l
  listing_further l fits = ap (λ v. record { value = v; names = reverse l.names.items }) (content-further l.value fits)

  listings_further : (ls : List Listing) → AllByRecursion (λ (l : Listing). FitsValue n l.value) ls → map (plain_listing (texts ++ more)) (reverse ls) ≡ map (plain_listing texts) (reverse ls)
  listings_further ls fits =
      map-reversed (plain_listing (texts ++ more)) ls
      ∙ ap reverse (map-same (λ (l : Listing). FitsValue n l.value) (plain_listing (texts ++ more)) (plain_listing texts) listing_further ls fits)
      ∙ sym (map-reversed (plain_listing texts) ls)

  -- so is what stands
  pub stacks-of : (st : Stacks) → AllByRecursion (FitsValue n) st.operands → AllByRecursion (λ (l : Listing). FitsValue n l.value) st.lists.items → AllByRecursion (FitsEnding n) st.endings
      → plain_stacks (texts ++ more) st ≡ plain_stacks texts st
  stacks-of st values listed ended =
      ap (λ vs. record (plain_stacks (texts ++ more) st) { operands = vs }) (values-further st.operands values)
      ∙ ap (λ ls. record (plain_stacks (texts ++ more) st) { operands = map (content texts) st.operands; lists = ls }) (listings_further st.lists.items listed)
      ∙ ap (λ es. record (plain_stacks texts st) { endings = es }) (map-same (FitsEnding n) (plain_ending (texts ++ more)) (plain_ending texts) ending-further st.endings ended)

  -- objects and scopes
  pub scopes-further : (scopes : List Scope) → AllByRecursion (FitsScope n) scopes → map (slots_of (texts ++ more)) scopes ≡ map (slots_of texts) scopes
  scopes-further scopes fits =
      map-same (FitsScope n) (slots_of (texts ++ more)) (slots_of texts) (λ s fits. ap (λ vs. (s.parent, vs)) (values-further s.slots fits.slots)) scopes fits

  props_further : (props : List (List ℕ × Property Value)) → FitsProperties n props → mapped_all (content (texts ++ more)) props ≡ mapped_all (content texts) props
  props_further [] fits = refl
  props_further (e ∷ es) fits =
      ap (λ v. (e.0, record (mapped (content texts) e.1) { value = v }) ∷ mapped_all (content (texts ++ more)) es) (content-further e.1.value fits.0)
      ∙ ap (λ rest. (e.0, mapped (content texts) e.1) ∷ rest) (props_further es fits.1)

  inner_further : (i : Inner) → FitsInner n i → content_inner (texts ++ more) i ≡ content_inner texts i
  inner_further inner.Plain fits = refl
  inner_further (inner.Script unit code scope) fits = refl
  inner_further (inner.BuiltIn row) fits = refl
  inner_further (inner.Bound target this args) fits =
      ap (λ v. Bound target v (map (content (texts ++ more)) args)) (content-further this fits.1)
      ∙ ap (λ vs. Bound target (content texts this) vs) (values-further args fits.2)
  inner_further (inner.ZoneNumber zone) fits = refl

  object_further : (o : HeapObject) → FitsObject n o → mapped_object (content (texts ++ more)) (content_inner (texts ++ more)) o ≡ mapped_object (content texts) (content_inner texts) o
  object_further o fits =
      ap (λ ps. record (mapped_object (content (texts ++ more)) (content_inner (texts ++ more)) o) { props = ps }) (props_further o.props fits.props)
      ∙ ap (λ i. record (mapped_object (content texts) (content_inner texts) o) { inner = i }) (inner_further o.inner fits.inner)

  pub objects-further : (objects : List HeapObject) → AllByRecursion (FitsObject n) objects → content_objects (texts ++ more) objects ≡ content_objects texts objects
  objects-further objects fits =
      map-same (FitsObject n) (mapped_object (content (texts ++ more)) (content_inner (texts ++ more))) (mapped_object (content texts) (content_inner texts)) object_further objects fits

-- what sits is by content the same under further texts
pub stacks-further : (h : Heap) (more : List (List ℕ)) (slots : List ℕ) (depth : Depth) (st : Stacks) → Sits h slots depth st → plain_stacks (h.texts ++ more) st ≡ plain_stacks h.texts st
stacks-further h more slots depth st sits = stacks-of (sizes h) h.texts more refl st sits.values sits.listed sits.ended

-- a heap that fits stands for the same under further texts
pub StandsFor-further : (h k : Heap) (more : List (List ℕ)) (p : PlainHeap) → FitsHeap h → k ≡ record h { texts = h.texts ++ more } → StandsFor h p → StandsFor k p
StandsFor-further h k more p fits is stands = subst (λ m. StandsFor m p) (sym is) (record {
  objects = objects-further (sizes h) h.texts more refl h.objects fits.objects ∙ stands.objects;
  scopes = scopes-further (sizes h) h.texts more refl h.scopes fits.scopes ∙ stands.scopes;
})

-- ---- heaps that widen

pub Widens-refl : (h : Heap) → Widens h h
Widens-refl h = record {
  scopes = λ at scope there. record { now = scope; there = there; parent = refl; slots = refl };
  objects = λ at object there. record { now = object; there = there; inner = refl };
  more = [];
  texts = sym (append-nil h.texts);
}

pub Widens-trans : (h k l : Heap) → Widens h k → Widens k l → Widens h l
Widens-trans h k l a b = record {
  scopes = λ at scope there.
      let first = a.scopes at scope there in
      let second = b.scopes at first.now first.there in
      record { now = second.now; there = second.there; parent = second.parent ∙ first.parent; slots = second.slots ∙ first.slots };
  objects = λ at object there.
      let first = a.objects at object there in
      let second = b.objects at first.now first.there in
      record { now = second.now; there = second.there; inner = second.inner ∙ first.inner };
  more = a.more ++ b.more;
  texts = b.texts ∙ ap (λ ts. ts ++ b.more) a.texts ∙ append_assoc h.texts a.more b.more;
}

module _ (h k : Heap) (widens : Widens h k) where
  pub Widens-objects : length h.objects ≤ length k.objects
  Widens-objects = no-longer h.objects k.objects (λ at o there. let kept = widens.objects at o there in (kept.now, kept.there))

  pub Widens-scopes : length h.scopes ≤ length k.scopes
  Widens-scopes = no-longer h.scopes k.scopes (λ at s there. let kept = widens.scopes at s there in (kept.now, kept.there))

  pub Widens-texts : length h.texts ≤ length k.texts
  Widens-texts = omega (arith, ap length widens.texts, length-append h.texts widens.more)

  -- a value of the heap is one of the wider one, and by content the same
  pub FitsValue-widened : (v : Value) → FitsValue (sizes h) v → FitsValue (sizes k) v
  FitsValue-widened value.Undefined fits = tt
  FitsValue-widened value.Null fits = tt
  FitsValue-widened (value.Bool b) fits = tt
  FitsValue-widened (value.Num i) fits = fits
  FitsValue-widened (value.Str t) fits = omega (arith, Widens-texts, fits)
  FitsValue-widened (value.Obj o) fits = omega (arith, Widens-objects, fits)

  pub content-widened : (v : Value) → FitsValue (sizes h) v → content k.texts v ≡ content h.texts v
  content-widened v fits = ap (λ ts. content ts v) widens.texts ∙ content-further (sizes h) h.texts widens.more refl v fits

  pub values-widened : (vs : List Value) → AllByRecursion (FitsValue (sizes h)) vs → map (content k.texts) vs ≡ map (content h.texts) vs
  values-widened vs fits = ap (λ ts. map (content ts) vs) widens.texts ∙ values-further (sizes h) h.texts widens.more refl vs fits

  pub FitsEnding-widened : (e : Ending) → FitsEnding (sizes h) e → FitsEnding (sizes k) e
  FitsEnding-widened ending.Normal fits = tt
  FitsEnding-widened (ending.Returned v) fits = FitsValue-widened v fits
  FitsEnding-widened (ending.Broken label) fits = tt
  FitsEnding-widened (ending.Continued label) fits = tt
  FitsEnding-widened (ending.Thrown v) fits = FitsValue-widened v fits

  abbrev has_slots_kept : (count at : ℕ) → HasSlots count h.scopes at → HasSlots count k.scopes at
  has_slots_kept count at has =
      let shape = widens.scopes at has.scope has.there in
      let enough = has.slots in
      record { scope = shape.now; there = shape.there; slots = omega (arith, shape.slots) }

  pub SlotsFrom-widened : (slots : List ℕ) (at : ℕ) → SlotsFrom slots h.scopes at → SlotsFrom slots k.scopes at
  SlotsFrom-widened [] at from = absurd from
  SlotsFrom-widened (count ∷ []) at from = (from.0, has_slots_kept count at from.1)
  SlotsFrom-widened (count ∷ (next ∷ rest)) at from =
      let shape = widens.scopes at from.0.scope from.0.there in
      (has_slots_kept count at from.0, from.1, shape.parent ∙ from.2, SlotsFrom-widened (next ∷ rest) from.1.0 from.3)

  pub Entered-widened : (slots : List ℕ) (scopes : List ScopeId) → Entered slots h.scopes scopes → Entered slots k.scopes scopes
  Entered-widened slots [] entered = absurd entered
  Entered-widened slots (own ∷ []) entered = SlotsFrom-widened slots own.0 entered
  Entered-widened slots (at ∷ (next ∷ rest)) entered =
      (SlotsFrom-widened (replicate (length rest + 1) 1 ++ slots) at.0 entered.0, Entered-widened slots (next ∷ rest) entered.1)

  pub Sits-widened : (slots : List ℕ) (depth : Depth) (st : Stacks) → Sits h slots depth st → Sits k slots depth st
  Sits-widened slots depth st sits = record {
    operands = sits.operands;
    scopes = sits.scopes;
    lists = sits.lists;
    endings = sits.endings;
    values = all-more (FitsValue (sizes h)) (FitsValue (sizes k)) FitsValue-widened st.operands sits.values;
    listed = all-more (λ (l : Listing). FitsValue (sizes h) l.value) (λ (l : Listing). FitsValue (sizes k) l.value) (λ l. FitsValue-widened l.value) st.lists.items sits.listed;
    ended = all-more (FitsEnding (sizes h)) (FitsEnding (sizes k)) FitsEnding-widened st.endings sits.ended;
    entered = Entered-widened slots st.scopes sits.entered;
  }

  pub stacks-widened : (slots : List ℕ) (depth : Depth) (st : Stacks) → Sits h slots depth st → plain_stacks k.texts st ≡ plain_stacks h.texts st
  stacks-widened slots depth st sits = ap (λ ts. plain_stacks ts st) widens.texts ∙ stacks-further h widens.more slots depth st sits

-- ---- heaps that grow

pub Grown-refl : (h : Heap) → Grown h h
Grown-refl h = record {
  widens = Widens-refl h;
  fresh = λ at object there far. absurd (omega (arith, far, slice_get_within h.objects at object there));
}

pub Grown-same : (h k : Heap) → k ≡ h → Grown h k
Grown-same h k is = subst (Grown h) (sym is) (Grown-refl h)

module _ (h k : Heap) (extends : Extends h k) where
  abbrev inners : List HeapObject → List Inner
  inners os = map (λ (o : HeapObject). o.inner) os

  object_kept : (at : ℕ) (o : HeapObject) → slice_get h.objects at ≡ Some o → SameInner o k.objects at
  object_kept at o there =
      let before : slice_get (inners h.objects) at ≡ Some o.inner = slice_get-map (λ (o : HeapObject). o.inner) h.objects at ∙ ap (option_map (λ (o : HeapObject). o.inner)) there in
      let after : slice_get (inners k.objects) at ≡ Some o.inner =
      ap (λ is. slice_get is at) extends.inner ∙ front-at (inners h.objects) extends.others at o.inner before
      in
      let found = map-at (λ (o : HeapObject). o.inner) k.objects at o.inner after in
      record { now = found.0; there = found.1; inner = found.2 }

  pub Widens-Extends : Widens h k
  Widens-Extends = record {
    scopes = λ at scope there. record { now = scope; there = ap (λ ss. slice_get ss at) extends.scopes ∙ there; parent = refl; slots = refl };
    objects = object_kept;
    more = extends.more;
    texts = extends.texts;
  }

  pub Grown-Extends : Grown h k
  Grown-Extends = record {
    widens = Widens-Extends;
    fresh = λ at o there far.
        behind-at IsOrdinary (inners h.objects) extends.others at o.inner
        (ap (λ is. slice_get is at) (sym extends.inner) ∙ slice_get-map (λ (o : HeapObject). o.inner) k.objects at ∙ ap (option_map (λ (o : HeapObject). o.inner)) there)
        (omega (arith, far, length-map h.objects (λ (o : HeapObject). o.inner))) extends.ordinary;
  }

-- one after the other
module _ {X : Type 0} where
  there_at : (xs : List X) (at : ℕ) → at < length xs → (x : X) × (slice_get xs at ≡ Some x)
  there_at [] at within = absurd (omega arith)
  there_at (x ∷ xs) zero within = (x, refl)
  there_at (x ∷ xs) (suc at) within = there_at xs at (omega arith)

pub Grown-trans : (h k l : Heap) → Grown h k → Grown k l → Grown h l
Grown-trans h k l a b = record {
  widens = Widens-trans h k l a.widens b.widens;
  fresh = λ at object there far. fresh_of at object there far (nat_lt at (length k.objects)) refl;
}
  where
    fresh_of : (at : ℕ) (object : HeapObject) → slice_get l.objects at ≡ Some object → length h.objects ≤ at → (early : Bool) → nat_lt at (length k.objects) ≡ early → IsOrdinary object.inner
    fresh_of at object there far false late = b.fresh at object there (grind (arith, nat_tests))
    fresh_of at object there far true early =
        let before = there_at k.objects at (grind (arith, nat_tests)) in
        let kept = b.widens.objects at before.0 before.1 in
        let same : kept.now ≡ object = cc (kept.there, there) in
        subst IsOrdinary (sym kept.inner ∙ ap (λ (o : HeapObject). o.inner) same) (a.fresh at before.0 before.1 far)

Extends_gained : (h k : Heap) → GainsTexts h k → Extends h k
Extends_gained h k gains = record {
  scopes = ap (λ (m : Heap). m.scopes) gains.is;
  others = [];
  ordinary = tt;
  inner = ap (λ (m : Heap). map (λ (o : HeapObject). o.inner) m.objects) gains.is ∙ sym (append-nil (map (λ (o : HeapObject). o.inner) h.objects));
  more = gains.more;
  texts = ap (λ (m : Heap). m.texts) gains.is;
}

pub Grown-GainsTexts : (h k : Heap) → GainsTexts h k → Grown h k
Grown-GainsTexts h k gains = Grown-Extends h k (Extends_gained h k gains)

Extends_kept : (h k : Heap) → KeepsRest h k → Extends h k
Extends_kept h k keeps = record {
  scopes = keeps.scopes;
  others = [];
  ordinary = tt;
  inner = keeps.inner ∙ sym (append-nil (map (λ (o : HeapObject). o.inner) h.objects));
  more = [];
  texts = keeps.texts ∙ sym (append-nil h.texts);
}

pub Grown-KeepsRest : (h k : Heap) → KeepsRest h k → Grown h k
Grown-KeepsRest h k keeps = Grown-Extends h k (Extends_kept h k keeps)

-- further texts alone
pub Grown-texts : (h k : Heap) (more : List (List ℕ)) → k ≡ record h { texts = h.texts ++ more } → Grown h k
Grown-texts h k more is = subst (Grown h) (sym is) (Grown-Extends h (record h { texts = h.texts ++ more }) (record {
  scopes = refl;
  others = [];
  ordinary = tt;
  inner = sym (append-nil (map (λ (o : HeapObject). o.inner) h.objects));
  more = more;
  texts = refl;
}))

-- ---- states

pub SameBeside-refl : (s : State) → SameBeside s s
SameBeside-refl s = record { response = refl; zones = refl; asked = refl; log = refl; ticks = refl }

pub Unanswered-refl : (s : State) → Unanswered s s
Unanswered-refl s = record { zones = refl; asked = refl }

pub OnHeap-refl : (h : Heap) (s : State) → StandsFor h (heap_of s) → OnHeap h s s
OnHeap-refl h s stands = record { stands = stands; beside = SameBeside-refl s }

-- the state in which an action ends that changes nothing beside objects and scopes
pub Unanswered-OnHeap : (h : Heap) (s t : State) → OnHeap h s t → Unanswered s t
Unanswered-OnHeap h s t on = record { zones = on.beside.zones; asked = on.beside.asked }

-- ---- operands that come and go

module _ (h : Heap) (slots : List ℕ) where
  -- with these operands in place of all
  pub Sits-operands : (depth other : Depth) (st : Stacks) (vs : List Value)
      → length vs ≡ other.operands → other.scopes ≡ depth.scopes → other.lists ≡ depth.lists → other.endings ≡ depth.endings
      → AllByRecursion (FitsValue (sizes h)) vs → Sits h slots depth st → Sits h slots other (record st { operands = vs })
  Sits-operands depth other st vs count scopes lists endings values sits = record {
    operands = count;
    scopes = sits.scopes ∙ sym scopes;
    lists = sits.lists ∙ sym lists;
    endings = sits.endings ∙ sym endings;
    values = values;
    listed = sits.listed;
    ended = sits.ended;
    entered = sits.entered;
  }

  pub Sits-pushed : (depth : Depth) (st : Stacks) (v : Value) → FitsValue (sizes h) v → Sits h slots depth st
      → Sits h slots (record depth { operands = depth.operands + 1 }) (record st { operands = v ∷ st.operands })
  Sits-pushed depth st v fits sits =
      let count = sits.operands in
      Sits-operands depth (record depth { operands = depth.operands + 1 }) st (v ∷ st.operands) (omega arith) refl refl refl (fits, sits.values) sits

  -- with those on top taken
  pub Sits-taken : (depth : Depth) (st : Stacks) (above : List Value) (vs : List Value) → st.operands ≡ above ++ vs → Sits h slots depth st
      → Sits h slots (record depth { operands = depth.operands - length above }) (record st { operands = vs })
  Sits-taken depth st above vs is sits =
      let count = sits.operands in
      Sits-operands depth (record depth { operands = depth.operands - length above }) st vs
      (omega (arith, ap length is, length-append above vs)) refl refl refl
      (all-behind (FitsValue (sizes h)) above vs (subst (AllByRecursion (FitsValue (sizes h))) is sits.values)) sits

  pub Sits-popped : (depth : Depth) (st : Stacks) (v : Value) (vs : List Value) → st.operands ≡ v ∷ vs → Sits h slots depth st
      → FitsValue (sizes h) v × Sits h slots (record depth { operands = depth.operands - 1 }) (record st { operands = vs })
  Sits-popped depth st v vs is sits = ((subst (AllByRecursion (FitsValue (sizes h))) is sits.values).0, Sits-taken depth st (v ∷ []) vs is sits)

  pub Sits-two_popped : (depth : Depth) (st : Stacks) (b a : Value) (vs : List Value) → st.operands ≡ b ∷ (a ∷ vs) → Sits h slots depth st
      → FitsValue (sizes h) b × FitsValue (sizes h) a × Sits h slots (record depth { operands = depth.operands - 2 }) (record st { operands = vs })
  Sits-two_popped depth st b a vs is sits =
      let fits : AllByRecursion (FitsValue (sizes h)) (b ∷ (a ∷ vs)) = subst (AllByRecursion (FitsValue (sizes h))) is sits.values in
      (fits.0, fits.1.0, Sits-taken depth st (b ∷ (a ∷ [])) vs is sits)

-- ---- operations that take and give operands alone

pub given-none : (f : FunctionCode) (op : Op) (h : Heap) (st : Stacks) → Gives op.kind 0 → Sits h f.slots (depth_left op.kind op.depth) st → Sits h f.slots (depth_next op.kind op.depth) st
given-none f op h st gives sits = record {
  operands = omega (arith, sits.operands, gives.operands);
  scopes = omega (arith, sits.scopes, gives.scopes);
  lists = omega (arith, sits.lists, gives.lists);
  endings = omega (arith, sits.endings, gives.endings);
  values = sits.values;
  listed = sits.listed;
  ended = sits.ended;
  entered = sits.entered;
}

pub taken-none : (f : FunctionCode) (op : Op) (h : Heap) (st : Stacks) → Takes op.kind 0 → Sits h f.slots op.depth st → Sits h f.slots (depth_left op.kind op.depth) st
taken-none f op h st takes sits = record {
  operands = omega (arith, sits.operands, takes.operands);
  scopes = omega (arith, sits.scopes, takes.scopes);
  lists = omega (arith, sits.lists, takes.lists);
  endings = omega (arith, sits.endings, takes.endings);
  values = sits.values;
  listed = sits.listed;
  ended = sits.ended;
  entered = sits.entered;
}

pub Ready-widened : (functions : List FunctionCode) (f : FunctionCode) (op : Op) (h k : Heap) (st : Stacks) → Widens h k → Ready functions f op h st → Ready functions f op k st
Ready-widened functions f op h k st widens ready = record {
  sits = Sits-widened h k widens f.slots op.depth st ready.sits;
  operands = ready.operands;
  scopes = ready.scopes;
  lists = ready.lists;
  endings = ready.endings;
  names = ready.names;
}
