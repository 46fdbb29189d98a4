-- The states that a machine stands for, when its heap grows.
use Rattle.std.proofs.Common.{◌≡◌, ℕ, zero, suc, ◌<◌, ◌≤◌, List, [], ◌∷◌, ◌++◌, length, map, Option, Some, slice_get, slice_index_or, sym, ap, refl, ◌∙◌, subst, arith, length-append, inl, inr}
use Rattle.std.proofs.lemmas.Bool.{cases_lt}
use Rattle.std.proofs.lemmas.List.{length-map}
use Rattle.std.specs.List.{AllByRecursion}
use Rattle.njs_value.specs.declared.Value.{Value}
use Rattle.njs_value.specs.declared.Value.TheVariants as value
use Rattle.njs_shared.specs.declared.object.Scope.{Scope}
use Rattle.njs_shared.specs.Heap.{Heap, HeapObject, Sizes, sizes}
use Rattle.njs_shared.specs.Fits.{FitsValue, FitsScope, FitsHeap}
use Rattle.njs_value.specs.declared.Row.{Row}
use Rattle.njs_clone.specs.Content.{content}
use Rattle.njs_clone.specs.StandsFor.{mapped_object, content_inner, plain_objects}
use Rattle.njs_shared.specs.declared.object.Inner.{Inner}
use Rattle.njs_shared.specs.declared.object.Inner.TheVariants as inner
use Rattle.njs_meaning.specs.PlainHeap.{PlainObject, PlainScope}
use Rattle.njs_meaning.specs.State.{State}
use Rattle.njs_meaning.specs.Replies.{Known}
use Rattle.njs_convert.specs.Tells.{Extends, IsOrdinary, SameButHost}
use Rattle.njs_interp.specs.Plain.{heap_of}
use Rattle.njs_interp.specs.Acts.{SameBeside}
use Rattle.njs_simul.specs.Fits.{Names, FitsInner, Good}
use Rattle.njs_interp.specs.Sits.{SlotsFrom}
use Rattle.njs_interp.specs.Grown.{SameShape, Widens, FitsFurther, FunctionsFit}
use Rattle.njs_interp.specs.Hosts.{FitsPart, FitsProgram}
use Rattle.njs_convert.specs.FirstHeap.{slots_of, nameless, StandsFor}
use Rattle.njs_interp.specs.Standing.{HasText, HaveTexts, Holds, Stands}

-- the text at a place of a list is there in a longer one
index_front : {A : Type 0} (xs ys : List A) (i : ℕ) (d : A) → i < length xs → slice_index_or (xs ++ ys) i d ≡ slice_index_or xs i d
index_front [] ys i d l = absurd (omega (arith, l))
index_front (x ∷ xs) ys zero d l = refl
index_front (x ∷ xs) ys (suc i) d l = index_front xs ys i d (omega (arith, l))

content_grown : (texts more : List (List ℕ)) (v : Value) → HasText texts v → content (texts ++ more) v ≡ content texts v
content_grown texts more value.Undefined h = refl
content_grown texts more value.Null h = refl
content_grown texts more (value.Bool b) h = refl
content_grown texts more (value.Num n) h = refl
content_grown texts more (value.Str t) h = ap (λ text. content (text ∷ []) (value.Str (record { 0 = 0 }))) (index_front texts more t.0 [] h)
content_grown texts more (value.Obj o) h = refl

slots_grown : (texts more : List (List ℕ)) (slots : List Value) → AllByRecursion (HasText texts) slots → map (content (texts ++ more)) slots ≡ map (content texts) slots
slots_grown texts more [] h = refl
slots_grown texts more (v ∷ vs) h =
    ap (λ c. c ∷ map (content (texts ++ more)) vs) (content_grown texts more v h.0) ∙ ap (λ cs. content texts v ∷ cs) (slots_grown texts more vs h.1)

-- scopes by content are the same where further texts come
pub scopes_grown : (texts more : List (List ℕ)) (scopes : List Scope) → AllByRecursion (λ scope. AllByRecursion (HasText texts) scope.slots) scopes
    → map (slots_of (texts ++ more)) scopes ≡ map (slots_of texts) scopes
scopes_grown texts more [] h = refl
scopes_grown texts more (s ∷ ss) h =
    ap (λ c. (s.parent, c) ∷ map (slots_of (texts ++ more)) ss) (slots_grown texts more s.slots h.0) ∙ ap (λ cs. slots_of texts s ∷ cs) (scopes_grown texts more ss h.1)

has_more : (texts more : List (List ℕ)) (v : Value) → HasText texts v → HasText (texts ++ more) v
has_more texts more value.Undefined h = tt
has_more texts more value.Null h = tt
has_more texts more (value.Bool b) h = tt
has_more texts more (value.Num n) h = tt
has_more texts more (value.Str t) h = omega (arith, h, length-append texts more)
has_more texts more (value.Obj o) h = tt

slots_have_more : (texts more : List (List ℕ)) (slots : List Value) → AllByRecursion (HasText texts) slots → AllByRecursion (HasText (texts ++ more)) slots
slots_have_more texts more [] h = tt
slots_have_more texts more (v ∷ vs) h = (has_more texts more v h.0, slots_have_more texts more vs h.1)

pub scopes_have_more : (texts more : List (List ℕ)) (scopes : List Scope) → AllByRecursion (λ scope. AllByRecursion (HasText texts) scope.slots) scopes
    → AllByRecursion (λ scope. AllByRecursion (HasText (texts ++ more)) scope.slots) scopes
scopes_have_more texts more [] h = tt
scopes_have_more texts more (s ∷ ss) h = (slots_have_more texts more s.slots h.0, scopes_have_more texts more ss h.1)

-- a heap that fits has the texts of its slots
value_has : (n : Sizes) (texts : List (List ℕ)) (v : Value) → n.texts ≡ length texts → FitsValue n v → HasText texts v
value_has n texts value.Undefined e h = tt
value_has n texts value.Null e h = tt
value_has n texts (value.Bool b) e h = tt
value_has n texts (value.Num i) e h = tt
value_has n texts (value.Str t) e h = omega (arith, h, e)
value_has n texts (value.Obj o) e h = tt

slots_have : (n : Sizes) (texts : List (List ℕ)) (vs : List Value) → n.texts ≡ length texts → AllByRecursion (FitsValue n) vs → AllByRecursion (HasText texts) vs
slots_have n texts [] e h = tt
slots_have n texts (v ∷ vs) e h = (value_has n texts v e h.0, slots_have n texts vs e h.1)

scopes_have : (n : Sizes) (texts : List (List ℕ)) (scopes : List Scope) → n.texts ≡ length texts → AllByRecursion (FitsScope n) scopes
    → AllByRecursion (λ scope. AllByRecursion (HasText texts) scope.slots) scopes
scopes_have n texts [] e h = tt
scopes_have n texts (s ∷ ss) e h = (slots_have n texts s.slots e h.0.slots, scopes_have n texts ss e h.1)

pub have_texts : (h : Heap) → FitsHeap h → HaveTexts h
have_texts h fits = scopes_have (sizes h) h.texts h.scopes refl fits.scopes

-- ---- functions

-- what stands at a place of two lists, one behind the other
data Side (A : Type 0) (xs ys : List A) (at : ℕ) (x : A) : Type 0 where
  front : slice_get xs at ≡ Some x → Side A xs ys at x
  back : (place : ℕ) → slice_get ys place ≡ Some x → Side A xs ys at x

side_of : {A : Type 0} (xs ys : List A) (at : ℕ) (x : A) → slice_get (xs ++ ys) at ≡ Some x → Side A xs ys at x
side_of [] ys at x e = back at e
side_of (z ∷ xs) ys zero x e = front e
side_of (z ∷ xs) ys (suc at) x e = elim (side_of xs ys at x e) [ front f ↦ front f | back place b ↦ back place b ]

-- what was mapped to what stands at a place
record Mapped {A B : Type 0} (f : A → B) (xs : List A) (at : ℕ) (y : B) : Type 0 where
  now : A
  there : slice_get xs at ≡ Some now
  is : f now ≡ y

mapped_at : {A B : Type 0} (f : A → B) (xs : List A) (at : ℕ) (y : B) → slice_get (map f xs) at ≡ Some y → Mapped f xs at y
mapped_at f [] at y e = cc
mapped_at f (x ∷ xs) zero y e = record { now = x; there = refl; is = cc }
mapped_at f (x ∷ xs) (suc at) y e = let found = mapped_at f xs at y e in record { now = found.now; there = found.there; is = found.is }

map_at : {A B : Type 0} (f : A → B) (xs : List A) (at : ℕ) (x : A) → slice_get xs at ≡ Some x → slice_get (map f xs) at ≡ Some (f x)
map_at f [] at x e = cc
map_at f (y ∷ xs) zero x e = cc
map_at f (y ∷ xs) (suc at) x e = map_at f xs at x e

all_at : {A : Type 0} (P : A → Type 0) (xs : List A) (at : ℕ) (x : A) → AllByRecursion P xs → slice_get xs at ≡ Some x → P x
all_at P [] at x all e = cc
all_at P (y ∷ xs) zero x all e = let same : y ≡ x = cc in subst P same all.0
all_at P (y ∷ xs) (suc at) x all e = all_at P xs at x all.1 e

-- what an object is beside its properties goes by content without the texts, but for bound functions
good_inner : (env : Names) (a b : List (List ℕ)) (scopes : List PlainScope) (i : Inner) → FitsInner env (content_inner a i) scopes → FitsInner env (content_inner b i) scopes
good_inner env a b scopes inner.Plain h = tt
good_inner env a b scopes (inner.Script unit code scope) h = h
good_inner env a b scopes (inner.BuiltIn row) h = tt
good_inner env a b scopes (inner.Bound target this args) h = tt
good_inner env a b scopes (inner.ZoneNumber zone) h = tt

good_ordinary : (env : Names) (texts : List (List ℕ)) (scopes : List PlainScope) (i : Inner) → IsOrdinary i → FitsInner env (content_inner texts i) scopes
good_ordinary env texts scopes inner.Plain h = tt
good_ordinary env texts scopes (inner.Script unit code scope) h = absurd h
good_ordinary env texts scopes (inner.BuiltIn row) h = absurd h
good_ordinary env texts scopes (inner.Bound target this args) h = tt
good_ordinary env texts scopes (inner.ZoneNumber zone) h = absurd h

abbrev inner_part : HeapObject → Inner
inner_part o = o.inner

-- what an object is in a heap that extends another: what it was, or ordinary
pub extended : (h l : Heap) → Extends h l → (P : Inner → Type 0) → ((at : ℕ) (o : HeapObject) → slice_get h.objects at ≡ Some o → P o.inner) → ((i : Inner) → IsOrdinary i → P i)
    → (at : ℕ) (o : HeapObject) → slice_get l.objects at ≡ Some o → P o.inner
extended h l extends P old ordinary at o there =
    let found : slice_get (map inner_part h.objects ++ extends.others) at ≡ Some o.inner = sym (ap (λ is. slice_get is at) extends.inner) ∙ map_at inner_part l.objects at o there in
    elim (side_of (map inner_part h.objects) extends.others at o.inner found) [
      | front f ↦ (let was = mapped_at inner_part h.objects at o.inner f in subst P was.is (old at was.now was.there))
      | back place b ↦ ordinary o.inner (all_at IsOrdinary extends.others place o.inner extends.ordinary b)
    ]

pub good_extends : (env : Names) (h l : Heap) (s : State) → plain_objects h ≡ s.objects → Good env s → Extends h l → Good env (record s { objects = plain_objects l })
good_extends env h l s same good extends = record {
  each = λ at o there.
      let found = mapped_at (mapped_object (content l.texts) (content_inner l.texts)) l.objects at o there in
      let part : FitsInner env (content_inner l.texts found.now.inner) s.scopes =
      extended h l extends (λ i. FitsInner env (content_inner l.texts i) s.scopes)
      (λ place p was. good_inner env h.texts l.texts s.scopes p.inner
      (good.each place (mapped_object (content h.texts) (content_inner h.texts) p) (ap (λ os. slice_get os place) (sym same) ∙ map_at (mapped_object (content h.texts) (content_inner h.texts)) h.objects place p was)))
      (λ i ordinary. good_ordinary env l.texts s.scopes i ordinary) at found.now found.there
      in
      subst (λ (p : PlainObject). FitsInner env p.inner s.scopes) found.is part;
}

-- a state that a heap stood for, with the objects of one that extends it
pub stands_extends : (keeps : Known → State → Type 0) (ticks : ℕ) (k : Known) (h l : Heap) (s : State) → ((t : State) → t.response ≡ s.response → t.zones ≡ s.zones → t.asked ≡ s.asked → t.log ≡ s.log → keeps k s → keeps k t)
    → Stands keeps ticks k h s → Extends h l → Stands keeps ticks k l (record s { objects = plain_objects l })
stands_extends keeps ticks k h l s same stands extends =
    let t : State = record s { objects = plain_objects l } in
    let old = stands.holds in
    let more = extends.more in
    record {
      holds = record {
        heap = record {
          objects = refl;
          scopes = ap (λ scopes. map (slots_of l.texts) scopes) extends.scopes ∙ ap (λ texts. map (slots_of texts) h.scopes) extends.texts ∙ scopes_grown h.texts more h.scopes old.texts ∙ old.heap.scopes;
        };
        texts = subst (λ scopes. AllByRecursion (λ (scope : Scope). AllByRecursion (HasText l.texts) scope.slots) scopes) (sym extends.scopes)
            (subst (λ texts. AllByRecursion (λ (scope : Scope). AllByRecursion (HasText texts) scope.slots) h.scopes) (sym extends.texts) (scopes_have_more h.texts more h.scopes old.texts));
        kept = same t refl refl refl refl old.kept;
        ticks_are = old.ticks_are;
      };
      good = good_extends k.around h l s old.heap.objects stands.good extends;
    }

-- ---- machines that fit

ordinary_fits : (rows : Row → Type 0) (zones : ℕ) (counts : ℕ → ℕ → Option (List ℕ)) (scopes : List Scope) (i : Inner) → IsOrdinary i → FitsPart rows zones counts scopes i
ordinary_fits rows zones counts scopes inner.Plain h = tt
ordinary_fits rows zones counts scopes (inner.Script unit code scope) h = absurd h
ordinary_fits rows zones counts scopes (inner.BuiltIn row) h = absurd h
ordinary_fits rows zones counts scopes (inner.Bound target this args) h = tt
ordinary_fits rows zones counts scopes (inner.ZoneNumber zone) h = absurd h

within_length : {A : Type 0} (xs : List A) (at : ℕ) (x : A) → slice_get xs at ≡ Some x → at < length xs
within_length [] at x e = cc
within_length (y ∷ xs) zero x e = omega arith
within_length (y ∷ xs) (suc at) x e = (let l = within_length xs at x e in omega arith)

is_there : {A : Type 0} (xs : List A) (at : ℕ) → at < length xs → (x : A) × (slice_get xs at ≡ Some x)
is_there [] at l = absurd (omega (arith, l))
is_there (x ∷ xs) zero l = (x, refl)
is_there (x ∷ xs) (suc at) l = is_there xs at (omega (arith, l))

extends_count : (h l : Heap) → (e : Extends h l) → length h.objects ≤ length l.objects
extends_count h l e = omega (arith, length-map h.objects inner_part, length-map l.objects inner_part, ap length e.inner, length-append (map inner_part h.objects) e.others)

widens_count : (h l : Heap) → Widens h l → length h.objects ≤ length l.objects
widens_count h l w = elim (cases_lt (length l.objects) (length h.objects)) [
  | inl less ↦ (
      let was = is_there h.objects (length l.objects) less in
      let now = w.objects (length l.objects) was.0 was.1 in
      let within = within_length l.objects (length l.objects) now.now now.there in
      omega (arith, within))
  | inr enough ↦ enough
]

pub fits_extends : (rows : Row → Type 0) (zones : ℕ) (counts : ℕ → ℕ → Option (List ℕ)) (h l : Heap) → FitsProgram rows zones counts h → Extends h l → FitsProgram rows zones counts l
fits_extends rows zones counts h l fits extends = record {
  first = (let n = extends_count h l extends in let f = fits.first in omega arith);
  each = λ at o there. subst (λ scopes. FitsPart rows zones counts scopes o.inner) (sym extends.scopes)
      (extended h l extends (FitsPart rows zones counts h.scopes) fits.each (ordinary_fits rows zones counts h.scopes) at o there);
}

-- scopes with slots keep them
pub slots_kept : (old new : List Scope) → ((at : ℕ) (scope : Scope) → slice_get old at ≡ Some scope → SameShape scope new at) → (slots : List ℕ) (at : ℕ) → SlotsFrom slots old at → SlotsFrom slots new at
slots_kept old new shapes [] at h = h
slots_kept old new shapes (n ∷ []) at h =
    let has = h.1 in
    let now = shapes at has.scope has.there in
    (h.0, record { scope = now.now; there = now.there; slots = omega (arith, has.slots, now.slots) })
slots_kept old new shapes (n ∷ (m ∷ rest)) at h =
    let has = h.0 in
    let now = shapes at has.scope has.there in
    (record { scope = now.now; there = now.there; slots = omega (arith, has.slots, now.slots) }, h.1, now.parent ∙ h.2, slots_kept old new shapes (m ∷ rest) h.1.0 h.3)

part_kept : (rows : Row → Type 0) (zones : ℕ) (counts : ℕ → ℕ → Option (List ℕ)) (old new : List Scope) → ((at : ℕ) (scope : Scope) → slice_get old at ≡ Some scope → SameShape scope new at)
    → (i : Inner) → FitsPart rows zones counts old i → FitsPart rows zones counts new i
part_kept rows zones counts old new shapes inner.Plain h = tt
part_kept rows zones counts old new shapes (inner.Script unit code scope) h = (h.0, h.1, slots_kept old new shapes h.0 scope.0 h.2)
part_kept rows zones counts old new shapes (inner.BuiltIn row) h = h
part_kept rows zones counts old new shapes (inner.Bound target this args) h = tt
part_kept rows zones counts old new shapes (inner.ZoneNumber zone) h = h

further_fits : (rows : Row → Type 0) (zones : ℕ) (counts : ℕ → ℕ → Option (List ℕ)) (scopes : List Scope) (i : Inner) → FitsFurther counts scopes i → FitsPart rows zones counts scopes i
further_fits rows zones counts scopes inner.Plain h = tt
further_fits rows zones counts scopes (inner.Script unit code scope) h = h
further_fits rows zones counts scopes (inner.BuiltIn row) h = absurd h
further_fits rows zones counts scopes (inner.Bound target this args) h = tt
further_fits rows zones counts scopes (inner.ZoneNumber zone) h = absurd h

pub fits_grown : (rows : Row → Type 0) (zones : ℕ) (counts : ℕ → ℕ → Option (List ℕ)) (h l : Heap) → FitsProgram rows zones counts h → Widens h l → FunctionsFit counts h l → FitsProgram rows zones counts l
fits_grown rows zones counts h l fits widens functions = record {
  first = (let n = widens_count h l widens in let f = fits.first in omega arith);
  each = λ at o there. elim (cases_lt at (length h.objects)) [
    | inl before ↦ (
        let was = is_there h.objects at before in
        let now = widens.objects at was.0 was.1 in
        let same : now.now ≡ o = cc in
        let part : FitsPart rows zones counts l.scopes was.0.inner = part_kept rows zones counts h.scopes l.scopes widens.scopes was.0.inner (fits.each at was.0 was.1) in
        subst (λ (p : HeapObject). FitsPart rows zones counts l.scopes p.inner) same (subst (FitsPart rows zones counts l.scopes) (sym now.inner) part))
    | inr after ↦ further_fits rows zones counts l.scopes o.inner (functions.fresh at o there after)
  ];
}

-- a state that another heap stands for, where nothing but objects and scopes is other
pub holds_changed : (keeps : Known → State → Type 0) (ticks : ℕ) (k : Known) (h l : Heap) (s t : State) → (t.response ≡ s.response → t.zones ≡ s.zones → t.asked ≡ s.asked → t.log ≡ s.log → keeps k s → keeps k t)
    → Holds keeps ticks k h s → StandsFor l (heap_of t) → FitsHeap l → SameBeside s t → Holds keeps ticks k l t
holds_changed keeps ticks k h l s t same holds stands fits beside = record {
  heap = stands;
  texts = have_texts l fits;
  kept = same beside.response beside.zones beside.asked beside.log holds.kept;
  ticks_are = beside.ticks ∙ holds.ticks_are;
}

-- the same objects, scopes and ticks, with what another host keeps
pub stands_hosted : (keeps later : Known → State → Type 0) (ticks : ℕ) (k : Known) (h : Heap) (s t : State) → Stands keeps ticks k h s → SameButHost s t → later k t → Stands later ticks k h t
stands_hosted keeps later ticks k h s t stands same kept = record {
  holds = record {
    heap = record { objects = stands.holds.heap.objects ∙ sym same.objects; scopes = stands.holds.heap.scopes ∙ ap (map nameless) (sym same.scopes) };
    texts = stands.holds.texts;
    kept = kept;
    ticks_are = same.ticks ∙ stands.holds.ticks_are;
  };
  good = record { each = λ at o there. subst (FitsInner k.around o.inner) (sym same.scopes) (stands.good.each at o (ap (λ os. slice_get os at) (sym same.objects) ∙ there)) };
}
