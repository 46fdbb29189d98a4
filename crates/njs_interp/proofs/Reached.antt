-- Slots that are read and written, on the machine and by content.
use Rattle.std.proofs.Common.{◌≡◌, ℕ, zero, suc, ◌+◌, ◌-◌, ◌<◌, ◌⊎◌, inl, inr, List, [], ◌∷◌, ◌++◌, length, map, replicate, Option, Some, None, Result, Ok, Err, slice_get, slice_set, ap, refl, sym, ◌∙◌, subst, arith}
use Rattle.std.specs.Option.{option_map, option_map_or, option_and_then}
use Rattle.std.proofs.lemmas.List.{map-set, append-nil}
use Rattle.std.proofs.lemmas.Option.{slice_get-map, slice_get_within}
use Rattle.njs_value.specs.declared.ScopeId.{ScopeId}
use Rattle.njs_value.specs.declared.Value.{Value}
use Rattle.njs_shared.specs.declared.object.Scope.{Scope}
use Rattle.njs_shared.specs.Heap.{Heap, sizes}
use Rattle.njs_shared.specs.Fits.{FitsValue}
use Rattle.std.specs.List.{AllByRecursion}
use Rattle.njs_clone.specs.Content.{content}
use Rattle.njs_clone.specs.Scopes.{slot_count, slot_at, with_slot}
use Rattle.njs_code.specs.Valid.{slots_outwards, outermost}
use Rattle.njs_code.specs.Facts.{HasSlot, Names}
use Rattle.njs_code.specs.Effects.{depth_next}
use Rattle.njs_code.specs.declared.op.Kind.{Kind}
use Rattle.njs_code.specs.declared.op.Op.{Op}
use Rattle.njs_code.specs.declared.code.FunctionCode.{FunctionCode}
use Rattle.njs_code.specs.declared.op.Kind.TheVariants as kind
use Rattle.njs_meaning.specs.Primitives.{Undefined}
use Rattle.njs_meaning.specs.Values.{PlainValue, Simple}
use Rattle.njs_meaning.specs.PlainHeap.{PlainScope, Variable}
use Rattle.njs_meaning.specs.State.{State}
use Rattle.njs_convert.specs.declared.stop.Stop.{Stop}
use Rattle.njs_convert.specs.declared.stop.Stop.TheVariants.{Throw, Fuel, NoMemory}
use Rattle.njs_convert.specs.FirstHeap.{StandsFor, slots_of, nameless}
use Rattle.njs_simul.specs.Stacks.{push, inner, Frame}
use Rattle.njs_simul.specs.Step.{ancestor, value_at, with_slot_value, with_value_at, in_slot, on_top, Goes, act}
use Rattle.njs_simul.proofs.Kept.{set_kept}
use Rattle.njs_interp.specs.declared.stacks.Stacks.{Stacks}
use Rattle.njs_interp.specs.Plain.{heap_of, number_of, plain_stacks}
use Rattle.njs_interp.specs.Sits.{HasSlots, SlotsFrom, Entered, Sits, Ready}
use Rattle.njs_interp.specs.Acts.{OnHeap, Unanswered, Acts, state_in}
use Rattle.njs_interp.specs.Grown.{SameShape, Grown}
use Rattle.njs_interp.specs.Tells.{ActsOnHeap, Leaves}
use Rattle.njs_interp.specs.Operands.{Pushed, Takes, Gives}
use Rattle.njs_interp.specs.Slots.{outwards, HasPut}
use Rattle.njs_interp.proofs.Kept.{OnHeap-refl, Unanswered-refl, Grown-refl, Sits-widened}

-- ---- the scopes outwards

outwards_found : (up : ℕ) (scopes : List Scope) (at : ℕ) (r : Option ScopeId) (found : Option Scope) → Some r ≡ option_map (λ (s : Scope). s.parent) found
    → option_map_or (λ (s : Scope). option_map_or (λ (p : ScopeId). outwards up scopes p.0) s.parent at) found at ≡ option_map_or (λ (p : ScopeId). outwards up scopes p.0) r at
outwards_found up scopes at r None is = cc
outwards_found up scopes at r (Some s) is = let same : s.parent ≡ r = cc in ap (λ (q : Option ScopeId). option_map_or (λ (p : ScopeId). outwards up scopes p.0) q at) same

pub outwards-next : (up : ℕ) (scopes : List Scope) (at : ℕ) (r : Option ScopeId) → Some r ≡ option_map (λ (s : Scope). s.parent) (slice_get scopes at)
    → outwards (suc up) scopes at ≡ option_map_or (λ (p : ScopeId). outwards up scopes p.0) r at
outwards-next up scopes at r is = outwards_found up scopes at r (slice_get scopes at) is

-- with so many steps left
pub outwards-step : (up step : ℕ) (scopes : List Scope) (at : ℕ) (r : Option ScopeId) → step < up → Some r ≡ option_map (λ (s : Scope). s.parent) (slice_get scopes at)
    → outwards (up - step) scopes at ≡ option_map_or (λ (p : ScopeId). outwards (up - (step + 1)) scopes p.0) r at
outwards-step up step scopes at r below is =
    let left : up - step ≡ suc (up - (step + 1)) = omega arith in
    ap (λ n. outwards n scopes at) left ∙ outwards-next (up - (step + 1)) scopes at r is

module _ (scopes : List Scope) where
  counted : (count at : ℕ) → (has : HasSlots count scopes at) → (n : ℕ) (slot : ℕ) → n ≡ count → slot < n → slot < slot_count scopes at
  counted count at has n slot same below =
      let enough = has.slots in
      subst (λ k. slot < k) (sym (ap (λ found. option_map_or (λ (s : Scope). length s.slots) found 0) has.there)) (omega (arith, enough, same, below))

  -- a slot that is counted on is there
  pub slot-there : (slots : List ℕ) (at up slot : ℕ) → SlotsFrom slots scopes at → HasSlot (slice_get slots up) slot → slot < slot_count scopes (outwards up scopes at)
  slot-there [] at up slot from has = absurd from
  slot-there (count ∷ []) at zero slot from has = let same : has.count ≡ count = cc (has.scope_is) in counted count at from.1 has.count slot same has.below
  slot-there (count ∷ []) at (suc up) slot from has = cc (has.scope_is)
  slot-there (count ∷ (next ∷ rest)) at zero slot from has = let same : has.count ≡ count = cc (has.scope_is) in counted count at from.0 has.count slot same has.below
  slot-there (count ∷ (next ∷ rest)) at (suc up) slot from has =
      let out : outwards (suc up) scopes at ≡ outwards up scopes from.1.0 =
      outwards-next up scopes at (Some from.1) (ap Some (sym from.2) ∙ sym (ap (option_map (λ (s : Scope). s.parent)) from.0.there))
      in
      subst (λ k. slot < slot_count scopes k) (sym out) (slot-there (next ∷ rest) from.1.0 up slot from.3 has)

  pub from-within : (slots : List ℕ) (at : ℕ) → SlotsFrom slots scopes at → at < length scopes
  from-within [] at from = absurd from
  from-within (count ∷ []) at from = slice_get_within scopes at from.1.scope from.1.there
  from-within (count ∷ (next ∷ rest)) at from = slice_get_within scopes at from.0.scope from.0.there

  outermost_from : (slots : List ℕ) (at slot : ℕ) → SlotsFrom slots scopes at → HasSlot (outermost slots) slot → slot < slot_count scopes 0
  outermost_from [] at slot from has = absurd from
  outermost_from (count ∷ []) at slot from has =
      let same : has.count ≡ count = cc (has.scope_is) in
      counted count 0 (subst (HasSlots count scopes) from.0 from.1) has.count slot same has.below
  outermost_from (count ∷ (next ∷ rest)) at slot from has =
      let last : length (count ∷ (next ∷ rest)) - 1 ≡ suc (length (next ∷ rest) - 1) = omega arith in
      let same : slice_get (count ∷ (next ∷ rest)) (length (count ∷ (next ∷ rest)) - 1) ≡ slice_get (next ∷ rest) (length (next ∷ rest) - 1) = ap (slice_get (count ∷ (next ∷ rest))) last in
      outermost_from (next ∷ rest) from.1.0 slot from.3 (record { count = has.count; scope_is = sym same ∙ has.scope_is; below = has.below })

  -- the scope that was entered last
  pub innermost-from : (slots : List ℕ) (own : ScopeId) (below entered : List ScopeId) (n : ℕ) → entered ≡ own ∷ below → length entered ≡ n → Entered slots scopes entered → SlotsFrom (slots_outwards slots n) scopes own.0
  innermost-from slots own below [] n is count all = absurd all
  innermost-from slots own below (top ∷ []) n is count all =
      let same : top ≡ own = cc in
      subst (λ k. SlotsFrom (slots_outwards slots k) scopes own.0) count (subst (λ (s : ScopeId). SlotsFrom slots scopes s.0) same all)
  innermost-from slots own below (top ∷ (next ∷ rest)) n is count all =
      let same : top ≡ own = cc in
      let left : length rest + 1 ≡ n - 1 = omega arith in
      subst (λ k. SlotsFrom (replicate k 1 ++ slots) scopes own.0) left (subst (λ (s : ScopeId). SlotsFrom (replicate (length rest + 1) 1 ++ slots) scopes s.0) same all.0)

  pub outermost-there : (slots : List ℕ) (entered : List ScopeId) (slot : ℕ) → Entered slots scopes entered → HasSlot (outermost slots) slot → slot < slot_count scopes 0
  outermost-there slots [] slot all has = absurd all
  outermost-there slots (own ∷ []) slot all has = outermost_from slots own.0 slot all has
  outermost-there slots (top ∷ (next ∷ rest)) slot all has = outermost-there slots (next ∷ rest) slot all.1 has

  -- a slot that is there is one of a scope that is there
  pub counted-within : (at slot : ℕ) → slot < slot_count scopes at → at < length scopes
  counted-within at slot below = by (slice_get scopes at) refl below
    where
      by : (found : Option Scope) → slice_get scopes at ≡ found → slot < option_map_or (λ (s : Scope). length s.slots) found 0 → at < length scopes
      by None is below = absurd (omega arith)
      by (Some s) is below = slice_get_within scopes at s is

-- ---- by content

module _ (texts : List (List ℕ)) (scopes : List Scope) (plain : List PlainScope) (same : map (slots_of texts) scopes ≡ map nameless plain) where
  at_both : (at : ℕ) → option_map (slots_of texts) (slice_get scopes at) ≡ option_map nameless (slice_get plain at)
  at_both at = sym (slice_get-map (slots_of texts) scopes at) ∙ ap (λ l. slice_get l at) same ∙ slice_get-map nameless plain at

  value_of : (vs : List Value) (ws : List Variable) (slot : ℕ) (v : Value) → map (content texts) vs ≡ map (λ (w : Variable). w.value) ws → slice_get vs slot ≡ Some v
      → option_map_or (λ (w : Variable). w.value) (slice_get ws slot) (Simple Undefined) ≡ content texts v
  value_of vs ws slot v each is = by (slice_get ws slot) (sym (slice_get-map (λ (w : Variable). w.value) ws slot) ∙ ap (λ l. slice_get l slot) (sym each) ∙ slice_get-map (content texts) vs slot ∙ ap (option_map (content texts)) is)
    where
      by : (found : Option Variable) → option_map (λ (w : Variable). w.value) found ≡ Some (content texts v) → option_map_or (λ (w : Variable). w.value) found (Simple Undefined) ≡ content texts v
      by None is = cc
      by (Some w) is = cc

  value_both : (slot : ℕ) (v : Value) (f : Option Scope) (g : Option PlainScope) → option_map (slots_of texts) f ≡ option_map nameless g → option_and_then (λ (s : Scope). slice_get s.slots slot) f ≡ Some v
      → option_map_or (λ (w : Variable). w.value) (option_and_then (λ (s : PlainScope). slice_get s.variables slot) g) (Simple Undefined) ≡ content texts v
  value_both slot v None g both is = cc
  value_both slot v (Some s) None both is = cc
  value_both slot v (Some s) (Some p) both is =
      let pair : slots_of texts s ≡ nameless p = cc in
      value_of s.slots p.variables slot v (ap (λ (q : Option ScopeId × List PlainValue). q.1) pair) is

  pub value-same : (at slot : ℕ) (v : Value) → slot_at scopes at slot ≡ Some v → value_at plain at slot ≡ content texts v
  value-same at slot v is = value_both slot v (slice_get scopes at) (slice_get plain at) (at_both at) is

  ancestor_parent : (up at : ℕ) (go : (at : ℕ) → ancestor up plain at ≡ outwards up scopes at) (q : Option ScopeId)
      → option_map_or (λ (p : ScopeId). ancestor up plain p.0) q at ≡ option_map_or (λ (p : ScopeId). outwards up scopes p.0) q at
  ancestor_parent up at go None = refl
  ancestor_parent up at go (Some p) = go p.0

  ancestor_found : (up at : ℕ) (go : (at : ℕ) → ancestor up plain at ≡ outwards up scopes at) (f : Option Scope) (g : Option PlainScope) → option_map (slots_of texts) f ≡ option_map nameless g
      → option_map_or (λ (s : PlainScope). option_map_or (λ (p : ScopeId). ancestor up plain p.0) s.parent at) g at
      ≡ option_map_or (λ (s : Scope). option_map_or (λ (p : ScopeId). outwards up scopes p.0) s.parent at) f at
  ancestor_found up at go None None both = refl
  ancestor_found up at go None (Some p) both = cc
  ancestor_found up at go (Some s) None both = cc
  ancestor_found up at go (Some s) (Some p) both =
      let pair : slots_of texts s ≡ nameless p = cc in
      let parents : s.parent ≡ p.parent = ap (λ (q : Option ScopeId × List PlainValue). q.0) pair in
      ap (λ (q : Option ScopeId). option_map_or (λ (p : ScopeId). ancestor up plain p.0) q at) (sym parents) ∙ ancestor_parent up at go s.parent

  pub ancestor-same : (up at : ℕ) → ancestor up plain at ≡ outwards up scopes at
  ancestor-same zero at = refl
  ancestor-same (suc up) at = ancestor_found up at (ancestor-same up) (slice_get scopes at) (slice_get plain at) (at_both at)

  -- with a value in a slot
  set_none : {A : Type 0} (xs : List A) (i : ℕ) (x : A) → slice_get xs i ≡ None → slice_set xs i x ≡ xs
  set_none [] i x none = refl
  set_none (y ∷ ys) zero x none = cc
  set_none (y ∷ ys) (suc i) x none = ap (λ l. y ∷ l) (set_none ys i x none)

  variables_set : (ws : List Variable) (slot : ℕ) (v : PlainValue) → map (λ (w : Variable). w.value) (with_slot_value slot v ws) ≡ slice_set (map (λ (w : Variable). w.value) ws) slot v
  variables_set ws slot v = by (slice_get ws slot) refl
    where
      by : (found : Option Variable) → slice_get ws slot ≡ found
          → map (λ (w : Variable). w.value) (option_map_or (λ (w : Variable). slice_set ws slot (record w { value = v })) found ws) ≡ slice_set (map (λ (w : Variable). w.value) ws) slot v
      by None is = sym (set_none (map (λ (w : Variable). w.value) ws) slot v (slice_get-map (λ (w : Variable). w.value) ws slot ∙ ap (option_map (λ (w : Variable). w.value)) is))
      by (Some w) is = map-set (λ (w : Variable). w.value) ws slot (record w { value = v })

  pub slots-set : (at slot : ℕ) (v : Value) → map (slots_of texts) (with_slot at slot v scopes) ≡ map nameless (with_value_at plain at slot (content texts v))
  slots-set at slot v = by (slice_get scopes at) (slice_get plain at) (at_both at)
    where
      by : (f : Option Scope) (g : Option PlainScope) → option_map (slots_of texts) f ≡ option_map nameless g
          → map (slots_of texts) (option_map_or (λ (s : Scope). slice_set scopes at (record s { slots = slice_set s.slots slot v })) f scopes)
          ≡ map nameless (option_map_or (λ (s : PlainScope). slice_set plain at (record s { variables = with_slot_value slot (content texts v) s.variables })) g plain)
      by None None both = same
      by None (Some p) both = cc
      by (Some s) None both = cc
      by (Some s) (Some p) both =
          let pair : slots_of texts s ≡ nameless p = cc in
          let parents : s.parent ≡ p.parent = ap (λ (q : Option ScopeId × List PlainValue). q.0) pair in
          let values : map (content texts) s.slots ≡ map (λ (w : Variable). w.value) p.variables = ap (λ (q : Option ScopeId × List PlainValue). q.1) pair in
          let set : map (content texts) (slice_set s.slots slot v) ≡ map (λ (w : Variable). w.value) (with_slot_value slot (content texts v) p.variables) =
          map-set (content texts) s.slots slot v ∙ ap (λ l. slice_set l slot (content texts v)) values ∙ sym (variables_set p.variables slot (content texts v))
          in
          map-set (slots_of texts) scopes at (record s { slots = slice_set s.slots slot v })
          ∙ ap (λ l. slice_set l at (s.parent, map (content texts) (slice_set s.slots slot v))) same
          ∙ ap (λ (q : Option ScopeId). slice_set (map nameless plain) at (q, map (content texts) (slice_set s.slots slot v))) parents
          ∙ ap (λ (l : List PlainValue). slice_set (map nameless plain) at (p.parent, l)) set
          ∙ sym (map-set nameless plain at (record p { variables = with_slot_value slot (content texts v) p.variables }))

-- ---- what the operations tell

inner_top : (own : ScopeId) (below scopes : List ScopeId) → scopes ≡ own ∷ below → inner (map number_of scopes) ≡ own.0
inner_top own below scopes is = ap (λ (l : List ScopeId). inner (map number_of l)) is

pub load-told : (h : Heap) (up slot : ℕ) (own : ScopeId) (below : List ScopeId) (at : ℕ) (v : Value) (before after : Stacks) (r : Result (Unit {0}) Stop)
    → before.scopes ≡ own ∷ below → at ≡ outwards up h.scopes own.0 → slot_at h.scopes at slot ≡ Some v → Pushed v before after r → ActsOnHeap (kind.Load up slot) h h before after r
load-told h up slot own below at v before after (Ok done) top place is pushed = record {
  by = λ frame code rest s stands.
      let there : ancestor up s.scopes (inner (map number_of before.scopes)) ≡ at = ap (ancestor up s.scopes) (inner_top own below before.scopes top) ∙ ancestor-same h.texts h.scopes s.scopes stands.scopes up own.0 ∙ sym place in
      let shown = ap (λ k. value_at s.scopes k slot) there ∙ value-same h.texts h.scopes s.scopes stands.scopes at slot v is in
      (refl, ap (λ w. push w (plain_stacks h.texts before)) shown ∙ ap (plain_stacks h.texts) (sym pushed), OnHeap-refl h s stands);
}
load-told h up slot own below at v before after (Err (Throw w)) top place is pushed = absurd pushed
load-told h up slot own below at v before after (Err Fuel) top place is pushed = absurd pushed
load-told h up slot own below at v before after (Err NoMemory) top place is pushed = record { by = λ frame code rest s stands. Unanswered-refl s }

pub load_global-told : (h : Heap) (slot : ℕ) (v : Value) (before after : Stacks) (r : Result (Unit {0}) Stop)
    → slot_at h.scopes 0 slot ≡ Some v → Pushed v before after r → ActsOnHeap (kind.LoadGlobal slot) h h before after r
load_global-told h slot v before after (Ok done) is pushed = record {
  by = λ frame code rest s stands.
      (refl, ap (λ w. push w (plain_stacks h.texts before)) (value-same h.texts h.scopes s.scopes stands.scopes 0 slot v is) ∙ ap (plain_stacks h.texts) (sym pushed), OnHeap-refl h s stands);
}
load_global-told h slot v before after (Err (Throw w)) is pushed = absurd pushed
load_global-told h slot v before after (Err Fuel) is pushed = absurd pushed
load_global-told h slot v before after (Err NoMemory) is pushed = record { by = λ frame code rest s stands. Unanswered-refl s }

-- ---- heaps with another value in a slot

module _ (old : Heap) (at slot : ℕ) (v : Value) where
  set_length : {A : Type 0} (xs : List A) (i : ℕ) (x : A) → length (slice_set xs i x) ≡ length xs
  set_length [] i x = refl
  set_length (y ∷ ys) zero x = refl
  set_length (y ∷ ys) (suc i) x = let rest = set_length ys i x in omega arith

  shape_kept : (place : ℕ) (scope : Scope) → slice_get old.scopes place ≡ Some scope → SameShape scope (with_slot at slot v old.scopes) place
  shape_kept place scope there = by (slice_get old.scopes at) refl
    where
      either : (s : Scope) → (slice_get (slice_set old.scopes at (record s { slots = slice_set s.slots slot v })) place ≡ Some scope)
          ⊎ ((slice_get (slice_set old.scopes at (record s { slots = slice_set s.slots slot v })) place ≡ Some (record s { slots = slice_set s.slots slot v })) × (s ≡ scope))
          → SameShape scope (slice_set old.scopes at (record s { slots = slice_set s.slots slot v })) place
      either s (inl kept) = record { now = scope; there = kept; parent = refl; slots = refl }
      either s (inr changed) = record {
        now = record s { slots = slice_set s.slots slot v };
        there = changed.0;
        parent = ap (λ (t : Scope). t.parent) changed.1;
        slots = set_length s.slots slot v ∙ ap (λ (t : Scope). length t.slots) changed.1;
      }

      by : (found : Option Scope) → slice_get old.scopes at ≡ found → SameShape scope (option_map_or (λ (s : Scope). slice_set old.scopes at (record s { slots = slice_set s.slots slot v })) found old.scopes) place
      by None is = record { now = scope; there = there; parent = refl; slots = refl }
      by (Some s) is = either s (set_kept old.scopes at place s (record s { slots = slice_set s.slots slot v }) scope is there)

  grown_put : Grown old (record old { scopes = with_slot at slot v old.scopes })
  grown_put = record {
    widens = record {
      scopes = shape_kept;
      objects = λ place object there. record { now = object; there = there; inner = refl };
      more = [];
      texts = sym (append-nil old.texts);
    };
    fresh = λ place object there far. absurd (omega (arith, far, slice_get_within old.objects place object there));
  }

pub put-grown : (at slot : ℕ) (v : Value) (old new : Heap) (r : Result (Unit {0}) Stop) → HasPut at slot v old new r → Grown old new
put-grown at slot v old new (Ok done) put = subst (Grown old) (sym put) (grown_put old at slot v)
put-grown at slot v old new (Err (Throw w)) put = absurd put
put-grown at slot v old new (Err Fuel) put = absurd put
put-grown at slot v old new (Err NoMemory) put = subst (Grown old) (sym put) (Grown-refl old)

-- the heap stands for a state with the value in its slot
pub put-on : (at slot : ℕ) (v : Value) (old new : Heap) (s : State) (place : ℕ) (w : PlainValue) → new ≡ record old { scopes = with_slot at slot v old.scopes }
    → place ≡ at → w ≡ content old.texts v → StandsFor old (heap_of s) → OnHeap new s (record s { scopes = with_value_at s.scopes place slot w })
put-on at slot v old new s place w is there shown stands = subst (λ h. OnHeap h s (record s { scopes = with_value_at s.scopes place slot w })) (sym is) (record {
  stands = record {
    objects = stands.objects;
    scopes =
        slots-set old.texts old.scopes s.scopes stands.scopes at slot v
        ∙ ap (λ k. map nameless (with_value_at s.scopes k slot (content old.texts v))) (sym there) ∙ ap (λ u. map nameless (with_value_at s.scopes place slot u)) (sym shown);
  };
  beside = record { response = refl; zones = refl; asked = refl; log = refl; ticks = refl };
})

-- ---- what is ready

module _ (functions : List FunctionCode) (f : FunctionCode) (op : Op) (h : Heap) (st : Stacks) (ready : Ready functions f op h st) where
  abbrev innermost : (own : ScopeId) (below : List ScopeId) → st.scopes ≡ own ∷ below → SlotsFrom (slots_outwards f.slots op.depth.scopes) h.scopes own.0
  innermost own below is = innermost-from h.scopes f.slots own below st.scopes op.depth.scopes is ready.sits.scopes ready.sits.entered

  pub ready-scope : (own : ScopeId) (below : List ScopeId) → st.scopes ≡ own ∷ below → own.0 < length h.scopes
  ready-scope own below is = from-within h.scopes (slots_outwards f.slots op.depth.scopes) own.0 (innermost own below is)

  pub ready-slot : (own : ScopeId) (below : List ScopeId) (up slot at : ℕ) → st.scopes ≡ own ∷ below → at ≡ outwards up h.scopes own.0
      → HasSlot (slice_get (slots_outwards f.slots op.depth.scopes) up) slot → slot < slot_count h.scopes at
  ready-slot own below up slot at is place has =
      subst (λ k. slot < slot_count h.scopes k) (sym place) (slot-there h.scopes (slots_outwards f.slots op.depth.scopes) own.0 up slot (innermost own below is) has)

  pub ready-outermost : (slot : ℕ) → HasSlot (outermost f.slots) slot → slot < slot_count h.scopes 0
  ready-outermost slot has = outermost-there h.scopes f.slots st.scopes slot ready.sits.entered has

  abbrev names : (k : Kind) → op.kind ≡ k → Names functions f.slots op.depth.scopes k
  names k is = subst (Names functions f.slots op.depth.scopes) is ready.names

  pub load-names : (up slot : ℕ) → op.kind ≡ kind.Load up slot → HasSlot (slice_get (slots_outwards f.slots op.depth.scopes) up) slot
  unfolding Names
  load-names up slot is = names (kind.Load up slot) is

  pub store-names : (up slot : ℕ) → op.kind ≡ kind.Store up slot → HasSlot (slice_get (slots_outwards f.slots op.depth.scopes) up) slot
  unfolding Names
  store-names up slot is = names (kind.Store up slot) is

  pub load_global-names : (slot : ℕ) → op.kind ≡ kind.LoadGlobal slot → HasSlot (outermost f.slots) slot
  unfolding Names
  load_global-names slot is = names (kind.LoadGlobal slot) is

  pub store_global-names : (slot : ℕ) → op.kind ≡ kind.StoreGlobal slot → HasSlot (outermost f.slots) slot
  unfolding Names
  store_global-names slot is = names (kind.StoreGlobal slot) is

  -- an operation of one operand that stays
  pub ready-operand : Takes op.kind 1 → 0 < length st.operands
  ready-operand takes = let enough = ready.operands in omega (arith, enough, takes.operands, ready.sits.operands)

  pub stays-sits : Takes op.kind 1 → Gives op.kind 1 → Sits h f.slots (depth_next op.kind op.depth) st
  stays-sits takes gives =
      let enough = ready.operands in
      let sits = ready.sits in
      record {
        operands = omega (arith, enough, sits.operands, takes.operands, gives.operands);
        scopes = omega (arith, sits.scopes, takes.scopes, gives.scopes);
        lists = omega (arith, sits.lists, takes.lists, gives.lists);
        endings = omega (arith, sits.endings, takes.endings, gives.endings);
        values = sits.values;
        listed = sits.listed;
        ended = sits.ended;
        entered = sits.entered;
      }

  pub top-fits : (v : Value) (vs : List Value) → st.operands ≡ v ∷ vs → FitsValue (sizes h) v
  top-fits v vs is = (subst (AllByRecursion (FitsValue (sizes h))) is ready.sits.values).0

  pub put-leaves : (at slot : ℕ) (v : Value) (new : Heap) (r : Result (Unit {0}) Stop) → Takes op.kind 1 → Gives op.kind 1 → HasPut at slot v h new r → Leaves f op new st r
  put-leaves at slot v new (Ok done) takes gives put =
      Sits-widened h new (put-grown at slot v h new (Ok done) put).widens f.slots (depth_next op.kind op.depth) st (stays-sits takes gives)
  put-leaves at slot v new (Err (Throw w)) takes gives put = absurd put
  put-leaves at slot v new (Err Fuel) takes gives put = absurd put
  put-leaves at slot v new (Err NoMemory) takes gives put = tt

-- ---- what is told of stores

module _ (k : Kind) (old new : Heap) (st : Stacks) (v : Value) (at slot : ℕ) (place : State → ℕ) where
  put_told : (r : Result (Unit {0}) Stop) → HasPut at slot v old new r → ((s : State) → StandsFor old (heap_of s) → place s ≡ at)
      → ((frame : Frame) (code rest : List Op) (s : State) → act frame code k rest (plain_stacks old.texts st) s ≡ Goes rest (plain_stacks old.texts st) (in_slot (place s) slot (content old.texts v) s))
      → ActsOnHeap k old new st st r
  put_told (Ok done) put there acts = record {
    by = λ frame code rest s stands.
        subst (λ a. Acts (OnHeap new s) (Unanswered s) new.texts rest (plain_stacks new.texts st) (Ok done) a) (sym (acts frame code rest s))
        (refl, ap (λ ts. plain_stacks ts st) (sym (ap (λ (m : Heap). m.texts) put)), put-on at slot v old new s (place s) (content old.texts v) put (there s stands) refl stands);
  }
  put_told (Err (Throw w)) put there acts = absurd put
  put_told (Err Fuel) put there acts = absurd put
  put_told (Err NoMemory) put there acts = record {
    by = λ frame code rest s stands.
        subst (λ a. state_in a (Unanswered s)) (sym (acts frame code rest s)) (record { zones = refl; asked = refl });
  }

pub store-told : (old new : Heap) (st : Stacks) (up slot : ℕ) (own : ScopeId) (below : List ScopeId) (at : ℕ) (v : Value) (vs : List Value) (r : Result (Unit {0}) Stop)
    → st.scopes ≡ own ∷ below → at ≡ outwards up old.scopes own.0 → st.operands ≡ v ∷ vs → HasPut at slot v old new r → ActsOnHeap (kind.Store up slot) old new st st r
store-told old new st up slot own below at v vs r scopes place operands put =
    put_told (kind.Store up slot) old new st v at slot (λ s. ancestor up s.scopes (inner (map number_of st.scopes))) r put
    (λ s stands. ap (ancestor up s.scopes) (inner_top own below st.scopes scopes) ∙ ancestor-same old.texts old.scopes s.scopes stands.scopes up own.0 ∙ sym place)
    (λ frame code rest s. ap (λ ws. on_top (map (content old.texts) ws) (λ w ws. Goes rest (plain_stacks old.texts st) (in_slot (ancestor up s.scopes (inner (map number_of st.scopes))) slot w s))) operands)

pub store_global-told : (old new : Heap) (st : Stacks) (slot : ℕ) (v : Value) (vs : List Value) (r : Result (Unit {0}) Stop)
    → st.operands ≡ v ∷ vs → HasPut 0 slot v old new r → ActsOnHeap (kind.StoreGlobal slot) old new st st r
store_global-told old new st slot v vs r operands put =
    put_told (kind.StoreGlobal slot) old new st v 0 slot (λ s. 0) r put (λ s stands. refl)
    (λ frame code rest s. ap (λ ws. on_top (map (content old.texts) ws) (λ w ws. Goes rest (plain_stacks old.texts st) (in_slot 0 slot w s))) operands)
