-- The scope of a function's own name.
use Rattle.std.proofs.Common.{◌≡◌, ℕ, zero, suc, List, [], ◌∷◌, ◌++◌, Option, Some, None, cond, length, map, ap, refl, sym, ◌∙◌, subst, slice_get, slice_set, arith}
use Rattle.std.specs.Option.{option_map_or}
use Rattle.std.proofs.lemmas.List.{append-nil, map-append}
use Rattle.std.proofs.lemmas.Option.{slice_get-map, slice_get_within}
use Rattle.std.specs.Option.{option_map}
use Rattle.std.proofs.lemmas.Slice.Eq.{bytes_eq-Decides}
use Rattle.njs_value.specs.declared.ScopeId.{ScopeId}
use Rattle.njs_value.specs.declared.Value.{Value}
use Rattle.njs_value.specs.declared.Value.TheVariants as value
use Rattle.njs_shared.specs.declared.object.Scope.{Scope}
use Rattle.njs_shared.specs.Heap.{Heap}
use Rattle.njs_clone.specs.Content.{content}
use Rattle.njs_clone.specs.Scopes.{with_new_scope, with_slot}
use Rattle.njs_clone.specs.StandsFor.{plain_objects}
use Rattle.njs_convert.specs.FirstHeap.{StandsFor, slots_of, nameless}
use Rattle.njs_meaning.specs.PlainHeap.{PlainScope, Variable}
use Rattle.njs_meaning.specs.Primitives.{Undefined}
use Rattle.njs_meaning.specs.Scopes.{fixed, with_variable, with_value}
use Rattle.njs_meaning.specs.State.{State}
use Rattle.njs_meaning.specs.Values.{PlainValue, Simple}
use Rattle.njs_interp.specs.Plain.{heap_of}
use Rattle.njs_interp.specs.Acts.{OnHeap}
use Rattle.njs_interp.specs.Grown.{Grown, SameShape}
use Rattle.njs_interp.specs.Making.{MakesScope, NamesFunction}
use Rattle.njs_interp.proofs.Kept.{front-at, Grown-refl}

pub last_there : {X : Type 0} (xs : List X) (x : X) → slice_get (xs ++ x ∷ []) (length xs) ≡ Some x
last_there [] x = refl
last_there (y ∷ xs) x = last_there xs x

pub grown-same : (h k : Heap) → k ≡ h → Grown h k
grown-same h k is = subst (Grown h) (sym is) (Grown-refl h)

-- ---- the scope is made

abbrev one_slot : ScopeId → Scope
one_slot parent = record { parent = Some parent; slots = value.Undefined ∷ [] }

module _ (h k : Heap) (parent : ScopeId) (is : k ≡ record h { scopes = with_new_scope (Some parent) 1 h.scopes }) where
  pub scope-grown : Grown h k
  scope-grown = subst (Grown h) (sym is) (record {
    widens = record {
      scopes = λ at scope there. record { now = scope; there = front-at h.scopes (one_slot parent ∷ []) at scope there; parent = refl; slots = refl };
      objects = λ at o there. record { now = o; there = there; inner = refl };
      more = [];
      texts = sym (append-nil h.texts);
    };
    fresh = λ at o there far. absurd (omega (arith, far, slice_get_within h.objects at o there));
  })

  pub scope-made : MakesScope parent h k
  scope-made = record {
    there = ap (λ (m : Heap). slice_get m.scopes (length h.scopes)) is ∙ last_there h.scopes (one_slot parent);
    by = λ name s stands. record {
      stands = record {
        objects = ap plain_objects is ∙ stands.objects;
        scopes =
            ap (λ (m : Heap). map (slots_of m.texts) m.scopes) is ∙ map-append (slots_of h.texts) h.scopes (one_slot parent ∷ [])
            ∙ ap (λ ss. ss ++ (Some parent, Simple Undefined ∷ []) ∷ []) stands.scopes
            ∙ sym (map-append nameless s.scopes (record { parent = Some parent; variables = fixed name (Simple Undefined) ∷ [] } ∷ []));
      };
      beside = record { response = refl; zones = refl; asked = refl; log = refl; ticks = refl };
    };
  }

-- ---- the name gets its value

set_mapped : {X Y : Type 0} (f : X → Y) (xs : List X) (at : ℕ) (x : X) → map f (slice_set xs at x) ≡ slice_set (map f xs) at (f x)
set_mapped f [] at x = refl
set_mapped f (y ∷ xs) zero x = refl
set_mapped f (y ∷ xs) (suc at) x = ap (λ ys. f y ∷ ys) (set_mapped f xs at x)

set_count : {X : Type 0} (xs : List X) (at : ℕ) (x : X) → length (slice_set xs at x) ≡ length xs
set_count [] at x = refl
set_count (y ∷ xs) zero x = refl
set_count (y ∷ xs) (suc at) x = ap suc (set_count xs at x)

set_shape : (scopes : List Scope) (at : ℕ) (held set : Scope) → slice_get scopes at ≡ Some held → set.parent ≡ held.parent → length set.slots ≡ length held.slots
    → (i : ℕ) (scope : Scope) → slice_get scopes i ≡ Some scope → SameShape scope (slice_set scopes at set) i
set_shape [] at held set there parent count i scope here = cc
set_shape (s ∷ ss) zero held set there parent count zero scope here =
    let a : s ≡ held = cc in
    let b : s ≡ scope = cc in
    let same : held ≡ scope = cc in
    record { now = set; there = refl; parent = parent ∙ ap (λ (s : Scope). s.parent) same; slots = count ∙ ap (λ (s : Scope). length s.slots) same }
set_shape (s ∷ ss) zero held set there parent count (suc i) scope here = record { now = scope; there = here; parent = refl; slots = refl }
set_shape (s ∷ ss) (suc at) held set there parent count zero scope here = record { now = scope; there = here; parent = refl; slots = refl }
set_shape (s ∷ ss) (suc at) held set there parent count (suc i) scope here =
    let rest = set_shape ss at held set there parent count i scope here in
    record { now = rest.now; there = rest.there; parent = rest.parent; slots = rest.slots }

module _ (h : Heap) (at : ℕ) (v : Value) where
  abbrev set_by : Option Scope → List Scope
  set_by r = option_map_or (λ (s : Scope). slice_set h.scopes at (record s { slots = slice_set s.slots 0 v })) r h.scopes

  shapes : (r : Option Scope) → slice_get h.scopes at ≡ r → (i : ℕ) (scope : Scope) → slice_get h.scopes i ≡ Some scope → SameShape scope (set_by r) i
  shapes None is i scope there = record { now = scope; there = there; parent = refl; slots = refl }
  shapes (Some held) is i scope there = set_shape h.scopes at held (record held { slots = slice_set held.slots 0 v }) is refl (set_count held.slots 0 v) i scope there

  pub slot-grown : (k : Heap) → k ≡ record h { scopes = with_slot at 0 v h.scopes } → Grown h k
  slot-grown k is = subst (Grown h) (sym is) (record {
    widens = record {
      scopes = shapes (slice_get h.scopes at) refl;
      objects = λ at o there. record { now = o; there = there; inner = refl };
      more = [];
      texts = sym (append-nil h.texts);
    };
    fresh = λ at o there far. absurd (omega (arith, far, slice_get_within h.objects at o there));
  })

  module _ (name : List ℕ) (parent : Option ScopeId) (w : PlainValue) (s : State) (stands : StandsFor h (heap_of s)) (there : slice_get s.scopes at ≡ Some (record { parent = parent; variables = fixed name w ∷ [] })) where
    abbrev held : Option ScopeId × List PlainValue
    held = (parent, w ∷ [])

    slots_there : option_map (slots_of h.texts) (slice_get h.scopes at) ≡ Some held
    slots_there =
        sym (slice_get-map (slots_of h.texts) h.scopes at) ∙ ap (λ ss. slice_get ss at) stands.scopes ∙ slice_get-map nameless s.scopes at ∙ ap (option_map nameless) there

    first_set : (slots : List Value) → map (content h.texts) slots ≡ w ∷ [] → map (content h.texts) (slice_set slots 0 v) ≡ content h.texts v ∷ []
    first_set [] is = cc
    first_set (x ∷ []) is = refl
    first_set (x ∷ (y ∷ xs)) is = cc

    machine_side : (r : Option Scope) → option_map (slots_of h.texts) r ≡ Some held → map (slots_of h.texts) (set_by r) ≡ slice_set (map nameless s.scopes) at (parent, content h.texts v ∷ [])
    machine_side None is = cc
    machine_side (Some scope) is =
        let same : slots_of h.texts scope ≡ held = cc in
        let above : scope.parent ≡ parent = ap (λ p. p.0) same in
        let slots : map (content h.texts) scope.slots ≡ w ∷ [] = ap (λ p. p.1) same in
        set_mapped (slots_of h.texts) h.scopes at (record scope { slots = slice_set scope.slots 0 v })
        ∙ ap (λ ss. slice_set ss at (slots_of h.texts (record scope { slots = slice_set scope.slots 0 v }))) stands.scopes
        ∙ ap (λ p. slice_set (map nameless s.scopes) at (p, map (content h.texts) (slice_set scope.slots 0 v))) above
        ∙ ap (λ vs. slice_set (map nameless s.scopes) at (parent, vs)) (first_set scope.slots slots)

    abbrev named : List Variable → PlainScope
    named vs = record { parent = parent; variables = vs }

    plain_side : map nameless (with_variable name (content h.texts v) s.scopes at) ≡ slice_set (map nameless s.scopes) at (parent, content h.texts v ∷ [])
    plain_side =
        ap (λ r. map nameless (option_map_or (λ (scope : PlainScope). slice_set s.scopes at (record scope { variables = with_value name (content h.texts v) scope.variables })) r s.scopes)) there
        ∙ ap (λ b. map nameless (slice_set s.scopes at (named (cond b (fixed name (content h.texts v) ∷ []) (fixed name w ∷ []))))) ((bytes_eq-Decides name name).1 refl)
        ∙ set_mapped nameless s.scopes at (named (fixed name (content h.texts v) ∷ []))

    pub slot-stands : (k : Heap) → k ≡ record h { scopes = with_slot at 0 v h.scopes } → OnHeap k s (record s { scopes = with_variable name (content h.texts v) s.scopes at })
    slot-stands k is = record {
      stands = record {
        objects = ap plain_objects is ∙ stands.objects;
        scopes = ap (λ (m : Heap). map (slots_of m.texts) m.scopes) is ∙ machine_side (slice_get h.scopes at) slots_there ∙ sym plain_side;
      };
      beside = record { response = refl; zones = refl; asked = refl; log = refl; ticks = refl };
    }

  pub slot-named : (k : Heap) → k ≡ record h { scopes = with_slot at 0 v h.scopes } → NamesFunction at v h k
  slot-named k is = record { by = λ name parent w s stands there. slot-stands name parent w s stands there k is }
