-- `instanceof` in the states that a heap stands for.
use Rattle.std.proofs.Common.{◌≡◌, ℕ, zero, suc, List, [], ◌∷◌, Some, None, Bool, true, false, cond, ap, refl, sym, ◌∙◌, subst, slice_get, length}
use Rattle.std.specs.Prelude.{◌==◌, ◌||◌, codes, Ok, Err}
use Rattle.std.specs.List.{list_any}
use Rattle.std.specs.Option.{option_map_or, option_and_then}
use Rattle.njs_value.specs.declared.Cause.TheVariants.{NotFunction, NotObject}
use Rattle.njs_value.specs.declared.ObjId.{ObjId}
use Rattle.njs_value.specs.declared.Value.{Value}
use Rattle.njs_value.specs.declared.Value.TheVariants as value
use Rattle.njs_shared.specs.declared.object.Inner.{Inner}
use Rattle.njs_shared.specs.declared.object.Inner.TheVariants as inner
use Rattle.njs_shared.specs.Ends as shared
use Rattle.njs_shared.specs.Heap.{Heap, HeapObject}
use Rattle.njs_clone.specs.Content.{content}
use Rattle.njs_clone.specs.StandsFor.{content_inner, plain_objects}
use Rattle.njs_meaning.specs.Primitives.{Undefined}
use Rattle.njs_meaning.specs.Values.{PlainValue, Simple, ObjectAt}
use Rattle.njs_meaning.specs.PlainHeap.{PlainObject, bound_target}
use Rattle.njs_meaning.specs.Chains.{get}
use Rattle.njs_meaning.specs.State.{State}
use Rattle.njs_meaning.specs.Errors.{throw}
use Rattle.njs_meaning.specs.Conversions.{is_callable}
use Rattle.njs_meaning.specs.Operations.{truth, target_of, behind, is_behind, behind_prototype, is_instance, instance_of}
use Rattle.njs_members.specs.Tells.{TellsTruth}
use Rattle.njs_members.proofs.Started.{get-plain}
use Rattle.njs_members.proofs.Walked.{plain-at, plain-count}

bound_same : (texts : List (List ℕ)) (i : Inner) → bound_target (content_inner texts i) ≡ shared.bound_target i
bound_same texts inner.Plain = refl
bound_same texts (inner.Script unit code scope) = refl
bound_same texts (inner.BuiltIn row) = refl
bound_same texts (inner.Bound target this args) = refl
bound_same texts (inner.ZoneNumber zone) = refl

module _ (h : Heap) where
  -- ---- bound functions

  abbrev pub target_by : ℕ → ℕ → ℕ
  target_by n at = target_of n (plain_objects h) at

  target_opened : (n at : ℕ) (o : HeapObject) → slice_get h.objects at ≡ Some o → target_by (suc n) at ≡ option_map_or (target_of n (plain_objects h)) (shared.bound_target o.inner) at
  target_opened n at o there =
      ap (λ r. option_map_or (target_of n (plain_objects h)) (option_and_then (λ (o : PlainObject). bound_target o.inner) r) at) (plain-at h at o there)
      ∙ ap (λ r. option_map_or (target_of n (plain_objects h)) r at) (bound_same h.texts o.inner)

  pub target-here : (n at : ℕ) (o : HeapObject) → slice_get h.objects at ≡ Some o → shared.bound_target o.inner ≡ None → target_by n at ≡ at
  target-here zero at o there last = refl
  target-here (suc n) at o there last = target_opened n at o there ∙ ap (λ r. option_map_or (target_of n (plain_objects h)) r at) last

  pub target-above : (n m at next : ℕ) (o : HeapObject) → n ≡ suc m → slice_get h.objects at ≡ Some o → shared.bound_target o.inner ≡ Some next → target_by m next ≡ target_by n at
  target-above n m at next o more there leads =
      sym (ap (λ k. target_by k at) more ∙ target_opened m at o there ∙ ap (λ r. option_map_or (target_of m (plain_objects h)) r at) leads)

  -- ---- the chain behind an object

  abbrev pub behind_by : ℕ → ℕ → ℕ → Bool
  behind_by sought n at = list_any (λ up. up == sought) (behind n (plain_objects h) at)

  behind_opened : (sought n at : ℕ) (o : HeapObject) → slice_get h.objects at ≡ Some o
      → behind_by sought (suc n) at ≡ list_any (λ up. up == sought) (option_map_or (λ (up : ObjId). up.0 ∷ behind n (plain_objects h) up.0) o.prototype [])
  behind_opened sought n at o there =
      ap (λ r. list_any (λ up. up == sought) (option_map_or (λ (up : ObjId). up.0 ∷ behind n (plain_objects h) up.0) (option_and_then (λ (o : PlainObject). o.prototype) r) [])) (plain-at h at o there)

  pub behind-nothing : (sought n at : ℕ) (o : HeapObject) → slice_get h.objects at ≡ Some o → o.prototype ≡ None → behind_by sought n at ≡ false
  behind-nothing sought zero at o there last = refl
  behind-nothing sought (suc n) at o there last =
      behind_opened sought n at o there ∙ ap (λ r. list_any (λ up. up == sought) (option_map_or (λ (up : ObjId). up.0 ∷ behind n (plain_objects h) up.0) r [])) last

  above_opened : (sought n at : ℕ) (o : HeapObject) (up : ObjId) → slice_get h.objects at ≡ Some o → o.prototype ≡ Some up → behind_by sought (suc n) at ≡ ((up.0 == sought) || behind_by sought n up.0)
  above_opened sought n at o up there above =
      behind_opened sought n at o there ∙ ap (λ r. list_any (λ up. up == sought) (option_map_or (λ (up : ObjId). up.0 ∷ behind n (plain_objects h) up.0) r [])) above

  pub behind-here : (sought n m at : ℕ) (o : HeapObject) (up : ObjId) → n ≡ suc m → slice_get h.objects at ≡ Some o → o.prototype ≡ Some up → (up.0 == sought) ≡ true → behind_by sought n at ≡ true
  behind-here sought n m at o up more there above is =
      ap (λ k. behind_by sought k at) more ∙ above_opened sought m at o up there above ∙ ap (λ b. b || behind_by sought m up.0) is

  pub behind-above : (sought n m at : ℕ) (o : HeapObject) (up : ObjId) → n ≡ suc m → slice_get h.objects at ≡ Some o → o.prototype ≡ Some up → (up.0 == sought) ≡ false → behind_by sought m up.0 ≡ behind_by sought n at
  behind-above sought n m at o up more there above is =
      sym (ap (λ k. behind_by sought k at) more ∙ above_opened sought m at o up there above ∙ ap (λ b. b || behind_by sought m up.0) is)

  -- ---- what the definition gives

  -- what the name `prototype` reads of the function that one leads to
  pub read-by : (f target : ℕ) (name : List ℕ) (v : Value) → target ≡ target_of (length h.objects) (plain_objects h) f → name ≡ codes "prototype" → v ≡ get value.Undefined name h.objects target
      → get (Simple Undefined) (codes "prototype") (plain_objects h) (target_of (length (plain_objects h)) (plain_objects h) f) ≡ content h.texts v
  read-by f target name v led named found =
      ap (λ n. get (Simple Undefined) (codes "prototype") (plain_objects h) (target_of n (plain_objects h) f)) (plain-count h)
      ∙ ap (get (Simple Undefined) (codes "prototype") (plain_objects h)) (sym led)
      ∙ get-plain h (codes "prototype") target
      ∙ ap (content h.texts) (ap (λ n. get value.Undefined n h.objects target) (sym named) ∙ sym found)

  -- a state with the heap's objects
  abbrev state_with : State → State
  state_with s = record s { objects = plain_objects h }

  in_heap : (P : State → Type 0) (s : State) → s.objects ≡ plain_objects h → P (state_with s) → P s
  in_heap P s stands p = subst P (sym (ap (λ os. record s { objects = os }) stands)) p

  called : (a : PlainValue) (f : ObjId) (s : State) → is_callable (plain_objects h) (ObjectAt f.0) ≡ true → instance_of a (ObjectAt f.0) (state_with s) ≡ is_instance a f.0 (state_with s)
  called a f s callable = ap (λ b. cond b (is_instance a f.0 (state_with s)) (throw NotFunction (state_with s))) callable

  module _ (o f : ObjId) (callable : is_callable (plain_objects h) (ObjectAt f.0) ≡ true) (v : Value)
      (read : get (Simple Undefined) (codes "prototype") (plain_objects h) (target_of (length (plain_objects h)) (plain_objects h) f.0) ≡ content h.texts v) where
    by_prototype : (s : State) → instance_of (ObjectAt o.0) (ObjectAt f.0) (state_with s) ≡ behind_prototype (ObjectAt o.0) (content h.texts v) (state_with s)
    by_prototype s = called (ObjectAt o.0) f s callable ∙ ap (λ w. behind_prototype (ObjectAt o.0) w (state_with s)) read

    pub no-prototype : ((p : ObjId) → v ≡ value.Obj p → ⊥) → TellsTruth (instance_of (ObjectAt o.0) (ObjectAt f.0)) h (Err NotObject)
    no-prototype other s stands =
        in_heap (λ s. instance_of (ObjectAt o.0) (ObjectAt f.0) s ≡ throw NotObject s) s stands (by_prototype s ∙ by v other)
      where
        by : (v : Value) → ((o : ObjId) → v ≡ value.Obj o → ⊥) → behind_prototype (ObjectAt o.0) (content h.texts v) (state_with s) ≡ throw NotObject (state_with s)
        by value.Undefined other = refl
        by value.Null other = refl
        by (value.Bool b) other = refl
        by (value.Num n) other = refl
        by (value.Str t) other = refl
        by (value.Obj o) other = absurd (other o refl)

    pub an-instance : (p : ObjId) (b : Bool) → v ≡ value.Obj p → b ≡ is_behind (plain_objects h) p.0 (ObjectAt o.0) → TellsTruth (instance_of (ObjectAt o.0) (ObjectAt f.0)) h (Ok b)
    an-instance p b is same s stands =
        in_heap (λ s. instance_of (ObjectAt o.0) (ObjectAt f.0) s ≡ truth b s) s stands
        (by_prototype s ∙ ap (λ v. behind_prototype (ObjectAt o.0) (content h.texts v) (state_with s)) is ∙ ap (λ b. truth b (state_with s)) (sym same))
