-- Objects that are made by `new`, and what may be called so.
use Rattle.std.proofs.Common.{◌≡◌, ℕ, suc, List, [], ◌∷◌, ◌++◌, Bool, true, false, Some, Ok, Err, slice_get, refl, sym, ap, ◌∙◌}
use Rattle.std.specs.Option.{option_map, option_map_or}
use Rattle.std.proofs.lemmas.Option.{slice_get-map}
use Rattle.njs_value.specs.declared.ObjId.{ObjId}
use Rattle.njs_value.specs.declared.Class.TheVariants as class
use Rattle.njs_value.specs.declared.Value.{Value}
use Rattle.njs_value.specs.declared.Value.TheVariants as value
use Rattle.njs_shared.specs.Heap.{Heap, HeapObject}
use Rattle.njs_clone.specs.Content.{content}
use Rattle.njs_clone.specs.StandsFor.{mapped_object, content_inner, plain_objects}
use Rattle.njs_meaning.specs.Chains.{get}
use Rattle.njs_meaning.specs.Objects.{with_new_object}
use Rattle.njs_meaning.specs.PlainHeap.{PlainObject, Plain}
use Rattle.njs_meaning.specs.Primitives.{Undefined}
use Rattle.njs_meaning.specs.Running.{with_object}
use Rattle.njs_meaning.specs.State.{State, Outcome, Gives, and_then}
use Rattle.njs_meaning.specs.Values.{PlainValue, Simple, length_value}
use Rattle.njs_meaning.specs.Functions.{Program, prototype_name, prototype_from, new_from, or_made, is_constructor, constructs_inner, inner_at}
use Rattle.njs_convert.specs.declared.stop.Stop.{Stop}
use Rattle.njs_convert.specs.Tells.{Tells, ShowsValue}
use Rattle.njs_convert.proofs.Outcomes.{then_tells, then_ends}

-- ---- a new object

-- the state with it
pub made_state : (h mid : Heap) (f : ℕ) (s : State) → s.objects ≡ plain_objects h
    → plain_objects mid ≡ plain_objects h ++ new_from (get (Simple Undefined) prototype_name (plain_objects h) f) ∷ []
    → record s { objects = plain_objects mid } ≡ with_object (new_from (get (Simple Undefined) prototype_name s.objects f)) s
made_state h mid f s objects made =
    ap (λ os. record s { objects = os }) made
    ∙ ap (λ os. record s { objects = os ++ new_from (get (Simple Undefined) prototype_name os f) ∷ [] }) (sym objects)

-- what reads no object has the prototype of all objects
pub other_from : (texts : List (List ℕ)) (v : Value) → ((o : ObjId) → v ≡ value.Obj o → ⊥) → prototype_from (content texts v) ≡ record { 0 = 0 }
other_from texts value.Undefined other = refl
other_from texts value.Null other = refl
other_from texts (value.Bool b) other = refl
other_from texts (value.Num n) other = refl
other_from texts (value.Str t) other = refl
other_from texts (value.Obj o) other = absurd (other o refl)

-- it is the one that a heap makes
pub new_plain : (objects : List PlainObject) (up : ObjId) (v : PlainValue) → up ≡ prototype_from v
    → with_new_object length_value class.Object (Some up) Plain objects ≡ objects ++ new_from v ∷ []
new_plain objects up v is = ap (λ (up : ObjId). objects ++ record { class = class.Object; prototype = Some up; extensible = true; props = []; inner = Plain } ∷ []) is

-- the object, or what was returned in its place
pub made_tells : (holds stopped : State → Type 0) (texts : List (List ℕ)) (made : ObjId) (n : ℕ) (v w : Value) (o : Outcome PlainValue) → made.0 ≡ n → content texts w ≡ or_made made.0 (content texts v)
    → Tells holds stopped texts (ShowsValue texts) (Ok v) o → Tells holds stopped texts (ShowsValue texts) (Ok w) (and_then o (λ v s. Gives (or_made n v) s))
made_tells holds stopped texts made n v w o at shows told =
    then_tells holds holds stopped stopped texts texts (ShowsValue texts) (ShowsValue texts) v (Ok w) o (λ v s. Gives (or_made n v) s) told
    (λ a s shown here. (shows ∙ ap (λ i. or_made i (content texts v)) at ∙ ap (or_made n) shown, here))

pub unmade_tells : (holds stopped : State → Type 0) (texts : List (List ℕ)) (n : ℕ) (stop : Stop) (o : Outcome PlainValue)
    → Tells holds stopped texts (ShowsValue texts) (Err stop) o → Tells holds stopped texts (ShowsValue texts) (Err stop) (and_then o (λ v s. Gives (or_made n v) s))
unmade_tells holds stopped texts n stop o told = then_ends holds stopped texts (ShowsValue texts) (ShowsValue texts) stop o (λ v s. Gives (or_made n v) s) told (λ a s before. before)

-- ---- what an object is beside its properties

pub inner_is : (h : Heap) (objects : List PlainObject) (at : ℕ) (o : HeapObject) → objects ≡ plain_objects h → slice_get h.objects at ≡ Some o → inner_at objects at ≡ content_inner h.texts o.inner
inner_is h objects at o same there =
    ap (λ os. inner_at os at) same
    ∙ ap (λ r. option_map_or (λ (o : PlainObject). o.inner) r Plain)
    (slice_get-map (mapped_object (content h.texts) (content_inner h.texts)) h.objects at ∙ ap (option_map (mapped_object (content h.texts) (content_inner h.texts))) there)

-- ---- whether an object can be called by `new`

-- through so many bound functions
abbrev pub constructor_by : Program → Heap → ℕ → ℕ → Bool
constructor_by program h n at = is_constructor program n (plain_objects h) at

module _ (program : Program) (h : Heap) (at : ℕ) (o : HeapObject) (there : slice_get h.objects at ≡ Some o) where
  pub constructor_step : (n m : ℕ) → n ≡ suc m → constructor_by program h n at ≡ constructs_inner program (constructor_by program h m) (content_inner h.texts o.inner)
  constructor_step n m is =
      ap (λ k. constructor_by program h k at) is
      ∙ ap (λ r. option_map_or (λ (o : PlainObject). constructs_inner program (constructor_by program h m) o.inner) r false)
      (slice_get-map (mapped_object (content h.texts) (content_inner h.texts)) h.objects at ∙ ap (option_map (mapped_object (content h.texts) (content_inner h.texts))) there)
