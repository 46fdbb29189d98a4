-- The definitions by the object that a value takes its members from, and by content.
use Rattle.std.proofs.Common.{◌≡◌, ℕ, List, Option, Some, None, false, ap, refl, ◌∙◌, is_some}
use Rattle.std.specs.Prelude.{◌||◌}
use Rattle.std.specs.Option.{option_map, option_map_or}
use Rattle.njs_props.specs.declared.map.Property.{Property}
use Rattle.njs_value.specs.declared.Value.TheVariants as value
use Rattle.njs_shared.specs.Heap.{Heap}
use Rattle.njs_clone.specs.Content.{content}
use Rattle.njs_clone.specs.StandsFor.{mapped, content_inner, plain_objects}
use Rattle.njs_clone.proofs.MappedHeap.{get-mapped, nearest-mapped}
use Rattle.njs_meaning.specs.Primitives.{Undefined, Null, Truth, Number, Characters}
use Rattle.njs_meaning.specs.Values.{PlainValue, Simple, ObjectAt}
use Rattle.njs_meaning.specs.PlainHeap.{PlainObject}
use Rattle.njs_meaning.specs.Chains.{get, nearest}
use Rattle.njs_meaning.specs.Members.{get_member, has_member}
use Rattle.njs_members.specs.Own.{own_of}
use Rattle.njs_members.specs.Starts.{start_of}

pub get-started : (name : List ℕ) (v : PlainValue) (objects : List PlainObject)
    → get_member name v objects ≡ option_map_or (λ v. v) (own_of name v) (option_map_or (get (Simple Undefined) name objects) (start_of v) (Simple Undefined))
get-started name (Simple Undefined) objects = refl
get-started name (Simple Null) objects = refl
get-started name (Simple (Truth b)) objects = refl
get-started name (Simple (Number n)) objects = refl
get-started name (Simple (Characters t)) objects = refl
get-started name (ObjectAt o) objects = refl

pub has-started : (name : List ℕ) (v : PlainValue) (objects : List PlainObject)
    → has_member name v objects ≡ (is_some (own_of name v) || option_map_or (λ at. is_some (nearest name objects at)) (start_of v) false)
has-started name (Simple Undefined) objects = refl
has-started name (Simple Null) objects = refl
has-started name (Simple (Truth b)) objects = refl
has-started name (Simple (Number n)) objects = refl
has-started name (Simple (Characters t)) objects = refl
has-started name (ObjectAt o) objects = refl

pub get-plain : (h : Heap) (name : List ℕ) (at : ℕ) → get (Simple Undefined) name (plain_objects h) at ≡ content h.texts (get value.Undefined name h.objects at)
get-plain h name at = get-mapped (content h.texts) (content_inner h.texts) value.Undefined (Simple Undefined) refl name h.objects at

there_same : {V W : Type 0} (f : V → W) (r : Option (Property V)) → is_some (option_map (mapped f) r) ≡ is_some r
there_same f None = refl
there_same f (Some p) = refl

pub nearest-plain : (h : Heap) (name : List ℕ) (at : ℕ) → is_some (nearest name (plain_objects h) at) ≡ is_some (nearest name h.objects at)
nearest-plain h name at =
    ap is_some (nearest-mapped (content h.texts) (content_inner h.texts) name h.objects at) ∙ there_same (content h.texts) (nearest name h.objects at)
