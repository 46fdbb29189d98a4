-- The objects by content that a heap with numbered texts stands for.
use Rattle.std.specs.Prelude.{ℕ, List, [], ◌∷◌, ◌++◌, map, Option, ◌≡◌}
use Rattle.std.specs.Option.{option_map}
use Rattle.njs_value.specs.Object.{Object}
use Rattle.njs_value.specs.declared.Class.{Class}
use Rattle.njs_value.specs.declared.Desc.{Desc}
use Rattle.njs_value.specs.declared.ObjId.{ObjId}
use Rattle.njs_value.specs.declared.Value.{Value}
use Rattle.njs_value.specs.declared.Value.TheVariants as value
use Rattle.njs_props.specs.declared.map.Property.{Property}
use Rattle.njs_shared.specs.Heap.{Heap, HeapObject}
use Rattle.njs_shared.specs.declared.object.Inner.{Inner}
use Rattle.njs_shared.specs.declared.object.Inner.TheVariants as inner
use Rattle.njs_meaning.specs.Primitives.{Undefined}
use Rattle.njs_meaning.specs.Values.{PlainValue, Simple, is_same, given_length, stored_length, length_value}
use Rattle.njs_meaning.specs.PlainHeap.{PlainInner, PlainObject, Plain, Script, BuiltIn, Bound, ZoneNumber}
use Rattle.njs_meaning.specs.Properties.{Properties, Change}
use Rattle.njs_meaning.specs.Chains.{get, own_at, keys}
use Rattle.njs_meaning.specs.Objects.{put_at, define_at, delete_at, with_props, with_stopped, with_new_object}
use Rattle.njs_clone.specs.Content.{content, written}
use Rattle.njs_clone.specs.Gives.{put_in, define_in, delete_in}

-- properties, changes and definitions whose values are mapped
module _ {V W : Type 0} (f : V → W) where
  abbrev pub mapped : Property V → Property W
  mapped p = record { value = f p.value; flags = p.flags }

  abbrev pub mapped_all : Properties V → Properties W
  mapped_all [] = []
  mapped_all (e ∷ es) = (e.0, mapped e.1) ∷ mapped_all es

  abbrev pub mapped_change : Change V → Change W
  mapped_change c = record { props = mapped_all c.props; thrown = c.thrown }

  abbrev pub mapped_desc : Desc V → Desc W
  mapped_desc d = record {
    value = option_map f d.value;
    writable = d.writable;
    enumerable = d.enumerable;
    configurable = d.configurable;
  }

abbrev pub mapped_object : {V W I J : Type 0} → (V → W) → (I → J) → Object (Property V) I → Object (Property W) J
mapped_object f g o = record {
  class = o.class;
  prototype = o.prototype;
  extensible = o.extensible;
  props = mapped_all f o.props;
  inner = g o.inner;
}

-- an inner part by content
abbrev pub content_inner : List (List ℕ) → Inner → PlainInner
content_inner texts inner.Plain = Plain
content_inner texts (inner.Script unit code scope) = Script unit code scope
content_inner texts (inner.BuiltIn row) = BuiltIn row
content_inner texts (inner.Bound target this args) = Bound target (content texts this) (map (content texts) args)
content_inner texts (inner.ZoneNumber zone) = ZoneNumber zone

-- the objects of a heap by content
abbrev pub content_objects : List (List ℕ) → List HeapObject → List PlainObject
content_objects texts objects = map (mapped_object (content texts) (content_inner texts)) objects

abbrev pub plain_objects : Heap → List PlainObject
plain_objects heap = content_objects heap.texts heap.objects

-- Put and Define by content
abbrev pub plain_put : List PlainObject → ℕ → List ℕ → PlainValue → Change PlainValue
plain_put objects at name v = put_at given_length stored_length length_value name v objects at

abbrev pub plain_define : List PlainObject → ℕ → List ℕ → Desc PlainValue → Change PlainValue
plain_define objects at name d = define_at given_length stored_length length_value (Simple Undefined) is_same name d objects at

-- what is read of a heap and what an operation on it gives is by content what the same gives on the objects by content
pub record GoByContent (heap : Heap) : Type 0 where
  pub get : (at : ℕ) (name : List ℕ) → get (Simple Undefined) name (plain_objects heap) at ≡ content heap.texts (get value.Undefined name heap.objects at)
  pub own : (at : ℕ) (name : List ℕ) → own_at name (plain_objects heap) at ≡ option_map (mapped (content heap.texts)) (own_at name heap.objects at)
  pub keys : (object : HeapObject) → keys (mapped_object (content heap.texts) (content_inner heap.texts) object) ≡ keys object
  pub put : (at : ℕ) (name : List ℕ) (v : Value) → plain_put (plain_objects heap) at name (content heap.texts v) ≡ mapped_change (content heap.texts) (put_in heap at name v)
  pub define : (at : ℕ) (name : List ℕ) (d : Desc Value) → plain_define (plain_objects heap) at name (mapped_desc (content heap.texts) d) ≡ mapped_change (content heap.texts) (define_in heap at name d)
  pub delete : (at : ℕ) (name : List ℕ) → delete_at name (plain_objects heap) at ≡ mapped_change (content heap.texts) (delete_in heap at name)
  pub changed : (at : ℕ) (props : Properties Value) → with_props (plain_objects heap) at (mapped_all (content heap.texts) props) ≡ content_objects heap.texts (with_props heap.objects at props)
  pub stopped : (at : ℕ) → with_stopped (plain_objects heap) at ≡ content_objects heap.texts (with_stopped heap.objects at)
  pub created : (class : Class) (prototype : Option ObjId) (inner : Inner)
      → with_new_object length_value class prototype (content_inner heap.texts inner) (plain_objects heap) ≡ content_objects heap.texts (with_new_object written class prototype inner heap.objects)

-- a text more leaves the objects by content as they are
abbrev pub OutlivesTexts : Heap → Type 0
OutlivesTexts heap = (text : List ℕ) → content_objects (heap.texts ++ text ∷ []) heap.objects ≡ plain_objects heap
