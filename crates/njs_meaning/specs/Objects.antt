-- Put, Define and Delete (ECMA-262 5.1 §8.12.5, §8.12.7, §8.12.9) of an object among others, over any kind of values.
use Rattle.std.specs.Prelude.{ℕ, List, [], ◌∷◌, ◌++◌, Bool, true, false, Option, if◌then◌else◌, is_some, not, slice_get, slice_set}
use Rattle.std.specs.Option.{option_map, option_map_or, option_and_then}
use Rattle.njs_value.specs.Object.{Object}
use Rattle.njs_value.specs.declared.Class.{Class}
use Rattle.njs_value.specs.declared.Class.TheVariants.{Array}
use Rattle.njs_value.specs.declared.Desc.{Desc}
use Rattle.njs_value.specs.declared.Flags.{Flags}
use Rattle.njs_value.specs.declared.ObjId.{ObjId}
use Rattle.njs_props.specs.declared.map.Property.{Property}
use Rattle.njs_props.specs.Names.{length_name}
use Rattle.njs_props.specs.Props.{property}
use Rattle.njs_meaning.specs.Properties.{Properties, Change, done, refused, with_put, put_refusal, define_plain, delete, only_writable}
use Rattle.njs_meaning.specs.Arrays.{put_in_array, define_in_array}
use Rattle.njs_meaning.specs.Chains.{nearest}

abbrev pub is_array : Class → Bool
is_array Array = true
is_array class = false

-- the length that the value of `length` is, and a length as a value
module _ {V : Type 0} (stored : V → ℕ) (written : ℕ → V) where
  -- Put, where the nearest property of the name on the chain of prototypes has these flags, and the value gives this length
  -- of an array or none
  abbrev pub put : Option ℕ → Class → Bool → Option Flags → List ℕ → V → Properties V → Change V
  put length class extensible nearest name v props =
      option_map_or (λ cause. refused props cause) (put_refusal nearest (is_some (property name props)) extensible)
      (if is_array class then put_in_array stored written length name v props else done (with_put name v props))

  -- Define; `other` says that the given value is another than the one there, and a new property without a value has
  -- `missing`
  abbrev pub define : V → Option ℕ → Bool → Class → Bool → List ℕ → Desc V → Properties V → Change V
  define missing length other class extensible name d props =
      if is_array class then define_in_array stored written missing extensible other length name d props
      else define_plain missing extensible other name d props

-- the properties that a new object has: of an array its length, 0
abbrev pub first_props : {V : Type 0} → (ℕ → V) → Class → Properties V
first_props written class = if is_array class then (length_name, record { value = written 0; flags = only_writable }) ∷ [] else []

-- whether a definition gives another value than the one of a property
abbrev pub gives_other : {V : Type 0} → (V → V → Bool) → Desc V → Option (Property V) → Bool
gives_other same d own = option_map_or (λ p. option_map_or (λ v. not (same v p.value)) d.value false) own false

module _ {V I : Type 0} where
  -- a change of the properties of the object with a number
  abbrev pub change_at : (Object (Property V) I → Change V) → List (Object (Property V) I) → ℕ → Change V
  change_at change objects at = option_map_or change (slice_get objects at) (done [])

  -- the objects, with these properties at a number
  abbrev pub with_props : List (Object (Property V) I) → ℕ → Properties V → List (Object (Property V) I)
  with_props objects at props =
      option_map_or (λ o. slice_set objects at (record o { props = props })) (slice_get objects at) objects

  -- a deletion from the object with a number
  abbrev pub delete_at : List ℕ → List (Object (Property V) I) → ℕ → Change V
  delete_at name objects at = change_at (λ o. delete name o.props) objects at

  -- the objects, of which the one with a number takes no new properties
  abbrev pub with_stopped : List (Object (Property V) I) → ℕ → List (Object (Property V) I)
  with_stopped objects at =
      option_map_or (λ o. slice_set objects at (record o { extensible = false })) (slice_get objects at) objects

-- how lengths of arrays stand with values: the length that a value gives, the one that the value of `length` is, and a
-- length as a value
module _ {V I : Type 0} (given : V → Option ℕ) (stored : V → ℕ) (written : ℕ → V) where
  -- a put to the object with a number
  abbrev pub put_at : List ℕ → V → List (Object (Property V) I) → ℕ → Change V
  put_at name v objects at =
      change_at (λ o. put stored written (given v) o.class o.extensible (option_map (λ p. p.flags) (nearest name objects at)) name v o.props)
      objects at

  -- a definition of a property of the object with a number; `same` says whether two values are the same
  abbrev pub define_at : V → (V → V → Bool) → List ℕ → Desc V → List (Object (Property V) I) → ℕ → Change V
  define_at missing same name d objects at =
      change_at (λ o. define stored written missing (option_and_then given d.value) (gives_other same d (property name o.props)) o.class o.extensible name d o.props)
      objects at

-- the objects with a new one behind them, which takes properties
abbrev pub with_new_object : {V I : Type 0} → (ℕ → V) → Class → Option ObjId → I → List (Object (Property V) I) → List (Object (Property V) I)
with_new_object written class prototype inner objects = objects ++ record {
  class = class;
  prototype = prototype;
  extensible = true;
  props = first_props written class;
  inner = inner;
} ∷ []
