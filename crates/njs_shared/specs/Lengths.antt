-- Arrays whose `length` is above each of their elements (ECMA-262 5.1 §15.4).
use Rattle.std.specs.Prelude.{◌≡◌, ℕ, ◌<◌, ◌^◌, List, Bool, false, Some, pos}
use Rattle.std.specs.List.{AllByRecursion}
use Rattle.std.specs.Option.{ForSome}
use Rattle.njs_value.specs.declared.Class.TheVariants.{Array}
use Rattle.njs_value.specs.declared.Value.{Value}
use Rattle.njs_value.specs.declared.Value.TheVariants.{Num}
use Rattle.njs_props.specs.declared.map.Property.{Property}
use Rattle.njs_props.specs.Names.{length_name, index_of}
use Rattle.njs_props.specs.Props.{property}
use Rattle.njs_shared.specs.Heap.{Heap, HeapObject}

-- the property `length` of an array, which may be written or not
abbrev pub length_property : ℕ → Bool → Property Value
length_property n writable = record { value = Num (pos n); flags = record { writable = writable; enumerable = false; configurable = false } }

-- each of the names that is an array index is below a length
abbrev pub AreBelow : ℕ → List (List ℕ × Property Value) → Type 0
AreBelow n props = AllByRecursion (λ e. ForSome (index_of e.0) (λ i. i < n)) props

-- there is a `length`, neither enumerable nor configurable, a number from 0 to 2^32 - 1 that is above each array index
pub record HasLength (props : List (List ℕ × Property Value)) : Type 0 where
  pub length : ℕ
  pub writable : Bool
  pub is : property length_name props ≡ Some (length_property length writable)
  pub small : length < 2 ^ 32
  pub above : AreBelow length props

-- an object of class Array has such a `length`
abbrev pub HasLengthOfArray : HeapObject → Type 0
HasLengthOfArray o = o.class ≡ Array → HasLength o.props

-- so has every array of a heap
pub record HasLengths (heap : Heap) : Type 0 where
  pub arrays : AllByRecursion HasLengthOfArray heap.objects
