-- How a call answers what a definition gives.
use Rattle.std.specs.Prelude.{◌≡◌, List, ℕ, Option, Some, None, Result, Ok, Err}
use Rattle.njs_value.specs.declared.Cause.{Cause}
use Rattle.njs_value.specs.declared.Desc.{Desc}
use Rattle.njs_value.specs.declared.Flags.{Flags}
use Rattle.njs_value.specs.declared.HeapStop.{HeapStop}
use Rattle.njs_value.specs.declared.HeapStop.TheVariants.{Throw, NoMemory}
use Rattle.njs_value.specs.declared.Value.{Value}
use Rattle.njs_value.specs.declared.Value.TheVariants.{Undefined}
use Rattle.njs_props.specs.declared.map.Property.{Property}
use Rattle.njs_shared.specs.Heap.{Heap, HeapObject}
use Rattle.njs_meaning.specs.Properties.{Properties, Change}
use Rattle.njs_meaning.specs.Objects.{put_at, define_at, delete_at, with_props}
use Rattle.njs_clone.specs.Content.{same_value, given, stored, written}

-- a property whose value was copied
abbrev pub property_copied : Value × Flags → Property Value
property_copied p = record { value = p.0; flags = p.1 }

-- the cause and the properties are those of the change
abbrev pub Leaves : Change Value → Properties Value → Option Cause → Type 0
Leaves change props thrown = (thrown ≡ change.thrown) × (props ≡ change.props)

-- the same of an object, of which nothing else changes
abbrev pub LeavesObject : Change Value → HeapObject → HeapObject → Option Cause → Type 0
LeavesObject change old new thrown = (thrown ≡ change.thrown) × (new ≡ record old { props = change.props })

-- the cause is this one, if any, and the heap is then the given one; without memory it stays
abbrev pub Gives : {A : Type 0} → Option Cause → Heap → Heap → Heap → Result A HeapStop → Type 0
Gives thrown changed old new (Ok answer) = (thrown ≡ None) × (new ≡ changed)
Gives thrown changed old new (Err (Throw cause)) = (thrown ≡ Some cause) × (new ≡ changed)
Gives thrown changed old new (Err NoMemory) = new ≡ old

-- the same of a change of the properties of the object with a number
abbrev pub GivesAt : {A : Type 0} → Change Value → ℕ → Heap → Heap → Result A HeapStop → Type 0
GivesAt change at old new result = Gives change.thrown (record old { objects = with_props old.objects at change.props }) old new result

-- Put, Define and Delete in a heap
abbrev pub put_in : Heap → ℕ → List ℕ → Value → Change Value
put_in heap at name v = put_at (given heap.texts) stored written name v heap.objects at

abbrev pub define_in : Heap → ℕ → List ℕ → Desc Value → Change Value
define_in heap at name d = define_at (given heap.texts) stored written Undefined (same_value heap.texts) name d heap.objects at

abbrev pub delete_in : Heap → ℕ → List ℕ → Change Value
delete_in heap at name = delete_at name heap.objects at
