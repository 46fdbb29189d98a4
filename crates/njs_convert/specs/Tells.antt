-- How an answer tells the outcome of the definition, and what every call leaves.
use Rattle.std.specs.Prelude.{◌≡◌, ◌≤◌, ◌<◌, ◌+◌, false, Option, ℕ, ℤ, List, [], ◌∷◌, ◌++◌, length, map, slice_index_or, slice_get, Some, codes, Result, Ok, Err}
use Rattle.std.specs.List.{AllByRecursion}
use Rattle.std.specs.Option.{ForSome}
use Rattle.njs_value.specs.declared.Cause.{Cause}
use Rattle.njs_props.specs.declared.map.Property.{Property}
use Rattle.njs_value.specs.declared.TextId.{TextId}
use Rattle.njs_value.specs.declared.Value.{Value}
use Rattle.njs_value.specs.declared.Value.TheVariants.{Obj}
use Rattle.njs_shared.specs.declared.object.Inner.{Inner}
use Rattle.njs_shared.specs.declared.object.Inner.TheVariants.{Plain, Script, BuiltIn, Bound, ZoneNumber}
use Rattle.njs_shared.specs.declared.object.Scope.{Scope}
use Rattle.njs_shared.specs.Heap.{Heap, HeapObject, Sizes}
use Rattle.njs_shared.specs.Fits.{FitsValue}
use Rattle.njs_clone.specs.Content.{content}
use Rattle.njs_meaning.specs.Primitives.{Primitive}
use Rattle.njs_meaning.specs.Numbers.{number_of}
use Rattle.njs_meaning.specs.Values.{PlainValue, Simple}
use Rattle.njs_meaning.specs.State.{State, Outcome, Gives, Throws, Spent}
use Rattle.njs_meaning.specs.Replies.{state_of}
use Rattle.njs_meaning.specs.Errors.{hidden, error_with, prototype_of, name_of, message_of}
use Rattle.njs_convert.specs.declared.stop.Stop.{Stop}
use Rattle.njs_convert.specs.declared.stop.Stop.TheVariants.{Throw, Fuel, NoMemory}
use Rattle.njs_convert.specs.Tests.{is_object}
use Rattle.njs_clone.specs.StandsFor.{plain_objects}

-- the text with a number
abbrev pub text_at : List (List ℕ) → TextId → List ℕ
text_at texts t = slice_index_or texts t.0 []

-- a value shows a value by content, a value that is no object, a number, a text
abbrev pub ShowsValue : List (List ℕ) → Value → PlainValue → Type 0
ShowsValue texts v p = content texts v ≡ p

abbrev pub ShowsPrimitive : List (List ℕ) → Value → Primitive → Type 0
ShowsPrimitive texts v p = content texts v ≡ Simple p

abbrev pub ShowsNumber : {N : Type 0} → N → N → Type 0
ShowsNumber n m = n ≡ m

abbrev pub ShowsText : List (List ℕ) → TextId → List ℕ → Type 0
ShowsText texts t text = text_at texts t ≡ text

-- an answer tells an outcome, where `stands` holds of the states that the machine stands for then, and `stopped` of the state
-- in which the definition ended where memory was wanted
abbrev pub Tells : {V A : Type 0} → (State → Type 0) → (State → Type 0) → List (List ℕ) → (V → A → Type 0) → Result V Stop → Outcome A → Type 0
Tells stands stopped texts shows (Ok v) (Gives a s) = shows v a × stands s
Tells stands stopped texts shows (Err (Throw v)) (Throws w s) = (content texts v ≡ w) × stands s
Tells stands stopped texts shows (Err Fuel) (Spent s) = stands s
Tells stands stopped texts shows (Err NoMemory) o = stopped (state_of o)
Tells stands stopped texts shows r o = ⊥

-- from each state that the machine stood for, the answer tells what the definition gives
pub record Means {V A : Type 0} (before after stopped : State → Type 0) (texts : List (List ℕ)) (shows : V → A → Type 0) (r : Result V Stop) (meaning : State → Outcome A) : Type 0 where
  pub by : (s : State) → before s → Tells after stopped texts shows r (meaning s)

-- states that are the same but for what a host keeps
pub record SameButHost (s t : State) : Type 0 where
  pub objects : t.objects ≡ s.objects
  pub scopes : t.scopes ≡ s.scopes
  pub ticks : t.ticks ≡ s.ticks

-- a scope with the same scope around it and as many slots
pub record SameShape (scope : Scope) (scopes : List Scope) (at : ℕ) : Type 0 where
  pub now : Scope
  pub there : slice_get scopes at ≡ Some now
  pub parent : now.parent ≡ scope.parent
  pub slots : length now.slots ≡ length scope.slots

-- an object that is the same beside its properties
pub record SameInner (object : HeapObject) (objects : List HeapObject) (at : ℕ) : Type 0 where
  pub now : HeapObject
  pub there : slice_get objects at ≡ Some now
  pub inner : now.inner ≡ object.inner

-- what of a caller no call changes: the references that it works over, by their names, and how many slots each function of
-- each module counts on in the scopes around it
pub record Lent : Type 0 where
  pub names : List ℕ
  pub counts : ℕ → ℕ → Option (List ℕ)

-- no fewer objects and scopes, each as it is beside its properties and values, and the texts that were there are there
pub record Grows (old new : Heap) : Type 0 where
  pub objects : length old.objects ≤ length new.objects
  pub scopes : length old.scopes ≤ length new.scopes
  pub shapes : (at : ℕ) (scope : Scope) → slice_get old.scopes at ≡ Some scope → SameShape scope new.scopes at
  pub inner : (at : ℕ) (object : HeapObject) → slice_get old.objects at ≡ Some object → SameInner object new.objects at
  pub more : List (List ℕ)
  pub texts : new.texts ≡ old.texts ++ more

-- no function of a script, no built-in and no zone
abbrev pub IsOrdinary : Inner → Type 0
IsOrdinary Plain = Unit {0}
IsOrdinary (Script unit code scope) = ⊥
IsOrdinary (BuiltIn row) = ⊥
IsOrdinary (Bound target this args) = Unit {0}
IsOrdinary (ZoneNumber zone) = ⊥

-- the scopes and what the objects are beside their properties stay; further objects are ordinary, and further texts may come
pub record Extends (old new : Heap) : Type 0 where
  pub scopes : new.scopes ≡ old.scopes
  pub others : List Inner
  pub ordinary : AllByRecursion IsOrdinary others
  pub inner : map (λ o. o.inner) new.objects ≡ map (λ o. o.inner) old.objects ++ others
  pub more : List (List ℕ)
  pub texts : new.texts ≡ old.texts ++ more

-- what is given or thrown is one of the heap's
abbrev pub FitsAnswer : {V : Type 0} → (V → Type 0) → Sizes → Result V Stop → Type 0
FitsAnswer fits n (Ok v) = fits v
FitsAnswer fits n (Err (Throw v)) = FitsValue n v
FitsAnswer fits n (Err Fuel) = Unit {0}
FitsAnswer fits n (Err NoMemory) = Unit {0}

-- a value of the heap that is no object
abbrev pub FitsSimple : Sizes → Value → Type 0
FitsSimple n v = FitsValue n v × (is_object v ≡ false)

-- a text of the heap
abbrev pub FitsText : Sizes → TextId → Type 0
FitsText n t = t.0 < n.texts

-- any number
abbrev pub AnyNumber : {N : Type 0} → N → Type 0
AnyNumber n = Unit {0}

-- the value is no object, and this is its number, if it has one
abbrev pub HasNumber : List (List ℕ) → Value → Option ℤ → Type 0
HasNumber texts v number = (p : Primitive) → content texts v ≡ Simple p → number ≡ number_of p

-- the name of a cause is one of the heap's texts
abbrev pub FitsCause : Sizes → Cause → Type 0
FitsCause n cause = ForSome (name_of cause) (λ name. name.0 < n.texts)

-- the properties of an error with a message
abbrev pub message_props : Value → List (List ℕ × Property Value)
message_props v = (codes "message", record { value = v; flags = hidden }) ∷ []

-- an error of this cause was made, as the last object
pub record MadeError (cause : Cause) (old new : Heap) (object : ℕ) : Type 0 where
  pub last : object ≡ length old.objects
  pub within : object < length new.objects
  pub objects : plain_objects new ≡ plain_objects old ++ error_with (prototype_of cause) (message_of (text_at old.texts) cause) ∷ []

-- an answer throws a new error of this cause, or says that there was no memory
abbrev pub ThrowsError : Cause → Heap → Heap → Stop → Type 0
ThrowsError cause old new (Throw (Obj o)) = MadeError cause old new o.0
ThrowsError cause old new (Throw v) = ⊥
ThrowsError cause old new Fuel = ⊥
ThrowsError cause old new NoMemory = Unit {0}

-- an error that is thrown counts one step, and want of memory none
abbrev pub CountsError : ℕ → ℕ → Stop → Type 0
CountsError old new (Throw v) = new ≡ old + 1
CountsError old new Fuel = ⊥
CountsError old new NoMemory = new ≡ old

-- a conversion that gives a value counts what its calls add; one that gives none may have made an error beside
abbrev pub Counts : {V : Type 0} → (ℕ → Type 0) → ℕ → Result V Stop → Type 0
Counts adds new (Ok v) = adds new
Counts adds new (Err stop) = (called : ℕ) × adds called × (called ≤ new) × (new ≤ called + 1)
