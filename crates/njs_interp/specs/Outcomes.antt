-- How an answer with a value tells an outcome, and what of it comes on the stack.
use Rattle.std.specs.Prelude.{◌≡◌, ℕ, List, ◌∷◌, ◌++◌, length, Some, None, Result, Ok, Err}
use Rattle.std.specs.List.{AllByRecursion}
use Rattle.njs_value.specs.declared.HeapStop.{HeapStop}
use Rattle.njs_value.specs.declared.HeapStop.TheVariants as heap_stop
use Rattle.njs_value.specs.declared.Value.{Value}
use Rattle.njs_shared.specs.Heap.{Heap, sizes}
use Rattle.njs_shared.specs.Fits.{FitsValue}
use Rattle.njs_clone.specs.Content.{content}
use Rattle.njs_code.specs.declared.op.Kind.{Kind}
use Rattle.njs_code.specs.declared.op.Op.{Op}
use Rattle.njs_code.specs.declared.code.FunctionCode.{FunctionCode}
use Rattle.njs_code.specs.Effects.{depth_left, operands_taken, operands_given, scopes_taken, scopes_given, lists_taken, lists_given, endings_taken, endings_given}
use Rattle.njs_value.specs.declared.Class.{Class}
use Rattle.njs_meaning.specs.declared.prototypes.Prototype.{Prototype}
use Rattle.njs_meaning.specs.Values.{PlainValue, ObjectAt, length_value}
use Rattle.njs_meaning.specs.PlainHeap.{Plain}
use Rattle.njs_meaning.specs.Objects.{with_new_object}
use Rattle.njs_meaning.specs.State.{State, Outcome, Gives, Throws, Spent}
use Rattle.njs_meaning.specs.Members.{get_member}
use Rattle.njs_meaning.specs.Replies.{state_of}
use Rattle.njs_meaning.specs.Errors.{name_of, place_of}
use Rattle.njs_convert.specs.declared.stop.Stop.{Stop}
use Rattle.njs_convert.specs.declared.stop.Stop.TheVariants.{Throw, Fuel, NoMemory}
use Rattle.njs_convert.specs.FirstHeap.{StandsFor}
use Rattle.njs_interp.specs.declared.stacks.Stacks.{Stacks}
use Rattle.njs_interp.specs.Plain.{heap_of}
use Rattle.njs_interp.specs.Sits.{Sits}
use Rattle.njs_interp.specs.Acts.{OnHeap, Unanswered}

-- an answer tells an outcome, where `holds` says of which states the machine stands for them. `stopped` is what is known after
-- want of memory
abbrev pub Tells : (holds stopped : State → Type 0) → List (List ℕ) → Result Value Stop → Outcome PlainValue → Type 0
Tells holds stopped texts (Ok v) (Gives w t) = (content texts v ≡ w) × holds t
Tells holds stopped texts (Err (Throw v)) (Throws w t) = (content texts v ≡ w) × holds t
Tells holds stopped texts (Err Fuel) (Spent t) = holds t
Tells holds stopped texts (Err NoMemory) o = stopped (state_of o)
Tells holds stopped texts r o = ⊥

-- an answer tells what a definition gives, in every state that the heap stood for
pub record MeansOnHeap (old new : Heap) (r : Result Value Stop) (meaning : State → Outcome PlainValue) : Type 0 where
  pub by : (s : State) → StandsFor old (heap_of s) → Tells (OnHeap new s) (Unanswered s) new.texts r (meaning s)

-- no dictionary is asked, whatever comes of it
pub record AsksNothing (meaning : State → Outcome PlainValue) : Type 0 where
  pub by : (s : State) → Unanswered s (state_of (meaning s))

-- a value comes on top, where there is memory for it; nothing else changes
abbrev pub Pushes : Result Value Stop → Stacks → Stacks → Result (Unit {0}) Stop → Type 0
Pushes (Ok v) before after (Ok done) = after ≡ record before { operands = v ∷ before.operands }
Pushes (Ok v) before after (Err stop) = stop ≡ NoMemory
Pushes (Err stop) before after r = (r ≡ Err stop) × (after ≡ before)

-- what is thrown holds no name
abbrev pub ThrowsNoName : Result (Unit {0}) HeapStop → Type 0
ThrowsNoName (Ok done) = Unit {0}
ThrowsNoName (Err (heap_stop.Throw cause)) = name_of cause ≡ None
ThrowsNoName (Err heap_stop.NoMemory) = Unit {0}

-- an operation takes and gives so many operands, and nothing else that stands changes
pub record Moves (k : Kind) (taken given : ℕ) : Type 0 where
  pub operands_taken : operands_taken k ≡ taken
  pub operands_given : operands_given k ≡ given
  pub scopes_taken : scopes_taken k ≡ 0
  pub scopes_given : scopes_given k ≡ 0
  pub lists_taken : lists_taken k ≡ 0
  pub lists_given : lists_given k ≡ 0
  pub endings_taken : endings_taken k ≡ 0
  pub endings_given : endings_given k ≡ 0

-- an operation has taken operands, the top first; what stood is what stands, with them
pub record Took (f : FunctionCode) (op : Op) (h : Heap) (before after : Stacks) (vs : List Value) : Type 0 where
  pub is : before ≡ record after { operands = vs ++ after.operands }
  pub sits : Sits h f.slots (depth_left op.kind op.depth) after
  pub fits : AllByRecursion (FitsValue (sizes h)) vs

-- operands stand on top
pub record Shows (f : FunctionCode) (op : Op) (h : Heap) (st : Stacks) (vs : List Value) : Type 0 where
  pub below : List Value
  pub is : st.operands ≡ vs ++ below
  pub fits : AllByRecursion (FitsValue (sizes h)) vs

-- what a name reads, as a part of a run
abbrev pub read_member : List ℕ → PlainValue → State → Outcome PlainValue
read_member name base s = Gives (get_member name base s.objects) s

-- a new object of a class, with a prototype
abbrev pub made_object : Class → Prototype → State → Outcome PlainValue
made_object class up s =
    Gives (ObjectAt (length s.objects)) (record s { objects = with_new_object length_value class (Some (record { 0 = place_of up })) Plain s.objects })
