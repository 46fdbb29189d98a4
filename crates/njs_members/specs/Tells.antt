-- How an answer tells what a definition gives.
use Rattle.std.specs.Prelude.{◌≡◌, Bool, Result, Ok, Err}
use Rattle.njs_value.specs.declared.Cause.{Cause}
use Rattle.njs_value.specs.declared.HeapStop.{HeapStop}
use Rattle.njs_value.specs.declared.HeapStop.TheVariants.{Throw, NoMemory}
use Rattle.njs_shared.specs.Heap.{Heap}
use Rattle.njs_clone.specs.StandsFor.{plain_objects}
use Rattle.njs_meaning.specs.Values.{PlainValue}
use Rattle.njs_meaning.specs.State.{State, Outcome, Gives}
use Rattle.njs_meaning.specs.Errors.{throw}
use Rattle.njs_meaning.specs.Operations.{truth}

-- in every state whose objects the heap stood for, the definition gives this value, or throws the cause, and then has the
-- objects that the heap stands for now; without memory the heap stays
abbrev pub Tells : {A : Type 0} → PlainValue → (State → Outcome PlainValue) → Heap → Heap → Result A HeapStop → Type 0
Tells given meaning old new (Ok answer) = (s : State) → s.objects ≡ plain_objects old → meaning s ≡ Gives given (record s { objects = plain_objects new })
Tells given meaning old new (Err (Throw cause)) = (s : State) → s.objects ≡ plain_objects old → meaning s ≡ throw cause (record s { objects = plain_objects new })
Tells given meaning old new (Err NoMemory) = new ≡ old

-- the same of a question, which changes nothing
abbrev pub TellsTruth : (State → Outcome PlainValue) → Heap → Result Bool Cause → Type 0
TellsTruth meaning heap (Ok answer) = (s : State) → s.objects ≡ plain_objects heap → meaning s ≡ truth answer s
TellsTruth meaning heap (Err cause) = (s : State) → s.objects ≡ plain_objects heap → meaning s ≡ throw cause s
