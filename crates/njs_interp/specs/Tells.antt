-- What the operations of the interpreter promise.
use Rattle.std.specs.Prelude.{◌≡◌, ℕ, List, map, Result, Ok, Err}
use Rattle.njs_value.specs.declared.Value.{Value}
use Rattle.njs_shared.specs.Heap.{Heap, sizes}
use Rattle.njs_shared.specs.Fits.{FitsValue}
use Rattle.njs_clone.specs.Content.{content}
use Rattle.njs_code.specs.declared.op.Kind.{Kind}
use Rattle.njs_code.specs.declared.op.Op.{Op}
use Rattle.njs_code.specs.declared.code.FunctionCode.{FunctionCode}
use Rattle.njs_code.specs.Effects.{depth_next, depth_left}
use Rattle.njs_meaning.specs.State.{State}
use Rattle.njs_convert.specs.declared.stop.Stop.{Stop}
use Rattle.njs_convert.specs.declared.stop.Stop.TheVariants.{Throw, Fuel, NoMemory}
use Rattle.njs_convert.specs.FirstHeap.{StandsFor}
use Rattle.njs_simul.specs.Stacks.{Frame}
use Rattle.njs_simul.specs.Step.{act}
use Rattle.njs_interp.specs.declared.stacks.Stacks.{Stacks}
use Rattle.njs_interp.specs.Plain.{heap_of, plain_stacks}
use Rattle.njs_interp.specs.Sits.{Sits}
use Rattle.njs_interp.specs.Acts.{OnHeap, Unanswered, Acts}

-- a call by content: the module, `this` and the arguments
pub record IsFrame (texts : List (List ℕ)) (unit : ℕ) (this : Value) (args : List Value) (frame : Frame) : Type 0 where
  pub unit_is : frame.unit ≡ unit
  pub this_is : frame.this ≡ content texts this
  pub args_are : frame.args ≡ map (content texts) args

-- the answer is what the operation does, in every state that the heap stood for, whatever the call is and wherever it stands
pub record ActsOnHeap (k : Kind) (old new : Heap) (before after : Stacks) (r : Result (Unit {0}) Stop) : Type 0 where
  pub by : (frame : Frame) (code rest : List Op) (s : State) → StandsFor old (heap_of s)
      → Acts (OnHeap new s) (Unanswered s) new.texts rest (plain_stacks new.texts after) r (act frame code k rest (plain_stacks old.texts before) s)

-- the same of an operation that asks for the call
pub record ActsInCall (unit : ℕ) (this : Value) (args : List Value) (k : Kind) (old new : Heap) (before after : Stacks) (r : Result (Unit {0}) Stop) : Type 0 where
  pub by : (frame : Frame) (code rest : List Op) (s : State) → IsFrame old.texts unit this args frame → StandsFor old (heap_of s)
      → Acts (OnHeap new s) (Unanswered s) new.texts rest (plain_stacks new.texts after) r (act frame code k rest (plain_stacks old.texts before) s)

-- what stands afterwards: what the next operation counts on; after a throw all that the operation takes was taken
abbrev pub Leaves : FunctionCode → Op → Heap → Stacks → Result (Unit {0}) Stop → Type 0
Leaves f op h st (Ok done) = Sits h f.slots (depth_next op.kind op.depth) st
Leaves f op h st (Err (Throw v)) = Sits h f.slots (depth_left op.kind op.depth) st × FitsValue (sizes h) v
Leaves f op h st (Err Fuel) = Unit {0}
Leaves f op h st (Err NoMemory) = Unit {0}
