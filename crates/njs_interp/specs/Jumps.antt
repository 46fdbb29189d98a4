-- How what an operation answers that may lead elsewhere tells what the operation does.
use Rattle.std.specs.Prelude.{◌≡◌, ℕ, List, Result, Ok, Err}
use Rattle.njs_shared.specs.Heap.{Heap, sizes}
use Rattle.njs_shared.specs.Fits.{FitsValue}
use Rattle.njs_clone.specs.Content.{content}
use Rattle.njs_code.specs.declared.op.Kind.{Kind}
use Rattle.njs_code.specs.declared.op.Op.{Op}
use Rattle.njs_code.specs.declared.code.FunctionCode.{FunctionCode}
use Rattle.njs_code.specs.Effects.{depth_next, depth_left, depth_at_jump, operands_at_jump}
use Rattle.njs_meaning.specs.State.{State, Spent}
use Rattle.njs_convert.specs.declared.stop.Stop.{Stop}
use Rattle.njs_convert.specs.declared.stop.Stop.TheVariants.{Throw, Fuel, NoMemory}
use Rattle.njs_convert.specs.FirstHeap.{StandsFor}
use Rattle.njs_simul.specs.Stacks as plain
use Rattle.njs_simul.specs.Stacks.{Frame, Thrown}
use Rattle.njs_simul.specs.Step.{Action, Goes, Ends, Leads, act, from}
use Rattle.njs_interp.specs.declared.next.Next.{Next}
use Rattle.njs_interp.specs.declared.next.Next.TheVariants as next
use Rattle.njs_interp.specs.declared.stacks.Stacks.{Stacks}
use Rattle.njs_interp.specs.Plain.{heap_of, plain_ending, plain_stacks}
use Rattle.njs_interp.specs.Sits.{Sits, FitsEnding}
use Rattle.njs_interp.specs.Acts.{OnHeap, Unanswered, Below, state_in}

-- as `Acts`, of an answer that says where the code goes on: `rest` stands behind the operation, and `at` an address is the code from there
abbrev pub ActsNext : (holds stopped : State → Type 0) → List (List ℕ) → (at : ℕ → List Op) → List Op → plain.Stacks → Result Next Stop → Action → Type 0
ActsNext holds stopped texts at rest after (Ok next.On) (Goes ops st t) = (ops ≡ rest) × (st ≡ after) × holds t
ActsNext holds stopped texts at rest after (Ok (next.To to)) (Goes ops st t) = (ops ≡ at to.0) × (st ≡ after) × holds t
ActsNext holds stopped texts at rest after (Ok (next.Out e)) (Leads w st t) = (plain_ending texts e ≡ w) × Below st after × holds t
ActsNext holds stopped texts at rest after (Err (Throw v)) (Leads (Thrown w) st t) = (content texts v ≡ w) × Below st after × holds t
ActsNext holds stopped texts at rest after (Err Fuel) (Ends (Spent t)) = holds t
ActsNext holds stopped texts at rest after (Err NoMemory) a = state_in a stopped
ActsNext holds stopped texts at rest after r a = ⊥

-- the answer is what the operation does, in every state that the heap stood for, whatever the call is and wherever it stands
pub record JumpsOnHeap (k : Kind) (old new : Heap) (before after : Stacks) (r : Result Next Stop) : Type 0 where
  pub by : (frame : Frame) (code rest : List Op) (s : State) → StandsFor old (heap_of s)
      → ActsNext (OnHeap new s) (Unanswered s) new.texts (from frame code) rest (plain_stacks new.texts after) r (act frame code k rest (plain_stacks old.texts before) s)

-- what stands afterwards, by where the code goes on
abbrev pub LeavesNext : FunctionCode → Op → Heap → Stacks → Result Next Stop → Type 0
LeavesNext f op h st (Ok next.On) = Sits h f.slots (depth_next op.kind op.depth) st
LeavesNext f op h st (Ok (next.To to)) = Sits h f.slots (depth_at_jump op.kind op.depth) st
LeavesNext f op h st (Ok (next.Out e)) = Sits h f.slots (depth_left op.kind op.depth) st × FitsEnding (sizes h) e
LeavesNext f op h st (Err (Throw v)) = Sits h f.slots (depth_left op.kind op.depth) st × FitsValue (sizes h) v
LeavesNext f op h st (Err Fuel) = Unit {0}
LeavesNext f op h st (Err NoMemory) = Unit {0}

-- an operation gives so many operands where it jumps
pub record GivesAtJump (k : Kind) (count : ℕ) : Type 0 where
  pub operands : operands_at_jump k ≡ count
