-- How what an operation of the interpreter answers tells what the operation does.
use Rattle.std.specs.Prelude.{◌≡◌, ℕ, List, ◌++◌, Result, Ok, Err}
use Rattle.njs_shared.specs.Heap.{Heap}
use Rattle.njs_clone.specs.Content.{content}
use Rattle.njs_code.specs.declared.op.Op.{Op}
use Rattle.njs_meaning.specs.Values.{PlainValue}
use Rattle.njs_meaning.specs.State.{State, Spent}
use Rattle.njs_meaning.specs.Replies.{state_of}
use Rattle.njs_convert.specs.declared.stop.Stop.{Stop}
use Rattle.njs_convert.specs.declared.stop.Stop.TheVariants.{Throw, Fuel, NoMemory}
use Rattle.njs_convert.specs.FirstHeap.{StandsFor}
use Rattle.njs_simul.specs.Stacks.{Stacks, Thrown}
use Rattle.njs_simul.specs.Step.{Action, Goes, Ends, Leads, Stuck}
use Rattle.njs_interp.specs.Plain.{heap_of}

-- nothing of a state is other but its objects and its scopes
pub record SameBeside (s t : State) : Type 0 where
  pub response : t.response ≡ s.response
  pub zones : t.zones ≡ s.zones
  pub asked : t.asked ≡ s.asked
  pub log : t.log ≡ s.log
  pub ticks : t.ticks ≡ s.ticks

-- a state that a heap stands for, and which differs from another in objects and scopes alone
pub record OnHeap (h : Heap) (s t : State) : Type 0 where
  pub stands : StandsFor h (heap_of t)
  pub beside : SameBeside s t

-- no call on a dictionary was answered between two states
pub record Unanswered (s t : State) : Type 0 where
  pub zones : t.zones ≡ s.zones
  pub asked : t.asked ≡ s.asked

-- what stands is what stood, without some of the operands on top
pub record Below (before after : Stacks) : Type 0 where
  pub above : List PlainValue
  pub operands : before.operands ≡ above ++ after.operands
  pub scopes : before.scopes ≡ after.scopes
  pub lists : before.lists ≡ after.lists
  pub endings : before.endings ≡ after.endings

-- the state in which an action ends
abbrev pub state_in : Action → (State → Type 0) → Type 0
state_in (Goes next st t) P = P t
state_in (Ends o) P = P (state_of o)
state_in (Leads e st t) P = P t
state_in Stuck P = Unit {0}

-- an answer of an operation that goes on to `rest` where it gives nothing else: what stands then, and of which states `holds`
-- says that the machine stands for them. `stopped` is what is known after want of memory
abbrev pub Acts : (holds stopped : State → Type 0) → List (List ℕ) → List Op → Stacks → Result (Unit {0}) Stop → Action → Type 0
Acts holds stopped texts rest after (Ok done) (Goes next st t) = (next ≡ rest) × (st ≡ after) × holds t
Acts holds stopped texts rest after (Err (Throw v)) (Leads (Thrown w) st t) = (content texts v ≡ w) × Below st after × holds t
Acts holds stopped texts rest after (Err Fuel) (Ends (Spent t)) = holds t
Acts holds stopped texts rest after (Err NoMemory) a = state_in a stopped
Acts holds stopped texts rest after r a = ⊥
