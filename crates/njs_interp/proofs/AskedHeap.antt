-- The asked form of operations on the heap.
use Rattle.std.proofs.Common.{◌≡◌, ℕ, List, Result, Ok, Err}
use Rattle.njs_value.specs.declared.Value.{Value}
use Rattle.njs_shared.specs.Heap.{Heap}
use Rattle.njs_code.specs.declared.op.Kind.{Kind}
use Rattle.njs_code.specs.declared.op.Op.{Op}
use Rattle.njs_meaning.specs.Running.{Calls}
use Rattle.njs_meaning.specs.State.{State, Gives, Throws, Spent, Asks}
use Rattle.njs_meaning.specs.Replies.{state_of}
use Rattle.njs_convert.specs.declared.stop.Stop.{Stop}
use Rattle.njs_convert.specs.declared.stop.Stop.TheVariants.{Throw, Fuel, NoMemory}
use Rattle.njs_convert.specs.FirstHeap.{StandsFor}
use Rattle.njs_simul.specs.Stacks as plain
use Rattle.njs_simul.specs.Stacks.{Frame, Ended, Thrown}
use Rattle.njs_simul.specs.Step.{Action, Goes, Ends, Leads, Stuck, act}
use Rattle.njs_interp.specs.declared.stacks.Stacks.{Stacks}
use Rattle.njs_interp.specs.Plain.{heap_of, plain_stacks}
use Rattle.njs_interp.specs.Acts.{SameBeside, OnHeap, Unanswered, Acts, state_in}
use Rattle.njs_interp.specs.Tells.{IsFrame, ActsOnHeap, ActsInCall}
use Rattle.njs_interp.specs.Asked.{ActsAsked}

-- what is known of the state in which an action ends may be known by other words
pub state_by : (stopped stopped' : State → Type 0) (a : Action) → ((t : State) → stopped t → stopped' t) → state_in a stopped → state_in a stopped'
state_by stopped stopped' (Goes next st t) g here = g t here
state_by stopped stopped' (Ends o) g here = g (state_of o) here
state_by stopped stopped' (Leads e st t) g here = g t here
state_by stopped stopped' Stuck g here = tt

-- so may what is known of the states then
pub acts_by : (holds holds' stopped stopped' : State → Type 0) (texts : List (List ℕ)) (rest : List Op) (after : plain.Stacks) (r : Result (Unit {0}) Stop) (a : Action)
    → ((t : State) → holds t → holds' t) → ((t : State) → stopped t → stopped' t) → Acts holds stopped texts rest after r a → Acts holds' stopped' texts rest after r a
acts_by holds holds' stopped stopped' texts rest after (Ok done) (Goes next st t) f g told = (told.0, told.1, f t told.2)
acts_by holds holds' stopped stopped' texts rest after (Ok done) (Ends (Gives v t)) f g told = absurd told
acts_by holds holds' stopped stopped' texts rest after (Ok done) (Ends (Throws v t)) f g told = absurd told
acts_by holds holds' stopped stopped' texts rest after (Ok done) (Ends (Spent t)) f g told = absurd told
acts_by holds holds' stopped stopped' texts rest after (Ok done) (Ends (Asks zone op t)) f g told = absurd told
acts_by holds holds' stopped stopped' texts rest after (Ok done) (Leads (Ended e) st t) f g told = absurd told
acts_by holds holds' stopped stopped' texts rest after (Ok done) (Leads (Thrown w) st t) f g told = absurd told
acts_by holds holds' stopped stopped' texts rest after (Ok done) Stuck f g told = absurd told
acts_by holds holds' stopped stopped' texts rest after (Err (Throw x)) (Goes next st t) f g told = absurd told
acts_by holds holds' stopped stopped' texts rest after (Err (Throw x)) (Ends (Gives v t)) f g told = absurd told
acts_by holds holds' stopped stopped' texts rest after (Err (Throw x)) (Ends (Throws v t)) f g told = absurd told
acts_by holds holds' stopped stopped' texts rest after (Err (Throw x)) (Ends (Spent t)) f g told = absurd told
acts_by holds holds' stopped stopped' texts rest after (Err (Throw x)) (Ends (Asks zone op t)) f g told = absurd told
acts_by holds holds' stopped stopped' texts rest after (Err (Throw x)) (Leads (Ended e) st t) f g told = absurd told
acts_by holds holds' stopped stopped' texts rest after (Err (Throw x)) (Leads (Thrown w) st t) f g told = (told.0, told.1, f t told.2)
acts_by holds holds' stopped stopped' texts rest after (Err (Throw x)) Stuck f g told = absurd told
acts_by holds holds' stopped stopped' texts rest after (Err Fuel) (Goes next st t) f g told = absurd told
acts_by holds holds' stopped stopped' texts rest after (Err Fuel) (Ends (Gives v t)) f g told = absurd told
acts_by holds holds' stopped stopped' texts rest after (Err Fuel) (Ends (Throws v t)) f g told = absurd told
acts_by holds holds' stopped stopped' texts rest after (Err Fuel) (Ends (Spent t)) f g told = f t told
acts_by holds holds' stopped stopped' texts rest after (Err Fuel) (Ends (Asks zone op t)) f g told = absurd told
acts_by holds holds' stopped stopped' texts rest after (Err Fuel) (Leads (Ended e) st t) f g told = absurd told
acts_by holds holds' stopped stopped' texts rest after (Err Fuel) (Leads (Thrown w) st t) f g told = absurd told
acts_by holds holds' stopped stopped' texts rest after (Err Fuel) Stuck f g told = absurd told
acts_by holds holds' stopped stopped' texts rest after (Err NoMemory) a f g told = state_by stopped stopped' a g told

-- a runner's laws, at what it knows and between two heaps
module _ (stands holds stopped : State → Type 0) (old new : Heap) (heap_is : (s : State) → stands s → StandsFor old (heap_of s)) (holds_by : (s t : State) → stands s → StandsFor new (heap_of t) → SameBeside s t → holds t)
    (stops : (s : State) → stands s → stopped s) (same : (s t : State) → t.zones ≡ s.zones → t.asked ≡ s.asked → stopped s → stopped t) where
  on_heap : (s : State) → stands s → (texts : List (List ℕ)) (rest : List Op) (after : plain.Stacks) (r : Result (Unit {0}) Stop) (a : Action) → Acts (OnHeap new s) (Unanswered s) texts rest after r a → Acts holds stopped texts rest after r a
  on_heap s here texts rest after r a told =
      acts_by (OnHeap new s) holds (Unanswered s) stopped texts rest after r a (λ t on. holds_by s t here on.stands on.beside) (λ t none. same s t none.zones none.asked (stops s here)) told

  -- what an operation on the heap does, it does under a caller
  pub heap_asked : (follows : Calls → Type 0) (agrees : Type 0) (k : Kind) (before after : Stacks) (r : Result (Unit {0}) Stop) → ActsOnHeap k old new before after r → ActsAsked follows agrees stands holds stopped k old new before after r
  heap_asked follows agrees k before after r told = record {
    by = λ calls frame code rest s f g same_calls here.
        on_heap s here new.texts rest (plain_stacks new.texts after) r (act frame code k rest (plain_stacks old.texts before) s) (told.by frame code rest s (heap_is s here));
  }

  -- so does one that asks for the call, in that call
  pub in_call_asked : (unit : ℕ) (this : Value) (args : List Value) (k : Kind) (before after : Stacks) (r : Result (Unit {0}) Stop) → ActsInCall unit this args k old new before after r
      → (frame : Frame) (code rest : List Op) (s : State) → IsFrame old.texts unit this args frame → stands s
      → Acts holds stopped new.texts rest (plain_stacks new.texts after) r (act frame code k rest (plain_stacks old.texts before) s)
  in_call_asked unit this args k before after r told frame code rest s is here =
      on_heap s here new.texts rest (plain_stacks new.texts after) r (act frame code k rest (plain_stacks old.texts before) s) (told.by frame code rest s is (heap_is s here))
