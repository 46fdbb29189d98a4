-- What an operation does on the heap, or in a call, as a step under a runner.
use Rattle.std.proofs.Common.{◌≡◌, ℕ, List, Result, Ok, Err, sym, ap, subst}
use Rattle.std.specs.Prelude.{OnOk, OnErr}
use Rattle.njs_value.specs.declared.Value.{Value}
use Rattle.njs_shared.specs.Heap.{Heap}
use Rattle.njs_code.specs.declared.op.Kind.{Kind}
use Rattle.njs_code.specs.declared.op.Op.{Op}
use Rattle.njs_code.specs.declared.code.FunctionCode.{FunctionCode}
use Rattle.njs_meaning.specs.State.{State, Gives, Throws, Spent, Asks}
use Rattle.njs_meaning.specs.Running.{Calls}
use Rattle.njs_convert.specs.declared.stop.Stop.{Stop}
use Rattle.njs_convert.specs.declared.stop.Stop.TheVariants.{Throw, Fuel, NoMemory}
use Rattle.njs_convert.specs.FirstHeap.{StandsFor}
use Rattle.njs_simul.specs.Stacks as plain
use Rattle.njs_simul.specs.Stacks.{Ended, Thrown}
use Rattle.njs_simul.specs.Step.{Action, Goes, Ends, Leads, Stuck, act, from}
use Rattle.njs_interp.specs.declared.next.Next.{Next}
use Rattle.njs_interp.specs.declared.next.Next.TheVariants as next
use Rattle.njs_interp.specs.declared.stacks.Stacks.{Stacks}
use Rattle.njs_interp.specs.Plain.{heap_of, plain_stacks}
use Rattle.njs_interp.specs.Acts.{SameBeside, OnHeap, Unanswered, Acts}
use Rattle.njs_interp.specs.Tells.{ActsOnHeap, ActsInCall, Leaves}
use Rattle.njs_interp.specs.Jumps.{ActsNext, JumpsOnHeap, LeavesNext}
use Rattle.njs_interp.specs.Asked.{ActsAsked}
use Rattle.njs_interp.specs.Stepping.{GoesTo, Steps}
use Rattle.njs_interp.specs.Dispatch.{Continues, next_after, AsksInCall}
use Rattle.njs_interp.proofs.AskedHeap.{state_by}

-- an operation that goes on to the next one, as one that may lead elsewhere
pub acts_next : (holds stopped : State → Type 0) (texts : List (List ℕ)) (at : ℕ → List Op) (rest : List Op) (after : plain.Stacks) (r : Result (Unit {0}) Stop) (a : Action)
    → Acts holds stopped texts rest after r a → ActsNext holds stopped texts at rest after (next_after r) a
acts_next holds stopped texts at rest after (Ok done) (Goes ops st t) told = told
acts_next holds stopped texts at rest after (Ok done) (Ends (Gives v t)) told = absurd told
acts_next holds stopped texts at rest after (Ok done) (Ends (Throws v t)) told = absurd told
acts_next holds stopped texts at rest after (Ok done) (Ends (Spent t)) told = absurd told
acts_next holds stopped texts at rest after (Ok done) (Ends (Asks zone q t)) told = absurd told
acts_next holds stopped texts at rest after (Ok done) (Leads (Ended c) st t) told = absurd told
acts_next holds stopped texts at rest after (Ok done) (Leads (Thrown w) st t) told = absurd told
acts_next holds stopped texts at rest after (Ok done) Stuck told = absurd told
acts_next holds stopped texts at rest after (Err (Throw x)) (Goes ops st t) told = absurd told
acts_next holds stopped texts at rest after (Err (Throw x)) (Ends (Gives v t)) told = absurd told
acts_next holds stopped texts at rest after (Err (Throw x)) (Ends (Throws v t)) told = absurd told
acts_next holds stopped texts at rest after (Err (Throw x)) (Ends (Spent t)) told = absurd told
acts_next holds stopped texts at rest after (Err (Throw x)) (Ends (Asks zone q t)) told = absurd told
acts_next holds stopped texts at rest after (Err (Throw x)) (Leads (Ended c) st t) told = absurd told
acts_next holds stopped texts at rest after (Err (Throw x)) (Leads (Thrown w) st t) told = told
acts_next holds stopped texts at rest after (Err (Throw x)) Stuck told = absurd told
acts_next holds stopped texts at rest after (Err Fuel) (Goes ops st t) told = absurd told
acts_next holds stopped texts at rest after (Err Fuel) (Ends (Gives v t)) told = absurd told
acts_next holds stopped texts at rest after (Err Fuel) (Ends (Throws v t)) told = absurd told
acts_next holds stopped texts at rest after (Err Fuel) (Ends (Spent t)) told = told
acts_next holds stopped texts at rest after (Err Fuel) (Ends (Asks zone q t)) told = absurd told
acts_next holds stopped texts at rest after (Err Fuel) (Leads (Ended c) st t) told = absurd told
acts_next holds stopped texts at rest after (Err Fuel) (Leads (Thrown w) st t) told = absurd told
acts_next holds stopped texts at rest after (Err Fuel) Stuck told = absurd told
acts_next holds stopped texts at rest after (Err NoMemory) a told = told

-- what is known of the states then may be known by other words
pub next_by : (holds holds' stopped stopped' : State → Type 0) (texts : List (List ℕ)) (at : ℕ → List Op) (rest : List Op) (after : plain.Stacks) (r : Result Next Stop) (a : Action)
    → ((t : State) → holds t → holds' t) → ((t : State) → stopped t → stopped' t) → ActsNext holds stopped texts at rest after r a → ActsNext holds' stopped' texts at rest after r a
next_by holds holds' stopped stopped' texts at rest after (Ok next.On) (Goes ops st t) f g told = (told.0, told.1, f t told.2)
next_by holds holds' stopped stopped' texts at rest after (Ok next.On) (Ends (Gives v t)) f g told = absurd told
next_by holds holds' stopped stopped' texts at rest after (Ok next.On) (Ends (Throws v t)) f g told = absurd told
next_by holds holds' stopped stopped' texts at rest after (Ok next.On) (Ends (Spent t)) f g told = absurd told
next_by holds holds' stopped stopped' texts at rest after (Ok next.On) (Ends (Asks zone q t)) f g told = absurd told
next_by holds holds' stopped stopped' texts at rest after (Ok next.On) (Leads (Ended c) st t) f g told = absurd told
next_by holds holds' stopped stopped' texts at rest after (Ok next.On) (Leads (Thrown w) st t) f g told = absurd told
next_by holds holds' stopped stopped' texts at rest after (Ok next.On) Stuck f g told = absurd told
next_by holds holds' stopped stopped' texts at rest after (Ok (next.To to)) (Goes ops st t) f g told = (told.0, told.1, f t told.2)
next_by holds holds' stopped stopped' texts at rest after (Ok (next.To to)) (Ends (Gives v t)) f g told = absurd told
next_by holds holds' stopped stopped' texts at rest after (Ok (next.To to)) (Ends (Throws v t)) f g told = absurd told
next_by holds holds' stopped stopped' texts at rest after (Ok (next.To to)) (Ends (Spent t)) f g told = absurd told
next_by holds holds' stopped stopped' texts at rest after (Ok (next.To to)) (Ends (Asks zone q t)) f g told = absurd told
next_by holds holds' stopped stopped' texts at rest after (Ok (next.To to)) (Leads (Ended c) st t) f g told = absurd told
next_by holds holds' stopped stopped' texts at rest after (Ok (next.To to)) (Leads (Thrown w) st t) f g told = absurd told
next_by holds holds' stopped stopped' texts at rest after (Ok (next.To to)) Stuck f g told = absurd told
next_by holds holds' stopped stopped' texts at rest after (Ok (next.Out e)) (Goes ops st t) f g told = absurd told
next_by holds holds' stopped stopped' texts at rest after (Ok (next.Out e)) (Ends (Gives v t)) f g told = absurd told
next_by holds holds' stopped stopped' texts at rest after (Ok (next.Out e)) (Ends (Throws v t)) f g told = absurd told
next_by holds holds' stopped stopped' texts at rest after (Ok (next.Out e)) (Ends (Spent t)) f g told = absurd told
next_by holds holds' stopped stopped' texts at rest after (Ok (next.Out e)) (Ends (Asks zone q t)) f g told = absurd told
next_by holds holds' stopped stopped' texts at rest after (Ok (next.Out e)) (Leads (Ended c) st t) f g told = (told.0, told.1, f t told.2)
next_by holds holds' stopped stopped' texts at rest after (Ok (next.Out e)) (Leads (Thrown w) st t) f g told = (told.0, told.1, f t told.2)
next_by holds holds' stopped stopped' texts at rest after (Ok (next.Out e)) Stuck f g told = absurd told
next_by holds holds' stopped stopped' texts at rest after (Err (Throw x)) (Goes ops st t) f g told = absurd told
next_by holds holds' stopped stopped' texts at rest after (Err (Throw x)) (Ends (Gives v t)) f g told = absurd told
next_by holds holds' stopped stopped' texts at rest after (Err (Throw x)) (Ends (Throws v t)) f g told = absurd told
next_by holds holds' stopped stopped' texts at rest after (Err (Throw x)) (Ends (Spent t)) f g told = absurd told
next_by holds holds' stopped stopped' texts at rest after (Err (Throw x)) (Ends (Asks zone q t)) f g told = absurd told
next_by holds holds' stopped stopped' texts at rest after (Err (Throw x)) (Leads (Ended c) st t) f g told = absurd told
next_by holds holds' stopped stopped' texts at rest after (Err (Throw x)) (Leads (Thrown w) st t) f g told = (told.0, told.1, f t told.2)
next_by holds holds' stopped stopped' texts at rest after (Err (Throw x)) Stuck f g told = absurd told
next_by holds holds' stopped stopped' texts at rest after (Err Fuel) (Goes ops st t) f g told = absurd told
next_by holds holds' stopped stopped' texts at rest after (Err Fuel) (Ends (Gives v t)) f g told = absurd told
next_by holds holds' stopped stopped' texts at rest after (Err Fuel) (Ends (Throws v t)) f g told = absurd told
next_by holds holds' stopped stopped' texts at rest after (Err Fuel) (Ends (Spent t)) f g told = f t told
next_by holds holds' stopped stopped' texts at rest after (Err Fuel) (Ends (Asks zone q t)) f g told = absurd told
next_by holds holds' stopped stopped' texts at rest after (Err Fuel) (Leads (Ended c) st t) f g told = absurd told
next_by holds holds' stopped stopped' texts at rest after (Err Fuel) (Leads (Thrown w) st t) f g told = absurd told
next_by holds holds' stopped stopped' texts at rest after (Err Fuel) Stuck f g told = absurd told
next_by holds holds' stopped stopped' texts at rest after (Err NoMemory) a f g told = state_by stopped stopped' a g told

-- what an operation leaves that goes on to the next one
pub leaves_next : (f : FunctionCode) (op : Op) (h : Heap) (st : Stacks) (r : Result (Unit {0}) Stop) → Leaves f op h st r → LeavesNext f op h st (next_after r)
leaves_next f op h st (Ok done) leaves = leaves
leaves_next f op h st (Err (Throw v)) leaves = leaves
leaves_next f op h st (Err Fuel) leaves = tt
leaves_next f op h st (Err NoMemory) leaves = tt

-- an operation that asks a caller, as a step
pub steps_asked : (follows : Calls → Type 0) (agrees : Type 0) (stands holds stopped : State → Type 0) (unit : ℕ) (this : Value) (args : List Value) (k : Kind) (old new : Heap) (before after : Stacks) (r : Result (Unit {0}) Stop)
    → ActsAsked follows agrees stands holds stopped k old new before after r → Steps follows agrees stands holds stopped unit this args k old new before after (next_after r)
steps_asked follows agrees stands holds stopped unit this args k old new before after r told = record {
  by = λ calls frame code rest s follow agree same is here.
      acts_next holds stopped new.texts (from frame code) rest (plain_stacks new.texts after) r (act frame code k rest (plain_stacks old.texts before) s)
      (told.by calls frame code rest s follow agree same here);
}

-- a runner's laws, at what it knows and between two heaps
module _ (stands holds stopped : State → Type 0) (old new : Heap) (heap_is : (s : State) → stands s → StandsFor old (heap_of s)) (holds_by : (s t : State) → stands s → StandsFor new (heap_of t) → SameBeside s t → holds t)
    (stops : (s : State) → stands s → stopped s) (same : (s t : State) → t.zones ≡ s.zones → t.asked ≡ s.asked → stopped s → stopped t) where
  next_on_heap : (s : State) → stands s → (texts : List (List ℕ)) (at : ℕ → List Op) (rest : List Op) (after : plain.Stacks) (r : Result Next Stop) (a : Action)
      → ActsNext (OnHeap new s) (Unanswered s) texts at rest after r a → ActsNext holds stopped texts at rest after r a
  next_on_heap s here texts at rest after r a told =
      next_by (OnHeap new s) holds (Unanswered s) stopped texts at rest after r a (λ t on. holds_by s t here on.stands on.beside) (λ t none. same s t none.zones none.asked (stops s here)) told

  module _ (follows : Calls → Type 0) (agrees : Type 0) (unit : ℕ) (this : Value) (args : List Value) (k : Kind) (before after : Stacks) where
    -- an operation that may lead elsewhere
    pub steps_jump : (r : Result Next Stop) → JumpsOnHeap k old new before after r → Steps follows agrees stands holds stopped unit this args k old new before after r
    steps_jump r told = record {
      by = λ calls frame code rest s follow agree same_calls is here.
          next_on_heap s here new.texts (from frame code) rest (plain_stacks new.texts after) r (act frame code k rest (plain_stacks old.texts before) s)
          (told.by frame code rest s (heap_is s here));
    }

    -- one on the heap alone
    pub steps_heap : (r : Result (Unit {0}) Stop) → ActsOnHeap k old new before after r → Steps follows agrees stands holds stopped unit this args k old new before after (next_after r)
    steps_heap r told = record {
      by = λ calls frame code rest s follow agree same_calls is here.
          let a = act frame code k rest (plain_stacks old.texts before) s in
          next_on_heap s here new.texts (from frame code) rest (plain_stacks new.texts after) (next_after r) a
          (acts_next (OnHeap new s) (Unanswered s) new.texts (from frame code) rest (plain_stacks new.texts after) r a (told.by frame code rest s (heap_is s here)));
    }

    -- one that asks for the call
    pub steps_in_call : (r : Result (Unit {0}) Stop) → ActsInCall unit this args k old new before after r → Steps follows agrees stands holds stopped unit this args k old new before after (next_after r)
    steps_in_call r told = record {
      by = λ calls frame code rest s follow agree same_calls is here.
          let a = act frame code k rest (plain_stacks old.texts before) s in
          next_on_heap s here new.texts (from frame code) rest (plain_stacks new.texts after) (next_after r) a
          (acts_next (OnHeap new s) (Unanswered s) new.texts (from frame code) rest (plain_stacks new.texts after) r a (told.by frame code rest s is (heap_is s here)));
    }

-- an operation that asks a caller in its call, as a step
pub steps_called : (follows : Calls → Type 0) (agrees : Type 0) (stands holds stopped : State → Type 0) (unit : ℕ) (this : Value) (args : List Value) (k : Kind) (old new : Heap) (before after : Stacks) (r : Result (Unit {0}) Stop)
    → AsksInCall follows agrees stands holds stopped unit this args k old new before after r → Steps follows agrees stands holds stopped unit this args k old new before after (next_after r)
steps_called follows agrees stands holds stopped unit this args k old new before after r told = record {
  by = λ calls frame code rest s follow agree same is here.
      acts_next holds stopped new.texts (from frame code) rest (plain_stacks new.texts after) r (act frame code k rest (plain_stacks old.texts before) s)
      (told.by calls frame code rest s follow agree same is here);
}

-- one that asks a caller alone asks it in any call
pub asks_in_call : (follows : Calls → Type 0) (agrees : Type 0) (stands holds stopped : State → Type 0) (unit : ℕ) (this : Value) (args : List Value) (k : Kind) (old new : Heap) (before after : Stacks) (r : Result (Unit {0}) Stop)
    → ActsAsked follows agrees stands holds stopped k old new before after r → AsksInCall follows agrees stands holds stopped unit this args k old new before after r
asks_in_call follows agrees stands holds stopped unit this args k old new before after r told = record {
  by = λ calls frame code rest s follow agree same is here. told.by calls frame code rest s follow agree same here;
}

-- what an operation does on the heap, it does in any call
pub in_any_call : (unit : ℕ) (this : Value) (args : List Value) (k : Kind) (old new : Heap) (before after : Stacks) (r : Result (Unit {0}) Stop) → ActsOnHeap k old new before after r → ActsInCall unit this args k old new before after r
in_any_call unit this args k old new before after r told = record { by = λ frame code rest s is stands. told.by frame code rest s stands }

-- of an operation that is another by a fact
pub in_call_at : (unit : ℕ) (this : Value) (args : List Value) (k other : Kind) (old new : Heap) (before after : Stacks) (r : Result (Unit {0}) Stop) → ActsOnHeap other old new before after r → k ≡ other → ActsInCall unit this args k old new before after r
in_call_at unit this args k other old new before after r told is = subst (λ k. ActsInCall unit this args k old new before after r) (sym is) (in_any_call unit this args other old new before after r told)

pub goes_next : (k : Kind) (r : Result (Unit {0}) Stop) → Continues k r → GoesTo k (next_after r)
goes_next k (Ok done) on = on
goes_next k (Err stop) on = tt

-- what is said of the answer of an operation is said of where the code goes on
pub ok_next : (P : Type 0) (r : Result (Unit {0}) Stop) → OnOk r P → OnOk (next_after r) P
ok_next P (Ok done) here = here
ok_next P (Err stop) here = here

pub err_next : (r : Result (Unit {0}) Stop) → OnErr r (r ≡ Err Fuel) → OnErr (next_after r) (next_after r ≡ Err Fuel)
err_next (Ok done) here = here
err_next (Err stop) here = ap next_after here
