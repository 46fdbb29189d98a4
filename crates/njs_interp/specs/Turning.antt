-- One turn of the loop over a function's code, and the whole run.
use Rattle.std.specs.Prelude.{◌≡◌, ℕ, ◌-◌, ◌≤◌, List, [], ◌∷◌, Option, Some, None, Result, Ok, Err}
use Rattle.njs_value.specs.declared.ScopeId.{ScopeId}
use Rattle.njs_value.specs.declared.Value.{Value}
use Rattle.njs_value.specs.declared.Value.TheVariants as value
use Rattle.njs_shared.specs.Heap.{Heap, sizes}
use Rattle.njs_shared.specs.Fits.{FitsValue}
use Rattle.njs_text.specs.declared.memory.NoMemory.{NoMemory}
use Rattle.njs_code.specs.declared.op.Op.{Op}
use Rattle.njs_code.specs.declared.op.Kind.TheVariants as kind
use Rattle.njs_code.specs.declared.code.FunctionCode.{FunctionCode}
use Rattle.njs_code.specs.Effects.{depth_left}
use Rattle.njs_code.specs.Facts.{StandsAt}
use Rattle.njs_meaning.specs.Values.{PlainValue}
use Rattle.njs_meaning.specs.State.{State, Outcome}
use Rattle.njs_meaning.specs.Running.{Calls}
use Rattle.njs_convert.specs.declared.stop.Stop.{Stop}
use Rattle.njs_convert.specs.declared.stop.Stop.TheVariants as stop
use Rattle.njs_convert.specs.Tells.{Tells, ShowsValue}
use Rattle.njs_simul.specs.Stacks as plain
use Rattle.njs_simul.specs.Stacks.{Frame}
use Rattle.njs_simul.specs.Step.{from}
use Rattle.njs_simul.specs.Runs.{Runs}
use Rattle.njs_simul.specs.Fits.{Names, Good}
use Rattle.njs_simul.specs.Program.{starting}
use Rattle.njs_interp.specs.declared.next.Next.{Next}
use Rattle.njs_interp.specs.declared.next.Next.TheVariants as next
use Rattle.njs_interp.specs.declared.stacks.Ending.{Ending}
use Rattle.njs_interp.specs.declared.stacks.Ending.TheVariants as ending
use Rattle.njs_interp.specs.declared.stacks.Stacks.{Stacks}
use Rattle.njs_interp.specs.declared.turn.Turned.{Turned}
use Rattle.njs_interp.specs.declared.turn.Turned.TheVariants as turned
use Rattle.njs_interp.specs.Plain.{plain_stacks}
use Rattle.njs_interp.specs.Sits.{Sits, FitsEnding}
use Rattle.njs_interp.specs.Tells.{IsFrame}
use Rattle.njs_interp.specs.Leading.{Led, LeavesLed, Further, SitsAt}

-- ---- where the code goes on

-- what a function answers whose code an ending led out of
abbrev pub over : Ending → Result Turned Stop
over ending.Normal = Ok (turned.Ends value.Undefined)
over (ending.Returned v) = Ok (turned.Ends v)
over (ending.Broken label) = Ok (turned.Ends value.Undefined)
over (ending.Continued label) = Ok (turned.Ends value.Undefined)
over (ending.Thrown v) = Err (stop.Throw v)

-- where an ending went on, or that the function is over
abbrev pub turned_by : Ending → Result (Option ℕ) NoMemory → Result Turned Stop
turned_by e (Ok (Some place)) = Ok (turned.Goes place)
turned_by e (Ok None) = over e
turned_by e (Err refused) = Err stop.NoMemory

-- an ending was led out of the part around an operation
pub record LeadsTo (f : FunctionCode) (place : ℕ) (op : Op) (e : Ending) (before after : Stacks) (r : Result Turned Stop) : Type 0 where
  pub to : Result (Option ℕ) NoMemory
  pub led : Led f.ops op.around e before after to
  pub leaves : (h : Heap) → Sits h f.slots (depth_left op.kind op.depth) before → FitsEnding (sizes h) e → LeavesLed f h after to
  pub further : Further place to
  pub is : r ≡ turned_by e to

-- the code went on by the answer of an operation at a place
abbrev pub WentOn : FunctionCode → ℕ → Op → Stacks → Stacks → Result Next Stop → Result Turned Stop → Type 0
WentOn f place op before after (Ok next.On) r = (r ≡ Ok (turned.Goes (place - 1))) × (after ≡ before)
WentOn f place op before after (Ok (next.To to)) r = (r ≡ Ok (turned.Goes to.0)) × (after ≡ before)
WentOn f place op before after (Ok (next.Out e)) r = LeadsTo f place op e before after r
WentOn f place op before after (Err (stop.Throw v)) r = LeadsTo f place op (ending.Thrown v) before after r
WentOn f place op before after (Err stop.Fuel) r = (r ≡ Err stop.Fuel) × (after ≡ before)
WentOn f place op before after (Err stop.NoMemory) r = (r ≡ Err stop.NoMemory) × (after ≡ before)

-- ---- one turn

-- a run goes on at a place, in a state that the machine stands for, or the answer tells its outcome
abbrev pub TurnTells : Names → (holds stopped : State → Type 0) → List (List ℕ) → Frame → List Op → Outcome PlainValue → plain.Stacks → Result Turned Stop → Type 0
TurnTells env holds stopped texts frame code outcome after (Ok (turned.Goes place)) = (t : State) × holds t × Runs (Good env) frame code outcome (from frame code place) after t
TurnTells env holds stopped texts frame code outcome after (Ok (turned.Ends v)) = Tells holds stopped texts (ShowsValue texts) (Ok v) outcome
TurnTells env holds stopped texts frame code outcome after (Err stop) = Tells holds stopped texts (ShowsValue texts) (Err stop) outcome

-- so it is of each run from this place, where the caller's calls are those of the frame, in every state that the machine stood for
pub record Turns (env : Names) (follows : Calls → Type 0) (agrees : Type 0) (stands holds stopped : State → Type 0) (unit : ℕ) (this : Value) (args : List Value) (code : List Op) (place : ℕ) (old new : Heap) (before after : Stacks) (r : Result Turned Stop) : Type 0 where
  pub by : (calls : Calls) (frame : Frame) (outcome : Outcome PlainValue) (s : State) → follows calls → agrees → frame.calls ≡ calls → IsFrame old.texts unit this args frame → stands s
      → Runs (Good env) frame code outcome (from frame code place) (plain_stacks old.texts before) s → TurnTells env holds stopped new.texts frame code outcome (plain_stacks new.texts after) r

-- what stands afterwards
abbrev pub LeavesTurned : FunctionCode → Heap → Stacks → Result Turned Stop → Type 0
LeavesTurned f h st (Ok (turned.Goes place)) = SitsAt f h st place
LeavesTurned f h st (Ok (turned.Ends v)) = FitsValue (sizes h) v
LeavesTurned f h st (Err (stop.Throw v)) = FitsValue (sizes h) v
LeavesTurned f h st (Err stop.Fuel) = Unit {0}
LeavesTurned f h st (Err stop.NoMemory) = Unit {0}

-- the place where the code goes on is further on, or has a `Charge`
abbrev pub Onward : List Op → ℕ → Result Turned Stop → Type 0
Onward code place (Ok (turned.Goes to)) = place ≤ to → (op : Op) → StandsAt code to op → op.kind ≡ kind.Charge
Onward code place (Ok (turned.Ends v)) = Unit {0}
Onward code place (Err stop) = Unit {0}

-- ---- the whole run

-- the answer tells how a run of the code from its start ends, with a scope of its own, where the caller's calls are those of the
-- frame, in every state that the machine stood for
pub record RunsCode (env : Names) (follows : Calls → Type 0) (agrees : Type 0) (stands holds stopped : State → Type 0) (unit : ℕ) (this : Value) (args : List Value) (code : List Op) (scope : ℕ) (old new : Heap) (r : Result Value Stop) : Type 0 where
  pub by : (calls : Calls) (frame : Frame) (outcome : Outcome PlainValue) (s : State) → follows calls → agrees → frame.calls ≡ calls → IsFrame old.texts unit this args frame → stands s
      → Runs (Good env) frame code outcome code (starting scope) s → Tells holds stopped new.texts (ShowsValue new.texts) r outcome

-- a run of the code from its start goes on at a place, in a state that the machine stands for now
pub record RanTo (env : Names) (follows : Calls → Type 0) (agrees : Type 0) (stood stands : State → Type 0) (unit : ℕ) (this : Value) (args : List Value) (code : List Op) (scope : ℕ) (old now : Heap) (st : Stacks) (place : ℕ) : Type 0 where
  pub by : (calls : Calls) (frame : Frame) (outcome : Outcome PlainValue) (s : State) → follows calls → agrees → frame.calls ≡ calls → IsFrame old.texts unit this args frame → stood s
      → Runs (Good env) frame code outcome code (starting scope) s → (t : State) × stands t × Runs (Good env) frame code outcome (from frame code place) (plain_stacks now.texts st) t

-- what stands as a call begins: its scope
pub record AtStart (scope : ScopeId) (st : Stacks) : Type 0 where
  pub operands : st.operands ≡ []
  pub scopes : st.scopes ≡ scope ∷ []
  pub lists : st.lists.items ≡ []
  pub endings : st.endings ≡ []
