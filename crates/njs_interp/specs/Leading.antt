-- How an ending is led outwards, from the operation that it came from.
use Rattle.std.specs.Prelude.{◌≡◌, ℕ, ◌<◌, ◌+◌, ◌-◌, true, List, ◌∷◌, reverse, Option, Some, None, Result, Ok, Err}
use Rattle.std.specs.Option.{option_map}
use Rattle.njs_shared.specs.Heap.{Heap, Sizes}
use Rattle.njs_shared.specs.Fits.{FitsValue}
use Rattle.njs_clone.specs.Content.{content}
use Rattle.njs_text.specs.declared.memory.NoMemory.{NoMemory}
use Rattle.njs_code.specs.declared.op.Address.{Address}
use Rattle.njs_code.specs.declared.op.Depth.{Depth}
use Rattle.njs_code.specs.declared.op.Kind.{Kind}
use Rattle.njs_code.specs.declared.op.Op.{Op}
use Rattle.njs_code.specs.declared.code.FunctionCode.{FunctionCode}
use Rattle.njs_code.specs.Effects.{goes_on, past_of, operands_taken, operands_given, scopes_taken, scopes_given, lists_taken, lists_given, endings_taken, endings_given}
use Rattle.njs_code.specs.Facts.{StandsAt, IsWithin}
use Rattle.njs_meaning.specs.Values.{PlainValue}
use Rattle.njs_meaning.specs.State.{State, Outcome}
use Rattle.njs_simul.specs.Stacks as plain
use Rattle.njs_simul.specs.Stacks.{Frame, push, lowest, cut_to}
use Rattle.njs_simul.specs.Step.{from, taken, ended_by}
use Rattle.njs_simul.specs.Runs.{Runs, LeadsOut}
use Rattle.njs_simul.specs.Fits.{Names, Good}
use Rattle.njs_interp.specs.declared.stacks.Ending.{Ending}
use Rattle.njs_interp.specs.declared.stacks.Stacks.{Stacks}
use Rattle.njs_interp.specs.declared.taking.Taking.{Taking}
use Rattle.njs_interp.specs.declared.taking.Taking.TheVariants.{Past, Behind, Catches, Waits}
use Rattle.njs_interp.specs.declared.lead.Found.{Found}
use Rattle.njs_interp.specs.Plain.{plain_ending, plain_stacks}
use Rattle.njs_interp.specs.Sits.{Sits, FitsEnding}
use Rattle.njs_interp.specs.Acts.{Below}

-- ---- one operation that ends a part

-- where it goes on that stands at a place
abbrev pub place_by : ℕ → Taking → ℕ
place_by place (Past a) = a.0
place_by place Behind = place - 1
place_by place (Catches v) = place - 1
place_by place Waits = place - 1

-- what stands then
abbrev pub stands_by : List (List ℕ) → Ending → plain.Stacks → Taking → plain.Stacks
stands_by texts e st (Past a) = st
stands_by texts e st Behind = st
stands_by texts e st (Catches v) = push (content texts v) st
stands_by texts e st Waits = record st { endings = plain_ending texts e ∷ st.endings }

-- and how deep
abbrev pub depth_by : Depth → Taking → Depth
depth_by depth (Past a) = depth
depth_by depth Behind = depth
depth_by depth (Catches v) = record depth { operands = depth.operands + 1 }
depth_by depth Waits = record depth { endings = depth.endings + 1 }

-- it takes up an ending so, or leaves it to another
pub record Takes (k : Kind) (e : Ending) (way : Option Taking) : Type 0 where
  pub by : (frame : Frame) (code : List Op) (texts : List (List ℕ)) (place : ℕ) (st : plain.Stacks)
      → taken frame code k (from frame code (place - 1)) (plain_ending texts e) st ≡ option_map (λ way. (from frame code (place_by place way), stands_by texts e st way)) way

-- it goes on to the next operation, with so many operands and endings more
pub record GoesOn (k : Kind) (operands endings : ℕ) : Type 0 where
  pub on : goes_on k ≡ true
  pub operands_taken : operands_taken k ≡ 0
  pub operands_given : operands_given k ≡ operands
  pub scopes_taken : scopes_taken k ≡ 0
  pub scopes_given : scopes_given k ≡ 0
  pub lists_taken : lists_taken k ≡ 0
  pub lists_given : lists_given k ≡ 0
  pub endings_taken : endings_taken k ≡ 0
  pub endings_given : endings_given k ≡ endings

abbrev pub GoesBy : Kind → Option Taking → Type 0
GoesBy k None = Unit {0}
GoesBy k (Some (Past a)) = past_of k ≡ Some a
GoesBy k (Some Behind) = GoesOn k 0 0
GoesBy k (Some (Catches v)) = GoesOn k 1 0
GoesBy k (Some Waits) = GoesOn k 0 1

abbrev pub FitsTaking : Sizes → Option Taking → Type 0
FitsTaking n None = Unit {0}
FitsTaking n (Some (Past a)) = Unit {0}
FitsTaking n (Some Behind) = Unit {0}
FitsTaking n (Some (Catches v)) = FitsValue n v
FitsTaking n (Some Waits) = Unit {0}

-- so much as stands at a depth was kept
pub record IsCut (depth : Depth) (old new : Stacks) : Type 0 where
  pub operands : new.operands ≡ lowest depth.operands old.operands
  pub scopes : new.scopes ≡ lowest depth.scopes old.scopes
  pub lists : reverse new.lists.items ≡ lowest depth.lists (reverse old.lists.items)
  pub endings : new.endings ≡ lowest depth.endings old.endings

abbrev pub with_taken : Ending → Taking → Stacks → Stacks
with_taken e (Past a) st = st
with_taken e Behind st = st
with_taken e (Catches v) st = record st { operands = v ∷ st.operands }
with_taken e Waits st = record st { endings = e ∷ st.endings }

-- an ending was taken up, where so much was kept
pub record TakenUp (way : Taking) (e : Ending) (depth : Depth) (old new : Stacks) : Type 0 where
  pub kept : Stacks
  pub cut : IsCut depth old kept
  pub now : new ≡ with_taken e way kept

-- ---- outwards

-- the operation that takes up an ending stands there, further on than this place, and no deeper than this
pub record FoundAt (f : FunctionCode) (place : ℕ) (left : Depth) (e : Ending) (found : Found) : Type 0 where
  pub stands : StandsAt f.ops found.place found.op.now
  pub further : found.place < place
  pub within : IsWithin found.op.now.depth left
  pub goes : GoesBy found.op.now.kind (Some found.way)
  pub fits : (n : Sizes) → FitsEnding n e → FitsTaking n (Some found.way)

abbrev pub FoundThere : FunctionCode → ℕ → Depth → Ending → Option Found → Type 0
FoundThere f place left e None = Unit {0}
FoundThere f place left e (Some found) = FoundAt f place left e found

-- every run that ends so goes on there, or the function is over
abbrev pub FoundTells : Names → Frame → List Op → Outcome PlainValue → List (List ℕ) → Ending → plain.Stacks → State → Option Found → Type 0
FoundTells env frame code outcome texts e st s None = ended_by (plain_ending texts e) s ≡ outcome
FoundTells env frame code outcome texts e st s (Some found) =
    Runs (Good env) frame code outcome (from frame code (place_by found.place found.way)) (stands_by texts e (cut_to found.op.now.depth st) found.way) s

pub record Outward (code : List Op) (around : Option Address) (e : Ending) (r : Option Found) : Type 0 where
  pub by : (env : Names) (frame : Frame) (outcome : Outcome PlainValue) (texts : List (List ℕ)) (st : plain.Stacks) (s : State)
      → LeadsOut (Good env) frame code outcome around (plain_ending texts e) st s → FoundTells env frame code outcome texts e st s r

-- a run goes on from somewhere
pub record RunsOn (env : Names) (frame : Frame) (code : List Op) (outcome : Outcome PlainValue) (s : State) : Type 0 where
  pub next : List Op
  pub after : plain.Stacks
  pub runs : Runs (Good env) frame code outcome next after s

-- where an ending went on: at a place of the code, or the function is over
abbrev pub LedTo : Names → Frame → List Op → Outcome PlainValue → plain.Ending → plain.Stacks → State → Result (Option ℕ) NoMemory → Type 0
LedTo env frame code outcome e after s (Ok (Some place)) = Runs (Good env) frame code outcome (from frame code place) after s
LedTo env frame code outcome e after s (Ok None) = ended_by e s ≡ outcome
LedTo env frame code outcome e after s (Err stop) = RunsOn env frame code outcome s

-- it is where every run goes on that ends so, from what stood then, whatever stood above
pub record Led (code : List Op) (around : Option Address) (e : Ending) (before after : Stacks) (r : Result (Option ℕ) NoMemory) : Type 0 where
  pub by : (env : Names) (frame : Frame) (outcome : Outcome PlainValue) (texts : List (List ℕ)) (st : plain.Stacks) (s : State)
      → Below st (plain_stacks texts before) → LeadsOut (Good env) frame code outcome around (plain_ending texts e) st s
      → LedTo env frame code outcome (plain_ending texts e) (plain_stacks texts after) s r

-- an operation stands at a place, with all that it counts on
pub record SitsAt (f : FunctionCode) (h : Heap) (st : Stacks) (place : ℕ) : Type 0 where
  pub op : Op
  pub stands : StandsAt f.ops place op
  pub sits : Sits h f.slots op.depth st

-- so it is where an ending went on
abbrev pub LeavesLed : FunctionCode → Heap → Stacks → Result (Option ℕ) NoMemory → Type 0
LeavesLed f h st (Ok (Some place)) = SitsAt f h st place
LeavesLed f h st (Ok None) = Unit {0}
LeavesLed f h st (Err stop) = Unit {0}

-- and that is further on
abbrev pub Further : ℕ → Result (Option ℕ) NoMemory → Type 0
Further place (Ok (Some to)) = to < place
Further place (Ok None) = Unit {0}
Further place (Err stop) = Unit {0}
