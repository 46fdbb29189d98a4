-- What stands while the code of a function runs.
use Rattle.std.specs.Prelude.{ℕ, ◌-◌, ◌≤◌, List, [], ◌∷◌, length, drop}
use Rattle.njs_code.specs.declared.op.Depth.{Depth}
use Rattle.njs_meaning.specs.Values.{PlainValue}
use Rattle.njs_meaning.specs.Running.{Calls, Context}
use Rattle.njs_meaning.specs.Completions.{Completion}

-- a value whose names `for in` goes through, and those that are left
pub record Listing : Type 0 where
  pub value : PlainValue
  pub names : List (List ℕ)

-- how a part of the code ended that leads out of it
pub data Ending : Type 0 where
  Ended : Completion → Ending
  Thrown : PlainValue → Ending

-- operands, the scopes that were entered, lists of names and endings that wait, each with the top first
pub record Stacks : Type 0 where
  pub operands : List PlainValue
  pub scopes : List ℕ
  pub lists : List Listing
  pub endings : List Ending

-- a call: what calls in it mean, the module, `this` and the arguments
pub record Frame : Type 0 where
  pub calls : Calls
  pub unit : ℕ
  pub this : PlainValue
  pub args : List PlainValue

-- the innermost scope
abbrev pub inner : List ℕ → ℕ
inner [] = 0
inner (scope ∷ scopes) = scope

abbrev pub context : Frame → Stacks → Context
context frame st = record { calls = frame.calls; unit = frame.unit; scope = record { 0 = inner st.scopes }; this = frame.this }

abbrev pub with_operands : Stacks → List PlainValue → Stacks
with_operands st vs = record st { operands = vs }

abbrev pub push : PlainValue → Stacks → Stacks
push v st = record st { operands = v ∷ st.operands }

-- the lowest n
abbrev pub lowest : {A : Type 0} → ℕ → List A → List A
lowest n xs = drop (length xs - n) xs

-- so much as stands at a depth
abbrev pub cut_to : Depth → Stacks → Stacks
cut_to depth st = record {
  operands = lowest depth.operands st.operands;
  scopes = lowest depth.scopes st.scopes;
  lists = lowest depth.lists st.lists;
  endings = lowest depth.endings st.endings;
}

-- at least so much stands
pub record Within (depth : Depth) (st : Stacks) : Type 0 where
  pub operands : depth.operands ≤ length st.operands
  pub scopes : depth.scopes ≤ length st.scopes
  pub lists : depth.lists ≤ length st.lists
  pub endings : depth.endings ≤ length st.endings
