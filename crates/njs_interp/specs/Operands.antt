-- Operands that operations take and give.
use Rattle.std.specs.Prelude.{◌≡◌, ℕ, List, [], ◌∷◌, ◌++◌, length, Result, Ok, Err}
use Rattle.std.specs.List.{AllByRecursion}
use Rattle.njs_value.specs.declared.Value.{Value}
use Rattle.njs_value.specs.declared.Value.TheVariants as value
use Rattle.njs_shared.specs.Heap.{Heap, sizes}
use Rattle.njs_shared.specs.Fits.{FitsValue}
use Rattle.njs_code.specs.declared.op.Kind.{Kind}
use Rattle.njs_code.specs.declared.op.Op.{Op}
use Rattle.njs_code.specs.declared.code.FunctionCode.{FunctionCode}
use Rattle.njs_code.specs.Effects.{operands_taken, operands_given, scopes_taken, scopes_given, lists_taken, lists_given, endings_taken, endings_given, depth_left}
use Rattle.njs_convert.specs.declared.stop.Stop.{Stop}
use Rattle.njs_convert.specs.declared.stop.Stop.TheVariants.{Throw, Fuel, NoMemory}
use Rattle.njs_interp.specs.declared.stacks.Stacks.{Stacks}
use Rattle.njs_interp.specs.Sits.{Sits}

-- an operation takes so many operands, and nothing else that stands
pub record Takes (k : Kind) (count : ℕ) : Type 0 where
  pub operands : operands_taken k ≡ count
  pub scopes : scopes_taken k ≡ 0
  pub lists : lists_taken k ≡ 0
  pub endings : endings_taken k ≡ 0

-- an operation gives so many operands, and nothing else that stands
pub record Gives (k : Kind) (count : ℕ) : Type 0 where
  pub operands : operands_given k ≡ count
  pub scopes : scopes_given k ≡ 0
  pub lists : lists_given k ≡ 0
  pub endings : endings_given k ≡ 0

-- what stands once an operation has taken its operands, the top first
pub record HasTaken (f : FunctionCode) (op : Op) (h : Heap) (before after : Stacks) (taken : List Value) : Type 0 where
  pub is : before ≡ record after { operands = taken ++ after.operands }
  pub sits : Sits h f.slots (depth_left op.kind op.depth) after
  pub fits : AllByRecursion (FitsValue (sizes h)) taken

-- a value comes on top, where there is memory for it
abbrev pub Pushed : Value → Stacks → Stacks → Result (Unit {0}) Stop → Type 0
Pushed v before after (Ok done) = after ≡ record before { operands = v ∷ before.operands }
Pushed v before after (Err (Throw w)) = ⊥
Pushed v before after (Err Fuel) = ⊥
Pushed v before after (Err NoMemory) = Unit {0}

-- two values come on top
abbrev pub PushedTwo : (below top : Value) → Stacks → Stacks → Result (Unit {0}) Stop → Type 0
PushedTwo below top before after (Ok done) = after ≡ record before { operands = top ∷ below ∷ before.operands }
PushedTwo below top before after (Err (Throw w)) = ⊥
PushedTwo below top before after (Err Fuel) = ⊥
PushedTwo below top before after (Err NoMemory) = Unit {0}

-- a text was added with this content, and nothing else has changed; or there was no memory, and nothing has changed
abbrev pub Added : List ℕ → Heap → Heap → Result Value Stop → Type 0
Added text old new (Ok (value.Str t)) = (t.0 ≡ length old.texts) × (new ≡ record old { texts = old.texts ++ text ∷ [] })
Added text old new (Err NoMemory) = new ≡ old
Added text old new r = ⊥
