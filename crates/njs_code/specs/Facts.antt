-- What the interpreter counts on in valid code.
use Rattle.std.specs.Prelude.{◌≡◌, ℕ, ◌+◌, ◌-◌, ◌<◌, ◌≤◌, true, List, ◌∷◌, length, slice_get, Option, Some}
use Rattle.njs_value.specs.Number.{IsSafe}
use Rattle.njs_code.specs.declared.op.Address.{Address}
use Rattle.njs_code.specs.declared.op.Depth.{Depth}
use Rattle.njs_code.specs.declared.op.Kind.{Kind}
use Rattle.njs_code.specs.declared.op.Kind.TheVariants as kind
use Rattle.njs_code.specs.declared.op.Op.{Op}
use Rattle.njs_code.specs.declared.code.FunctionCode.{FunctionCode}
use Rattle.njs_code.specs.declared.code.Code.{Code}
use Rattle.njs_code.specs.Effects.{operands_taken, scopes_needed, lists_needed, endings_taken, goes_on, jump_of, past_of, is_ending, depth_left, depth_next, depth_at_jump}
use Rattle.njs_code.specs.Valid.{slots_outwards, outermost, closure_slots, at_entry, is_valid}

-- an operation stands at an address, which counts from the end
pub record StandsAt (ops : List Op) (address : ℕ) (op : Op) : Type 0 where
  pub index : ℕ
  pub counted : index + address ≡ length ops
  pub found : slice_get ops index ≡ Some op

-- no part of a depth is above that of another
pub record IsWithin (depth other : Depth) : Type 0 where
  pub operands : depth.operands ≤ other.operands
  pub scopes : depth.scopes ≤ other.scopes
  pub lists : depth.lists ≤ other.lists
  pub endings : depth.endings ≤ other.endings

-- the next operation is there, and carries the depth that the one at an index leaves
pub record NextStands (ops : List Op) (i : ℕ) (depth : Depth) : Type 0 where
  pub op : Op
  pub found : slice_get ops (i + 1) ≡ Some op
  pub depth_same : op.depth ≡ depth

-- a jump from an address leads to an operation with a depth, and to a `Charge` where that isn't further on
pub record JumpStands (ops : List Op) (from to : ℕ) (depth : Depth) : Type 0 where
  pub op : Op
  pub stands : StandsAt ops to op
  pub depth_same : op.depth ≡ depth
  pub charges : from ≤ to → op.kind ≡ kind.Charge

-- a `break` leads to an operation with a depth, further on than the end of the loop's body
pub record PastStands (ops : List Op) (from to : ℕ) (depth : Depth) : Type 0 where
  pub op : Op
  pub stands : StandsAt ops to op
  pub depth_same : op.depth ≡ depth
  pub further : to < from

-- an ending leads further on, to an operation that ends a part of the code and stands no deeper than what is left
pub record EndStands (ops : List Op) (from to : ℕ) (left : Depth) : Type 0 where
  pub op : Op
  pub stands : StandsAt ops to op
  pub further : to < from
  pub ending : is_ending op.kind ≡ true
  pub within : IsWithin op.depth left

-- a scope is there, and has the slot
pub record HasSlot (scope : Option ℕ) (slot : ℕ) : Type 0 where
  pub count : ℕ
  pub scope_is : scope ≡ Some count
  pub below : slot < count

-- a function is there, and its scopes behind its own are these
pub record HasFunction (functions : List FunctionCode) (number : ℕ) (around : List ℕ) : Type 0 where
  pub code : FunctionCode
  pub found : slice_get functions number ≡ Some code
  pub own : ℕ
  pub slots_same : code.slots ≡ own ∷ around

-- what an operation names is there
unfoldable pub Names : List FunctionCode → List ℕ → ℕ → Kind → Type 0
Names functions slots scopes (kind.Num number) = IsSafe number
Names functions slots scopes (kind.Load up slot) = HasSlot (slice_get (slots_outwards slots scopes) up) slot
Names functions slots scopes (kind.Store up slot) = HasSlot (slice_get (slots_outwards slots scopes) up) slot
Names functions slots scopes (kind.LoadGlobal slot) = HasSlot (outermost slots) slot
Names functions slots scopes (kind.StoreGlobal slot) = HasSlot (outermost slots) slot
Names functions slots scopes (kind.Closure number params name) = HasFunction functions number (closure_slots slots scopes name)
Names functions slots scopes _ = Unit {0}

-- what holds of the operation at an index of a function
pub record OpRule (functions : List FunctionCode) (f : FunctionCode) (i : ℕ) (op : Op) : Type 0 where
  pub operands : operands_taken op.kind ≤ op.depth.operands
  pub scopes : scopes_needed op.kind ≤ op.depth.scopes
  pub lists : lists_needed op.kind ≤ op.depth.lists
  pub endings : endings_taken op.kind ≤ op.depth.endings
  pub names : Names functions f.slots op.depth.scopes op.kind
  pub next : goes_on op.kind ≡ true → NextStands f.ops i (depth_next op.kind op.depth)
  pub jump : (to : Address) → jump_of op.kind ≡ Some to → JumpStands f.ops (length f.ops - i) to.0 (depth_at_jump op.kind op.depth)
  pub past : (to : Address) → past_of op.kind ≡ Some to → PastStands f.ops (length f.ops - i) to.0 op.depth
  pub around : (to : Address) → op.around ≡ Some to → EndStands f.ops (length f.ops - i) to.0 (depth_left op.kind op.depth)

-- the first operation is there, and stands where a call begins
pub record Begins (ops : List Op) : Type 0 where
  pub first : Op
  pub found : slice_get ops 0 ≡ Some first
  pub depth_same : first.depth ≡ at_entry

-- the own scope is there, and has a slot for each parameter
pub record HasParams (slots : List ℕ) (params : ℕ) : Type 0 where
  pub own : ℕ
  pub found : slice_get slots 0 ≡ Some own
  pub fit : params ≤ own

-- what holds of a function and of the module's body
pub record PartRule (functions : List FunctionCode) (f : FunctionCode) : Type 0 where
  pub params : HasParams f.slots f.params
  pub begins : Begins f.ops
  pub ops : (i : ℕ) (op : Op) → slice_get f.ops i ≡ Some op → OpRule functions f i op

-- what holds of a function: its own scope is there, and around it at least the outermost
pub record FunctionRule (functions : List FunctionCode) (f : FunctionCode) : Type 0 where
  pub slots : 2 ≤ length f.slots
  pub part : PartRule functions f

-- what holds of code: the body has its own scope and around it the outermost
pub record CodeRule (code : Code) : Type 0 where
  pub body_slots : length code.body.slots ≡ 2
  pub body : PartRule code.functions code.body
  pub functions : (k : ℕ) (f : FunctionCode) → slice_get code.functions k ≡ Some f → FunctionRule code.functions f

-- valid code keeps its rule
abbrev pub ValidCodeKeepsItsRule : Type 0
ValidCodeKeepsItsRule = (code : Code) → is_valid code ≡ true → CodeRule code
