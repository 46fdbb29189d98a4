-- The rule by which code never meets a missing operand, slot or operation.
use Rattle.std.specs.Prelude.{ℕ, ◌+◌, ◌-◌, ℤ, pos, neg_ℤ, int_le, Bool, true, false, not, ◌&&◌, ◌||◌, ◌==◌, nat_eq, nat_lt, nat_le, if◌then◌else◌, List, [], ◌∷◌, ◌++◌, length, replicate, slice_get, Option, Some, None}
use Rattle.std.specs.List.{list_all}
use Rattle.std.specs.Cmp.Lexicographic.{pointwise}
use Rattle.njs_code.specs.declared.op.Address.{Address}
use Rattle.njs_code.specs.declared.op.Depth.{Depth}
use Rattle.njs_code.specs.declared.op.Kind.{Kind}
use Rattle.njs_code.specs.declared.op.Kind.TheVariants as kind
use Rattle.njs_code.specs.declared.op.Op.{Op}
use Rattle.njs_code.specs.declared.code.FunctionCode.{FunctionCode}
use Rattle.njs_code.specs.declared.code.Code.{Code}
use Rattle.njs_code.specs.Effects.{operands_taken, scopes_needed, lists_needed, endings_taken, goes_on, jump_of, past_of, is_ending, depth_left, depth_next, depth_at_jump}

-- the operation at an address, which counts from the end
abbrev pub op_at : List Op → ℕ → Option Op
op_at ops address = if nat_le address (length ops) then slice_get ops (length ops - address) else None

-- two depths that are the same
abbrev pub same_depth : Depth → Depth → Bool
same_depth a b = (a.operands == b.operands) && (a.scopes == b.scopes) && (a.lists == b.lists) && (a.endings == b.endings)

-- a depth with at least as much of each part as another
abbrev pub covers : Depth → Depth → Bool
covers depth other =
    nat_le other.operands depth.operands
    && nat_le other.scopes depth.scopes
    && nat_le other.lists depth.lists
    && nat_le other.endings depth.endings

-- at a depth stands all that an operation takes or needs
abbrev pub holds : Kind → Depth → Bool
holds k depth =
    nat_le (operands_taken k) depth.operands
    && nat_le (scopes_needed k) depth.scopes
    && nat_le (lists_needed k) depth.lists
    && nat_le (endings_taken k) depth.endings

-- an operation that is there, and carries a depth
abbrev pub carries : Option Op → Depth → Bool
carries None depth = false
carries (Some op) depth = same_depth op.depth depth

-- the next operation, where it goes on to it, carries the depth that it leaves
abbrev pub next_valid : List Op → ℕ → Op → Bool
next_valid ops at op = not (goes_on op.kind) || carries (op_at ops (at - 1)) (depth_next op.kind op.depth)

unfoldable pub is_charge : Kind → Bool
is_charge kind.Charge = true
is_charge _ = false

-- an operation that takes a tick
abbrev pub charges : Option Op → Bool
charges None = false
charges (Some op) = is_charge op.kind

-- where it jumps to is an operation with the depth that it leaves there, and a `Charge` where that isn't further on
abbrev pub jump_valid : List Op → ℕ → Op → Option Address → Bool
jump_valid ops at op None = true
jump_valid ops at op (Some to) =
    carries (op_at ops to.0) (depth_at_jump op.kind op.depth) && (nat_lt to.0 at || charges (op_at ops to.0))

-- behind a loop is an operation further on, with the depth at the end of the body
abbrev pub past_valid : List Op → ℕ → Op → Option Address → Bool
past_valid ops at op None = true
past_valid ops at op (Some to) = nat_lt to.0 at && carries (op_at ops to.0) op.depth

-- an operation that ends a part of the code, and stands no deeper than what an operation in it leaves
abbrev pub ends_part : Option Op → Depth → Bool
ends_part None left = false
ends_part (Some end) left = is_ending end.kind && covers left end.depth

-- the end of the part around it is further on
abbrev pub around_valid : List Op → ℕ → Op → Option Address → Bool
around_valid ops at op None = true
around_valid ops at op (Some to) = nat_lt to.0 at && ends_part (op_at ops to.0) (depth_left op.kind op.depth)

-- how many slots the scopes have, outwards from an operation: those that were entered have one, and then come the function's
abbrev pub slots_outwards : List ℕ → ℕ → List ℕ
slots_outwards slots scopes = replicate (scopes - 1) 1 ++ slots

-- a slot of a scope with so many
abbrev pub is_slot : ℕ → Option ℕ → Bool
is_slot slot None = false
is_slot slot (Some count) = nat_lt slot count

-- the slots of the outermost scope
abbrev pub outermost : List ℕ → Option ℕ
outermost slots = slice_get slots (length slots - 1)

abbrev pub same_slots : List ℕ → List ℕ → Bool
same_slots = pointwise nat_eq

-- the scopes behind the first are these
abbrev pub slots_behind : List ℕ → List ℕ → Bool
slots_behind [] around = false
slots_behind (own ∷ rest) around = same_slots rest around

-- a function that is there, and whose scopes behind its own are these
abbrev pub stands_in : Option FunctionCode → List ℕ → Bool
stands_in None around = false
stands_in (Some f) around = slots_behind f.slots around

-- the slots outwards from a function that a `Closure` makes, behind its own
abbrev pub closure_slots : List ℕ → ℕ → Option (List ℕ) → List ℕ
closure_slots slots scopes None = slots_outwards slots scopes
closure_slots slots scopes (Some name) = 1 ∷ slots_outwards slots scopes

-- a number within plus or minus 2^53 - 1
abbrev pub is_safe : ℤ → Bool
is_safe n = int_le (neg_ℤ (pos 9007199254740991)) n && int_le n (pos 9007199254740991)

-- what an operation names is there: the slot or the function; and its number is safe
unfoldable pub names_valid : List FunctionCode → List ℕ → ℕ → Kind → Bool
names_valid functions slots scopes (kind.Num number) = is_safe number
names_valid functions slots scopes (kind.Load up slot) = is_slot slot (slice_get (slots_outwards slots scopes) up)
names_valid functions slots scopes (kind.Store up slot) = is_slot slot (slice_get (slots_outwards slots scopes) up)
names_valid functions slots scopes (kind.LoadGlobal slot) = is_slot slot (outermost slots)
names_valid functions slots scopes (kind.StoreGlobal slot) = is_slot slot (outermost slots)
names_valid functions slots scopes (kind.Closure number params name) =
    stands_in (slice_get functions number) (closure_slots slots scopes name)
names_valid functions slots scopes _ = true

-- an operation at an address of a function
unfoldable pub op_valid : List FunctionCode → FunctionCode → ℕ → Op → Bool
op_valid functions f at op =
    holds op.kind op.depth
    && names_valid functions f.slots op.depth.scopes op.kind
    && next_valid f.ops at op
    && jump_valid f.ops at op (jump_of op.kind)
    && past_valid f.ops at op (past_of op.kind)
    && around_valid f.ops at op op.around

-- these operations, the last ones of a function
unfoldable pub ops_valid : List FunctionCode → FunctionCode → List Op → Bool
ops_valid functions f [] = true
ops_valid functions f (op ∷ rest) = op_valid functions f (length rest + 1) op && ops_valid functions f rest

-- what stands where a call begins: its own scope
abbrev pub at_entry : Depth
at_entry = record { operands = 0; scopes = 1; lists = 0; endings = 0 }

-- the first operation is there, and stands where a call begins
abbrev pub begins : List Op → Bool
begins ops = carries (slice_get ops 0) at_entry

-- parameters that have slots of the first scope
abbrev pub params_fit : ℕ → Option ℕ → Bool
params_fit params None = false
params_fit params (Some own) = nat_le params own

-- what holds of a function and of the module's body
unfoldable pub part_valid : List FunctionCode → FunctionCode → Bool
part_valid functions f = params_fit f.params (slice_get f.slots 0) && begins f.ops && ops_valid functions f f.ops

-- a function has its own scope, and around it at least the outermost
abbrev pub function_valid : List FunctionCode → FunctionCode → Bool
function_valid functions f = nat_le 2 (length f.slots) && part_valid functions f

-- the module's body has its own scope, and around it the outermost
abbrev pub body_valid : List FunctionCode → FunctionCode → Bool
body_valid functions f = (length f.slots == 2) && part_valid functions f

-- code that never meets a missing operand, slot or operation
unfoldable pub is_valid : Code → Bool
is_valid code = body_valid code.functions code.body && list_all (function_valid code.functions) code.functions
