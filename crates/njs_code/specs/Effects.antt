-- What each kind of operation needs of the depth, what it takes and gives, and where it goes on.
use Rattle.std.specs.Prelude.{ℕ, ◌+◌, ◌-◌, Bool, true, false, Option, Some, None}
use Rattle.njs_code.specs.declared.op.Address.{Address}
use Rattle.njs_code.specs.declared.op.Depth.{Depth}
use Rattle.njs_code.specs.declared.op.Kind.{Kind}
use Rattle.njs_code.specs.declared.op.Kind.TheVariants as kind

-- the operands that it takes
unfoldable pub operands_taken : Kind → ℕ
operands_taken (kind.Store up slot) = 1
operands_taken (kind.StoreGlobal slot) = 1
operands_taken kind.Base = 1
operands_taken kind.Key = 2
operands_taken kind.Get = 2
operands_taken kind.GetKept = 2
operands_taken kind.Method = 2
operands_taken kind.Put = 3
operands_taken kind.DeleteMember = 2
operands_taken (kind.Binary op) = 2
operands_taken (kind.Unary op) = 1
operands_taken kind.ToNumber = 1
operands_taken (kind.Step op) = 1
operands_taken (kind.Tuck under) = under + 1
operands_taken kind.Drop = 1
operands_taken kind.Nip = 2
operands_taken kind.Receiver = 1
operands_taken (kind.JumpFalse to) = 1
operands_taken (kind.JumpLogical op to) = 1
operands_taken (kind.JumpSame to) = 2
operands_taken (kind.Call arguments) = arguments + 2
operands_taken (kind.New arguments) = arguments + 1
operands_taken (kind.Define name) = 2
operands_taken kind.ListNames = 1
operands_taken (kind.Enter name) = 1
operands_taken kind.Return = 1
operands_taken kind.Throw = 1
operands_taken _ = 0

-- the operands that it gives, where it goes on to the next operation
unfoldable pub operands_given : Kind → ℕ
operands_given kind.Undefined = 1
operands_given kind.Null = 1
operands_given (kind.Bool value) = 1
operands_given (kind.Num number) = 1
operands_given (kind.Str text) = 1
operands_given kind.This = 1
operands_given (kind.Load up slot) = 1
operands_given (kind.Store up slot) = 1
operands_given (kind.LoadGlobal slot) = 1
operands_given (kind.StoreGlobal slot) = 1
operands_given kind.Base = 1
operands_given kind.Key = 2
operands_given kind.Get = 1
operands_given kind.GetKept = 3
operands_given kind.Method = 2
operands_given kind.Put = 1
operands_given kind.DeleteMember = 1
operands_given (kind.Binary op) = 1
operands_given (kind.Unary op) = 1
operands_given kind.ToNumber = 1
operands_given (kind.Step op) = 1
operands_given (kind.Tuck under) = under + 2
operands_given kind.Nip = 1
operands_given kind.Receiver = 2
operands_given (kind.JumpSame to) = 1
operands_given (kind.Call arguments) = 1
operands_given (kind.New arguments) = 1
operands_given kind.NewArray = 1
operands_given kind.NewObject = 1
operands_given (kind.Define name) = 1
operands_given (kind.Closure number params name) = 1
operands_given kind.Arguments = 1
operands_given kind.NextName = 1
operands_given kind.EndBlock = 1
operands_given _ = 0

-- the scopes that have to stand
unfoldable pub scopes_needed : Kind → ℕ
scopes_needed kind.Leave = 2
scopes_needed _ = 1

unfoldable pub scopes_taken : Kind → ℕ
scopes_taken kind.Leave = 1
scopes_taken _ = 0

unfoldable pub scopes_given : Kind → ℕ
scopes_given (kind.Enter name) = 1
scopes_given _ = 0

-- the lists that have to stand
unfoldable pub lists_needed : Kind → ℕ
lists_needed (kind.MoreNames to) = 1
lists_needed kind.NextName = 1
lists_needed kind.DropList = 1
lists_needed _ = 0

unfoldable pub lists_taken : Kind → ℕ
lists_taken kind.DropList = 1
lists_taken _ = 0

unfoldable pub lists_given : Kind → ℕ
lists_given kind.ListNames = 1
lists_given _ = 0

unfoldable pub endings_taken : Kind → ℕ
endings_taken kind.Resume = 1
endings_taken _ = 0

unfoldable pub endings_given : Kind → ℕ
endings_given kind.Finally = 1
endings_given _ = 0

-- whether it may go on to the next operation
unfoldable pub goes_on : Kind → Bool
goes_on (kind.Jump to) = false
goes_on (kind.Fail failure) = false
goes_on kind.Return = false
goes_on (kind.Break label) = false
goes_on (kind.Continue label) = false
goes_on kind.Throw = false
goes_on _ = true

-- where it may go on besides
unfoldable pub jump_of : Kind → Option Address
jump_of (kind.Jump to) = Some to
jump_of (kind.JumpFalse to) = Some to
jump_of (kind.JumpLogical op to) = Some to
jump_of (kind.JumpSame to) = Some to
jump_of (kind.MoreNames to) = Some to
jump_of _ = None

-- the operands that it gives there
unfoldable pub operands_at_jump : Kind → ℕ
operands_at_jump (kind.JumpLogical op to) = 1
operands_at_jump _ = 0

-- where a `break` goes on that leads to it
unfoldable pub past_of : Kind → Option Address
past_of (kind.EndBody labels past) = Some past
past_of _ = None

-- whether it ends a part of the code that endings lead to
unfoldable pub is_ending : Kind → Bool
is_ending (kind.EndBody labels past) = true
is_ending kind.EndSwitch = true
is_ending kind.EndBlock = true
is_ending kind.Finally = true
is_ending _ = false

-- what is left of a depth when an operation has taken what it takes
abbrev pub depth_left : Kind → Depth → Depth
depth_left k depth = record {
  operands = depth.operands - operands_taken k;
  scopes = depth.scopes - scopes_taken k;
  lists = depth.lists - lists_taken k;
  endings = depth.endings - endings_taken k;
}

-- the depth at the next operation
abbrev pub depth_next : Kind → Depth → Depth
depth_next k depth = record {
  operands = depth.operands - operands_taken k + operands_given k;
  scopes = depth.scopes - scopes_taken k + scopes_given k;
  lists = depth.lists - lists_taken k + lists_given k;
  endings = depth.endings - endings_taken k + endings_given k;
}

-- the depth where it goes on besides
abbrev pub depth_at_jump : Kind → Depth → Depth
depth_at_jump k depth = record {
  operands = depth.operands - operands_taken k + operands_at_jump k;
  scopes = depth.scopes - scopes_taken k;
  lists = depth.lists - lists_taken k;
  endings = depth.endings - endings_taken k;
}
