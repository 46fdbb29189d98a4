-- How the operations are sorted, and what those promise that ask a caller in a call.
use Rattle.std.specs.Prelude.{◌≡◌, ℕ, List, true, Result, Ok, Err}
use Rattle.njs_value.specs.declared.Value.{Value}
use Rattle.njs_shared.specs.Heap.{Heap}
use Rattle.njs_code.specs.declared.op.Kind.{Kind}
use Rattle.njs_code.specs.declared.op.Kind.TheVariants as kind
use Rattle.njs_code.specs.declared.op.Op.{Op}
use Rattle.njs_code.specs.Effects.{goes_on}
use Rattle.njs_meaning.specs.State.{State}
use Rattle.njs_meaning.specs.Running.{Calls}
use Rattle.njs_convert.specs.declared.stop.Stop.{Stop}
use Rattle.njs_simul.specs.Stacks.{Frame}
use Rattle.njs_simul.specs.Step.{act}
use Rattle.njs_interp.specs.declared.families.Family.{Family}
use Rattle.njs_interp.specs.declared.families.Family.TheVariants as family
use Rattle.njs_interp.specs.declared.next.Next.{Next}
use Rattle.njs_interp.specs.declared.next.Next.TheVariants as next
use Rattle.njs_interp.specs.declared.stacks.Stacks.{Stacks}
use Rattle.njs_interp.specs.Plain.{plain_stacks}
use Rattle.njs_interp.specs.Acts.{Acts}
use Rattle.njs_interp.specs.Tells.{IsFrame}

-- an operation that was done goes on to the one behind it
abbrev pub Continues : Kind → Result (Unit {0}) Stop → Type 0
Continues k (Ok done) = goes_on k ≡ true
Continues k (Err stop) = Unit {0}

-- as an answer that says where the code goes on
abbrev pub next_after : Result (Unit {0}) Stop → Result Next Stop
next_after (Ok done) = Ok next.On
next_after (Err stop) = Err stop

-- as `ActsAsked`, of an operation that asks for the call
pub record AsksInCall (follows : Calls → Type 0) (agrees : Type 0) (stands holds stopped : State → Type 0) (unit : ℕ) (this : Value) (args : List Value) (k : Kind) (old new : Heap) (before after : Stacks) (r : Result (Unit {0}) Stop) : Type 0 where
  pub by : (calls : Calls) (frame : Frame) (code rest : List Op) (s : State) → follows calls → agrees → frame.calls ≡ calls → IsFrame old.texts unit this args frame → stands s
      → Acts holds stopped new.texts rest (plain_stacks new.texts after) r (act frame code k rest (plain_stacks old.texts before) s)

unfoldable pub family_of : Kind → Family
family_of kind.Charge = family.Asked
family_of kind.Undefined = family.Constant
family_of kind.Null = family.Constant
family_of (kind.Bool b) = family.Constant
family_of (kind.Num n) = family.Constant
family_of (kind.Str text) = family.Constant
family_of kind.This = family.Constant
family_of (kind.Load up slot) = family.Slot
family_of (kind.Store up slot) = family.Slot
family_of (kind.LoadGlobal slot) = family.Slot
family_of (kind.StoreGlobal slot) = family.Slot
family_of (kind.Fail failure) = family.Failing
family_of kind.Base = family.Member
family_of kind.Key = family.Asked
family_of kind.Get = family.Member
family_of kind.GetKept = family.Member
family_of kind.Method = family.Member
family_of kind.Put = family.Member
family_of kind.DeleteMember = family.Member
family_of (kind.Binary op) = family.Asked
family_of (kind.Unary op) = family.Asked
family_of kind.ToNumber = family.Asked
family_of (kind.Step op) = family.Made
family_of (kind.Tuck under) = family.Operand
family_of kind.Drop = family.Operand
family_of kind.Nip = family.Operand
family_of kind.Receiver = family.Operand
family_of (kind.Jump to) = family.Jump
family_of (kind.JumpFalse to) = family.Jump
family_of (kind.JumpLogical op to) = family.Jump
family_of (kind.JumpSame to) = family.Jump
family_of (kind.Call count) = family.Called
family_of (kind.New count) = family.Called
family_of kind.NewArray = family.Made
family_of kind.NewObject = family.Made
family_of (kind.Define name) = family.Made
family_of (kind.Closure number params name) = family.Called
family_of kind.Arguments = family.Called
family_of kind.ListNames = family.Asked
family_of (kind.MoreNames to) = family.Jump
family_of kind.NextName = family.Listed
family_of kind.DropList = family.Listed
family_of (kind.Enter name) = family.Slot
family_of kind.Leave = family.Slot
family_of kind.Return = family.Leading
family_of (kind.Break label) = family.Leading
family_of (kind.Continue label) = family.Leading
family_of kind.Throw = family.Leading
family_of (kind.EndBody labels past) = family.End
family_of kind.EndSwitch = family.End
family_of kind.EndBlock = family.End
family_of kind.Finally = family.End
family_of kind.Resume = family.Leading

-- the operations of these families work on the heap alone
abbrev pub OnHeapAlone : Family → Type 0
OnHeapAlone family.Constant = Unit {0}
OnHeapAlone family.Operand = Unit {0}
OnHeapAlone family.Slot = Unit {0}
OnHeapAlone family.Member = Unit {0}
OnHeapAlone family.Made = Unit {0}
OnHeapAlone family.Listed = Unit {0}
OnHeapAlone family.End = Unit {0}
OnHeapAlone family.Failing = Unit {0}
OnHeapAlone family.Jump = ⊥
OnHeapAlone family.Leading = ⊥
OnHeapAlone family.Asked = ⊥
OnHeapAlone family.Called = ⊥
