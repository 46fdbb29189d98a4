-- What one step promises: the operation at a place of the code, and where the code goes on.
use Rattle.std.specs.Prelude.{◌≡◌, ℕ, List, true, Option, Some, Result, Ok, Err, slice_get}
use Rattle.njs_value.specs.declared.Value.{Value}
use Rattle.njs_shared.specs.Heap.{Heap}
use Rattle.njs_code.specs.declared.op.Kind.{Kind}
use Rattle.njs_code.specs.declared.op.Op.{Op}
use Rattle.njs_code.specs.declared.code.FunctionCode.{FunctionCode}
use Rattle.njs_code.specs.Effects.{goes_on, jump_of}
use Rattle.njs_meaning.specs.State.{State}
use Rattle.njs_meaning.specs.Running.{Calls}
use Rattle.njs_convert.specs.declared.stop.Stop.{Stop}
use Rattle.njs_simul.specs.Stacks.{Frame}
use Rattle.njs_simul.specs.Step.{act, from}
use Rattle.njs_interp.specs.declared.next.Next.{Next}
use Rattle.njs_interp.specs.declared.next.Next.TheVariants as next
use Rattle.njs_interp.specs.declared.stacks.Stacks.{Stacks}
use Rattle.njs_interp.specs.Plain.{plain_stacks}
use Rattle.njs_interp.specs.Tells.{IsFrame}
use Rattle.njs_interp.specs.Jumps.{ActsNext}
use Rattle.njs_interp.specs.Hosts.{behind_own}

-- where the code goes on is an address that the operation names, or what stands behind it
abbrev pub GoesTo : Kind → Result Next Stop → Type 0
GoesTo k (Ok next.On) = goes_on k ≡ true
GoesTo k (Ok (next.To to)) = jump_of k ≡ Some to
GoesTo k (Ok (next.Out e)) = Unit {0}
GoesTo k (Err stop) = Unit {0}

-- the answer is what the operation does in a call, where the caller's calls are those of the frame, in every state that the
-- machine stood for, wherever the operation stands
pub record Steps (follows : Calls → Type 0) (agrees : Type 0) (stands holds stopped : State → Type 0) (unit : ℕ) (this : Value) (args : List Value) (k : Kind) (old new : Heap) (before after : Stacks) (r : Result Next Stop) : Type 0 where
  pub by : (calls : Calls) (frame : Frame) (code rest : List Op) (s : State) → follows calls → agrees → frame.calls ≡ calls → IsFrame old.texts unit this args frame → stands s
      → ActsNext holds stopped new.texts (from frame code) rest (plain_stacks new.texts after) r (act frame code k rest (plain_stacks old.texts before) s)

-- the functions of a module are those that the counts of slots are of
pub record CountsAre (counts : ℕ → ℕ → Option (List ℕ)) (unit : ℕ) (functions : List FunctionCode) : Type 0 where
  pub each : (number : ℕ) (f : FunctionCode) → slice_get functions number ≡ Some f → counts unit number ≡ behind_own f.slots
