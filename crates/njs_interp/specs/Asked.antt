-- What the operations of the interpreter promise that ask a caller.
use Rattle.std.specs.Prelude.{◌≡◌, ℕ, ℤ, List, [], ◌∷◌, ◌++◌, Result, Ok, Err}
use Rattle.njs_value.specs.declared.TextId.{TextId}
use Rattle.njs_value.specs.declared.Value.{Value}
use Rattle.njs_value.specs.declared.Value.TheVariants as value
use Rattle.njs_shared.specs.Heap.{Heap}
use Rattle.njs_clone.specs.Content.{content}
use Rattle.njs_code.specs.declared.op.Kind.{Kind}
use Rattle.njs_code.specs.declared.op.Op.{Op}
use Rattle.njs_meaning.specs.State.{State}
use Rattle.njs_meaning.specs.Running.{Calls}
use Rattle.njs_meaning.specs.References.{Reference, Member}
use Rattle.njs_convert.specs.declared.stop.Stop.{Stop}
use Rattle.njs_convert.specs.declared.stop.Stop.TheVariants.{Throw, Fuel, NoMemory}
use Rattle.njs_convert.specs.Tells.{text_at}
use Rattle.njs_simul.specs.Stacks.{Frame}
use Rattle.njs_simul.specs.Step.{act}
use Rattle.njs_interp.specs.declared.stacks.Listing.{Listing}
use Rattle.njs_interp.specs.declared.stacks.Stacks.{Stacks}
use Rattle.njs_interp.specs.Plain.{plain_stacks}
use Rattle.njs_interp.specs.Acts.{Acts}
use Rattle.njs_interp.specs.Naming.{AddsList}

-- the answer is what the operation does where the caller's calls are those of the frame, in every state that the machine stood
-- for, wherever the operation stands
pub record ActsAsked (follows : Calls → Type 0) (agrees : Type 0) (stands holds stopped : State → Type 0) (k : Kind) (old new : Heap) (before after : Stacks) (r : Result (Unit {0}) Stop) : Type 0 where
  pub by : (calls : Calls) (frame : Frame) (code rest : List Op) (s : State) → follows calls → agrees → frame.calls ≡ calls → stands s
      → Acts holds stopped new.texts rest (plain_stacks new.texts after) r (act frame code k rest (plain_stacks old.texts before) s)

-- what is given goes on top of the operands, where there is memory; a stop is the operation's, and they stay as they are
abbrev pub Finished : {V : Type 0} → (V → List Value) → Result V Stop → Stacks → Stacks → Result (Unit {0}) Stop → Type 0
Finished given (Ok v) before after (Ok done) = after ≡ record before { operands = given v ++ before.operands }
Finished given (Ok v) before after (Err (Throw w)) = ⊥
Finished given (Ok v) before after (Err Fuel) = ⊥
Finished given (Ok v) before after (Err NoMemory) = Unit {0}
Finished given (Err stop) before after (Ok done) = ⊥
Finished given (Err stop) before after (Err other) = (other ≡ stop) × (after ≡ before)

-- a value alone, and a base with a name on top
abbrev pub alone : Value → List Value
alone v = v ∷ []

abbrev pub with_name : Value → TextId → List Value
with_name base name = value.Str name ∷ (base ∷ [])

-- a number as a value
abbrev pub number_answer : Result ℤ Stop → Result Value Stop
number_answer (Ok n) = Ok (value.Num n)
number_answer (Err stop) = Err stop

-- the member of a base under a name
abbrev pub ShowsMember : List (List ℕ) → Value → TextId → Reference → Type 0
ShowsMember texts base name r = r ≡ Member (content texts base) (text_at texts name)

-- a list comes on top, where there is memory
abbrev pub ListAdded : Listing → Stacks → Stacks → Result (Unit {0}) Stop → Type 0
ListAdded listing before after (Ok done) = AddsList listing before after
ListAdded listing before after (Err (Throw w)) = ⊥
ListAdded listing before after (Err Fuel) = ⊥
ListAdded listing before after (Err NoMemory) = Unit {0}
