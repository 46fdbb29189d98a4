-- What a call of a zone, and of one among several zones, gives.
use Rattle.std.specs.Prelude.{◌≡◌, ℕ, List, [], ◌∷◌, ◌++◌, slice_get, slice_set, Some, Result, Ok, Err}
use Rattle.njs_text.specs.declared.memory.NoMemory.{NoMemory}
use Rattle.dict_model.specs.declared.operation.DictOp.{DictOp}
use Rattle.dict_model.specs.declared.operation.DictReply.{DictReply}
use Rattle.dict_model.specs.declared.operation.ZoneSpec.{ZoneSpec}
use Rattle.dict_model.specs.declared.operation.Entry.{Entry}
use Rattle.dict_model.specs.Operation.{IsAllowed}
use Rattle.dict_model.specs.Zone.{State, dict, IsValid}

-- a call that is answered gives the dictionary's reply and leaves its state, and one that finds no memory changes nothing
abbrev pub Applies : ZoneSpec → State → DictOp → ℕ → State → Result DictReply NoMemory → Type 0
Applies spec old op reading new (Ok reply) = (reply ≡ (dict spec old op reading).0) × (new ≡ (dict spec old op reading).1)
Applies spec old op reading new (Err want) = new ≡ old

-- the zone exists, and can be asked this
pub record IsAsked (specs : List ZoneSpec) (zone : ℕ) (op : DictOp) : Type 0 where
  pub spec : ZoneSpec
  pub exists : slice_get specs zone ≡ Some spec
  pub allowed : IsAllowed spec op

-- one more entry at the end of a list, whose reply is the dictionary's from some state
pub record AddsOne (spec : ZoneSpec) (old new : List Entry) (op : DictOp) (reading : ℕ) (reply : DictReply) : Type 0 where
  pub caller : ℕ
  pub grown : new ≡ old ++ record { caller = caller; op = op; reading = reading; reply = reply } ∷ []
  pub state : State
  pub valid : IsValid spec state
  pub answers : reply ≡ (dict spec state op reading).0

-- an answered call adds an entry to its zone's list, and one that finds no memory adds none
abbrev pub Adds : ZoneSpec → List Entry → List Entry → DictOp → ℕ → Result DictReply NoMemory → Type 0
Adds spec old new op reading (Ok reply) = AddsOne spec old new op reading reply
Adds spec old new op reading (Err want) = new ≡ old

-- the lists of the other zones stay
pub record IsAdded (specs : List ZoneSpec) (old new : List (List Entry)) (zone : ℕ) (op : DictOp) (reading : ℕ) (reply : DictReply) : Type 0 where
  pub spec : ZoneSpec
  pub exists : slice_get specs zone ≡ Some spec
  pub before : List Entry
  pub was : slice_get old zone ≡ Some before
  pub after : List Entry
  pub changed : new ≡ slice_set old zone after
  pub adds : AddsOne spec before after op reading reply

-- where no memory is found all lists stay
abbrev pub Calls : List ZoneSpec → List (List Entry) → List (List Entry) → ℕ → DictOp → ℕ → Result DictReply NoMemory → Type 0
Calls specs old new zone op reading (Ok reply) = IsAdded specs old new zone op reading reply
Calls specs old new zone op reading (Err want) = new ≡ old
