-- The state of a run, and how a part of it ends (ECMA-262 5.1 §8.9).
use Rattle.std.specs.Prelude.{ℕ, List, Bool, Option}
use Rattle.dict_model.specs.declared.operation.DictOp.{DictOp}
use Rattle.dict_model.specs.declared.operation.DictReply.{DictReply}
use Rattle.dict_model.specs.declared.operation.ZoneSpec.{ZoneSpec}
use Rattle.njs_meaning.specs.declared.level.Level.{Level}
use Rattle.njs_meaning.specs.Values.{PlainValue}
use Rattle.njs_meaning.specs.PlainHeap.{PlainObject, PlainScope}

-- an entry of the log
pub record Entry : Type 0 where
  pub level : Level
  pub text : List ℕ

-- the head of a response: its status, its content type, and its other fields
pub record Head : Type 0 where
  pub status : ℕ
  pub kind : List ℕ
  pub fields : List (List ℕ × List ℕ)

-- what the handler of a request has answered so far
pub record Response : Type 0 where
  pub head : Option Head
  pub body : List ℕ
  pub is_finished : Bool

-- a dictionary as a run sees it: its specification, and the replies that are still to come
pub record Zone : Type 0 where
  pub spec : ZoneSpec
  pub replies : List DictReply

-- a call on the dictionary with this number that was answered
pub record Asked : Type 0 where
  pub zone : ℕ
  pub op : DictOp
  pub reply : DictReply

-- the heap, the response, the dictionaries and the calls on them, the log, and the ticks left
pub record State : Type 0 where
  pub objects : List PlainObject
  pub scopes : List PlainScope
  pub response : Response
  pub zones : List Zone
  pub asked : List Asked
  pub log : List Entry
  pub ticks : ℕ

-- a value, a thrown value, the ticks are spent, or a dictionary is asked whose reply isn't known; each with the state then
pub data Outcome (A : Type 0) : Type 0 where
  Gives : A → State → Outcome A
  Throws : PlainValue → State → Outcome A
  Spent : State → Outcome A
  Asks : ℕ → DictOp → State → Outcome A

-- what a call of a value means, with `this` and the arguments
abbrev pub Call : Type 0
Call = PlainValue → PlainValue → List PlainValue → State → Outcome PlainValue

-- what follows a value; every other outcome stays
abbrev pub and_then : {A B : Type 0} → Outcome A → (A → State → Outcome B) → Outcome B
and_then (Gives a s) go = go a s
and_then (Throws v s) go = Throws v s
and_then (Spent s) go = Spent s
and_then (Asks zone op s) go = Asks zone op s
