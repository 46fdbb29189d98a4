-- What every part of a run is made of: ticks, what follows what, and errors that are thrown.
use Rattle.std.specs.Prelude.{ℕ, ◌+◌, ◌-◌, ◌/◌, nat_lt, Bool, List, [], ◌∷◌, ◌++◌, length, if◌then◌else◌, slice_get, slice_set}
use Rattle.std.specs.Option.{option_map_or}
use Rattle.dict_model.specs.declared.operation.DictOp.{DictOp}
use Rattle.dict_model.specs.declared.operation.DictReply.{DictReply}
use Rattle.njs_value.specs.declared.ScopeId.{ScopeId}
use Rattle.njs_meaning.specs.declared.prototypes.Prototype.TheVariants as prototype
use Rattle.njs_meaning.specs.Values.{PlainValue, ObjectAt}
use Rattle.njs_meaning.specs.PlainHeap.{PlainObject}
use Rattle.njs_meaning.specs.Properties.{Change}
use Rattle.njs_meaning.specs.Objects.{with_props}
use Rattle.njs_meaning.specs.State.{Zone, State, Outcome, Gives, Throws, Spent, Asks, Call, and_then}
use Rattle.njs_meaning.specs.Errors.{throw, error_with, named_message}

-- the first of a list and the rest, if there is a first
abbrev pub split_first : {A B : Type 0} → List A → (A → List A → B) → B → B
split_first [] go none_left = none_left
split_first (x ∷ rest) go none_left = go x rest

-- what calls and `new` mean
pub record Calls : Type 0 where
  pub call : Call
  pub construct : PlainValue → List PlainValue → State → Outcome PlainValue

-- what stands around a part that runs: what calls mean, the module, the scope, and `this` (ECMA-262 5.1 §10.3)
pub record Context : Type 0 where
  pub calls : Calls
  pub unit : ℕ
  pub scope : ScopeId
  pub this : PlainValue

-- something that runs in a context
abbrev pub Runs : Type 0 → Type 0
Runs A = Context → State → Outcome A

-- takes ticks, or ends where fewer are left
abbrev pub charge : {A : Type 0} → ℕ → (State → Outcome A) → State → Outcome A
charge n go s = if nat_lt s.ticks n then Spent s else go (record s { ticks = s.ticks - n })

-- one tick for each whole so many, and one
abbrev pub one_and : ℕ → ℕ → ℕ
one_and count unit = 1 + count / unit

-- one of two ways
abbrev pub choose : {A : Type 0} → Bool → (State → Outcome A) → (State → Outcome A) → State → Outcome A
choose test first second s = if test then first s else second s

-- the second after the first, in the same context
abbrev pub after : {A B : Type 0} → Runs A → (A → Runs B) → Runs B
after first next x s = and_then (first x s) (λ a. next a x)

-- one after the other
abbrev pub all_in_turn : {A : Type 0} → List (Runs A) → Runs (List A)
all_in_turn [] x s = Gives [] s
all_in_turn (a ∷ rest) x s = and_then (a x s) (λ v s. and_then (all_in_turn rest x s) (λ vs s. Gives (v ∷ vs) s))

-- a name is bound nowhere
abbrev pub throw_not_defined : {A : Type 0} → List ℕ → State → Outcome A
throw_not_defined name s =
    Throws (ObjectAt (length s.objects)) (record s { objects = s.objects ++ error_with prototype.ReferenceError (named_message name) ∷ [] })

-- the properties of an object are changed, and a cause may be thrown
abbrev pub changed : ℕ → Change PlainValue → (State → Outcome PlainValue) → State → Outcome PlainValue
changed object change go s =
    let changed = record s { objects = with_props s.objects object change.props } in
    option_map_or (λ cause. throw cause changed) change.thrown (go changed)

-- an object is made: its number, and the state with it
abbrev pub with_object : PlainObject → State → State
with_object object s = record s { objects = s.objects ++ object ∷ [] }

-- a dictionary is asked: its next reply comes, or the run ends where none is known
abbrev pub ask_zone : {A : Type 0} → ℕ → DictOp → (DictReply → State → Outcome A) → Zone → State → Outcome A
ask_zone zone op go asked s =
    split_first asked.replies (λ reply rest. go reply (record s {
      zones = slice_set s.zones zone (record asked { replies = rest });
      asked = s.asked ++ record { zone = zone; op = op; reply = reply } ∷ [];
    })) (Asks zone op s)

abbrev pub ask : {A : Type 0} → ℕ → DictOp → (DictReply → State → Outcome A) → State → Outcome A
ask zone op go s = option_map_or (λ asked. ask_zone zone op go asked s) (slice_get s.zones zone) (Asks zone op s)
