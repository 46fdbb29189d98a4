-- The dictionary of one zone: what each operation answers, and what it leaves.
use Rattle.std.specs.Prelude.{◌≡◌, ◌≤◌, ◌<◌, ◌+◌, ◌-◌, ◌^◌, ℕ, ℤ, pos, ◌+ℤ◌, Bool, true, false, cond, ◌&&◌, ◌||◌, max, nat_le, nat_lt, List, [], ◌∷◌, map, take, filter, find, length, Option, Some, None, is_some, option_map}
use Rattle.std.specs.List.{AllByRecursion}
use Rattle.dict_model.specs.declared.operation.DictValue.{DictValue}
use Rattle.dict_model.specs.declared.operation.DictValue.TheVariants as values
use Rattle.dict_model.specs.declared.operation.DictOp.{DictOp}
use Rattle.dict_model.specs.declared.operation.DictOp.TheVariants as ops
use Rattle.dict_model.specs.declared.operation.DictReply.{DictReply}
use Rattle.dict_model.specs.declared.operation.DictReply.TheVariants as replies
use Rattle.dict_model.specs.declared.operation.ZoneSpec.{ZoneSpec}
use Rattle.dict_model.specs.declared.operation.Kept.{Kept}
use Rattle.dict_model.specs.Operation.{is_number, IsValue}
use Rattle.dict_model.specs.Eviction.{cost, total, has_key, others, left}

-- the entries in the order in which their keys came, and the last moment
pub record State : Type 0 where
  pub entries : List Kept
  pub moment : ℕ

abbrev pub empty : State
empty = record { entries = []; moment = 0 }

-- an entry without expiry never expires, and any other one at its expiry
abbrev pub is_after : ℕ → Option ℕ → Bool
is_after moment None = true
is_after moment (Some expiry) = nat_lt moment expiry

abbrev pub is_live : ℕ → Kept → Bool
is_live moment e = is_after moment e.expiry

abbrev pub state_of : List Kept → ℕ → State
state_of entries moment = record { entries = entries; moment = moment }

-- what is left of these entries at a moment
abbrev pub live_state : List Kept → ℕ → State
live_state entries moment = state_of (filter (is_live moment) entries) moment

-- a call with a reading: the moment is the larger of both, and what has expired by then is removed
abbrev pub advanced : State → ℕ → State
advanced s reading = live_state s.entries (max s.moment reading)

abbrev pub found : List ℕ → List Kept → Option Kept
found key es = find (has_key key) es

abbrev pub is_there : List ℕ → List Kept → Bool
is_there key es = is_some (found key es)

-- the list without the key's entry
abbrev pub without : List ℕ → List Kept → List Kept
without key [] = []
without key (e ∷ es) = cond (has_key key e) es (e ∷ without key es)

-- a key that is there keeps its place, and a new key goes last
abbrev pub put : Kept → List Kept → List Kept
put new [] = new ∷ []
put new (e ∷ es) = cond (has_key new.key e) (new ∷ es) (e ∷ put new es)

-- the cost alone is within the limit, and with the others too, unless they may be evicted
abbrev pub can_store : ZoneSpec → List Kept → List ℕ → DictValue → Bool
can_store spec es key value = nat_le (cost key value) spec.limit && (spec.evict || nat_le (others key es + cost key value) spec.limit)

-- how much has to go until it fits
abbrev pub excess : ZoneSpec → List Kept → List ℕ → DictValue → ℕ
excess spec es key value = (others key es + cost key value) - spec.limit

abbrev pub new_entry : ZoneSpec → ℕ → List ℕ → DictValue → Kept
new_entry spec moment key value = record { key = key; value = value; expiry = option_map (λ time. moment + time) spec.timeout }

abbrev pub stored : ZoneSpec → State → List ℕ → DictValue → List Kept
stored spec s key value = put (new_entry spec s.moment key value) (left key (excess spec s.entries key value) s.entries)

-- what is answered, and what is left
abbrev pub Outcome : Type 0
Outcome = DictReply × State

abbrev pub changed : DictReply → State → List Kept → Outcome
changed reply s entries = (reply, state_of entries s.moment)

-- stores a value and answers, or changes nothing where there is no room
abbrev pub store : ZoneSpec → State → List ℕ → DictValue → DictReply → Outcome
store spec s key value reply = cond (can_store spec s.entries key value) (changed reply s (stored spec s key value)) (replies.Full, s)

abbrev pub value_of : Option Kept → DictReply
value_of None = replies.Nothing
value_of (Some e) = replies.Value e.value

abbrev pub yes_or_no : Bool → DictReply
yes_or_no b = cond b replies.Yes replies.No

-- the number that an increment starts from
abbrev pub number_in : ℤ → DictValue → ℤ
number_in initial (values.Num n) = n
number_in initial (values.Str text) = initial

abbrev pub number_of : ℤ → Option Kept → ℤ
number_of initial None = initial
number_of initial (Some e) = number_in initial e.value

abbrev pub increment : ZoneSpec → State → List ℕ → ℤ → Outcome
increment spec s key n = cond (is_number n) (store spec s key (values.Num n) (replies.Number n)) (replies.Outside, s)

-- an operation, once what has expired is removed
abbrev pub done : ZoneSpec → State → DictOp → Outcome
done spec s (ops.Add key value) = cond (is_there key s.entries) (replies.No, s) (store spec s key value replies.Yes)
done spec s (ops.Set key value) = store spec s key value replies.Yes
done spec s (ops.Replace key value) = cond (is_there key s.entries) (store spec s key value replies.Yes) (replies.No, s)
done spec s (ops.Incr key step initial) = increment spec s key (number_of initial (found key s.entries) +ℤ step)
done spec s (ops.Get key) = (value_of (found key s.entries), s)
done spec s (ops.Has key) = (yes_or_no (is_there key s.entries), s)
done spec s (ops.Delete key) = changed (yes_or_no (is_there key s.entries)) s (without key s.entries)
done spec s (ops.Pop key) = changed (value_of (found key s.entries)) s (without key s.entries)
done spec s ops.Clear = changed replies.Yes s []
done spec s (ops.Keys count) = (replies.Names (take count (map (λ e. e.key) s.entries)), s)
done spec s ops.Size = (replies.Number (pos (length s.entries)), s)
done spec s ops.FreeSpace = (replies.Number (pos (spec.limit - total s.entries)), s)

-- the dictionary: the reply and the state after an operation with a reading
abbrev pub dict : ZoneSpec → State → DictOp → ℕ → Outcome
dict spec s op reading = done spec (advanced s reading) op

-- no two entries have the same key
abbrev pub Distinct : List Kept → Type 0
Distinct [] = Unit {0}
Distinct (e ∷ es) = AllByRecursion (λ other. has_key e.key other ≡ false) es × Distinct es

-- values of the zone's type, each key once, and a sum of costs within the limit
pub record IsValid (spec : ZoneSpec) (s : State) : Type 0 where
  pub moment : s.moment < 2 ^ 53
  pub within : total s.entries ≤ spec.limit
  pub keys : Distinct s.entries
  pub values : AllByRecursion (λ e. IsValue spec.numeric e.value) s.entries
