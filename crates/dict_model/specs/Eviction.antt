-- Which entries go where a zone makes room for a new one.
use Rattle.std.specs.Prelude.{◌+◌, ℕ, Bool, cond, ◌||◌, nat_le, nat_lt, List, [], ◌∷◌, ◌++◌, length, encode_utf8_all, unwrap_or}
use Rattle.std.specs.Str.{bytes_eq}
use Rattle.dict_model.specs.declared.operation.DictValue.{DictValue}
use Rattle.dict_model.specs.declared.operation.DictValue.TheVariants as values
use Rattle.dict_model.specs.declared.operation.Kept.{Kept}

-- the bytes of a value, 8 for a number
abbrev pub value_bytes : DictValue → ℕ
value_bytes (values.Str text) = length (encode_utf8_all text)
value_bytes (values.Num n) = 8

-- what a key with a value costs
abbrev pub cost : List ℕ → DictValue → ℕ
cost key value = 64 + length (encode_utf8_all key) + value_bytes value

abbrev pub entry_cost : Kept → ℕ
entry_cost e = cost e.key e.value

-- the sum of costs
abbrev pub total : List Kept → ℕ
total [] = 0
total (e ∷ es) = entry_cost e + total es

abbrev pub has_key : List ℕ → Kept → Bool
has_key key e = bytes_eq e.key key

-- what an entry costs, where that of the key isn't counted
abbrev pub other_cost : List ℕ → Kept → ℕ
other_cost key e = cond (has_key key e) 0 (entry_cost e)

-- the sum of costs without the key's entry
abbrev pub others : List ℕ → List Kept → ℕ
others key [] = 0
others key (e ∷ es) = other_cost key e + others key es

-- when an entry expires; one without expiry comes after each moment
abbrev pub due : Kept → ℕ
due e = unwrap_or e.expiry 18446744073709551615

-- the costs of the entries, without the key's, that expire before a time, and that expire by it
abbrev pub due_before : List ℕ → ℕ → List Kept → ℕ
due_before key time [] = 0
due_before key time (e ∷ es) = cond (nat_lt (due e) time) (other_cost key e) 0 + due_before key time es

abbrev pub due_by : List ℕ → ℕ → List Kept → ℕ
due_by key time [] = 0
due_by key time (e ∷ es) = cond (nat_le (due e) time) (other_cost key e) 0 + due_by key time es

-- what is free once all have gone that go before an entry, which stands between these: those of a smaller expiry, and
-- of an equal one those that stand before it
abbrev pub freed_before : List ℕ → List Kept → Kept → List Kept → ℕ
freed_before key front e back = due_by key (due e) front + due_before key (due e) back

-- an entry stays where it is the key's, or where enough is free before its turn comes
abbrev pub stays : List ℕ → ℕ → List Kept → Kept → List Kept → Bool
stays key need front e back = has_key key e || nat_le need (freed_before key front e back)

-- what is left of a list that stands behind a front: what goes is the shortest front, by expiry and then by place, that
-- frees what is needed
abbrev pub left_of : List ℕ → ℕ → List Kept → List Kept → List Kept
left_of key need front [] = []
left_of key need front (e ∷ es) = cond (stays key need front e es) (e ∷ left_of key need (front ++ e ∷ []) es) (left_of key need (front ++ e ∷ []) es)

abbrev pub left : List ℕ → ℕ → List Kept → List Kept
left key need es = left_of key need [] es
