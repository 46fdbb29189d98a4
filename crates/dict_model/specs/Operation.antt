-- What an operation may ask, and of which zone.
use Rattle.std.specs.Prelude.{◌≡◌, ◌≤◌, ℤ, Bool, true, false, nat_le, unsigned_abs, IsTrue, IsSome, IfSome}
use Rattle.dict_model.specs.declared.operation.DictValue.{DictValue}
use Rattle.dict_model.specs.declared.operation.DictValue.TheVariants as values
use Rattle.dict_model.specs.declared.operation.DictOp.{DictOp}
use Rattle.dict_model.specs.declared.operation.DictOp.TheVariants as ops
use Rattle.dict_model.specs.declared.operation.ZoneSpec.{ZoneSpec}

-- a number of the language lies within plus or minus (2 ^ 53 - 1)
abbrev pub is_number : ℤ → Bool
is_number n = nat_le (unsigned_abs n) 9007199254740991

-- a value of the zone's type
abbrev pub IsValue : Bool → DictValue → Type 0
IsValue numeric (values.Str text) = numeric ≡ false
IsValue numeric (values.Num n) = (numeric ≡ true) × IsTrue (is_number n)

-- an operation that a zone can be asked
abbrev pub IsAllowed : ZoneSpec → DictOp → Type 0
IsAllowed spec (ops.Add key value) = IsValue spec.numeric value
IsAllowed spec (ops.Set key value) = IsValue spec.numeric value
IsAllowed spec (ops.Replace key value) = IsValue spec.numeric value
IsAllowed spec (ops.Incr key step initial) = (spec.numeric ≡ true) × IsTrue (is_number step) × IsTrue (is_number initial)
IsAllowed spec _ = Unit {0}

-- a limit and a timeout that fit numbers, and a timeout where there is eviction
pub record IsSpec (spec : ZoneSpec) : Type 0 where
  pub limit : spec.limit ≤ 9007199254740991
  pub timeout : IfSome spec.timeout (λ time. time ≤ 9007199254740991)
  pub evicts : spec.evict ≡ true → IsSome spec.timeout

-- the operations that take no memory
abbrev pub TakesNoMemory : DictOp → Type 0
TakesNoMemory (ops.Has key) = Unit {0}
TakesNoMemory (ops.Delete key) = Unit {0}
TakesNoMemory ops.Clear = Unit {0}
TakesNoMemory ops.Size = Unit {0}
TakesNoMemory ops.FreeSpace = Unit {0}
TakesNoMemory _ = ⊥

-- the operations that may store a value
abbrev pub is_storing : DictOp → Bool
is_storing (ops.Add key value) = true
is_storing (ops.Set key value) = true
is_storing (ops.Replace key value) = true
is_storing (ops.Incr key step initial) = true
is_storing _ = false
