-- The numbers of the language (ECMA-262 5.1 §8.5): the whole ones that are told apart from their neighbours.
use Rattle.std.specs.Prelude.{ℤ, pos, neg_ℤ, ◌≤ℤ◌}
use Rattle.njs_value.specs.declared.Value.{Value}
use Rattle.njs_value.specs.declared.Value.TheVariants.{Undefined, Null, Bool, Num, Str, Obj}

-- a number within plus or minus 2^53 - 1
pub record IsSafe (n : ℤ) : Type 0 where
  pub low : neg_ℤ (pos 9007199254740991) ≤ℤ n
  pub high : n ≤ℤ pos 9007199254740991

-- a value whose number, where it is one, is safe
abbrev pub HoldsSafe : Value → Type 0
HoldsSafe Undefined = Unit {0}
HoldsSafe Null = Unit {0}
HoldsSafe (Bool b) = Unit {0}
HoldsSafe (Num n) = IsSafe n
HoldsSafe (Str t) = Unit {0}
HoldsSafe (Obj o) = Unit {0}
