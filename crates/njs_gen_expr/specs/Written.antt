-- What is written of the code of one function: a part of it is written in front of what stands behind it.
use Rattle.std.specs.Prelude.{◌≡◌, ℕ, suc, ◌<◌, List, ◌∷◌, length, min, Bool, true, false, Option, Some, None}
use Rattle.njs_code.specs.declared.op.Depth.{Depth}
use Rattle.njs_code.specs.declared.op.Op.{Op}
use Rattle.njs_meaning.specs.declared.place.Place.{Place}
use Rattle.njs_simul.specs.Emission as emit
use Rattle.njs_gen_expr.specs.declared.fault.Fault.{Fault}
use Rattle.njs_gen_expr.specs.declared.fault.Fault.TheVariants.{NoMemory, TooLong}
use Rattle.njs_gen_expr.specs.declared.here.Here.{Here}

-- a writer: the operations that it has written, the places of the names in use that stand in front of them, and the number of
-- the first function behind; or why it failed
pub data Progress : Type 0 where
  Going : List Op → List Place → ℕ → Progress
  Failed : Fault → Progress

abbrev pub progress : Option Fault → List Op → List Place → ℕ → Progress
progress None ops places functions = Going ops places functions
progress (Some fault) ops places functions = Failed fault

abbrev pub is_going : Progress → Bool
is_going (Going ops places functions) = true
is_going (Failed fault) = false

abbrev pub IsGoing : Progress → Type 0
IsGoing (Going ops places functions) = Unit {0}
IsGoing (Failed fault) = ⊥

-- what is to be written, and how many operations these are
pub record Draft : Type 0 where
  pub ops : List Op
  pub count : ℕ
  pub places : List Place
  pub functions : ℕ

abbrev pub draft : List Op → ℕ → List Place → ℕ → Draft
draft ops count places functions = record { ops = ops; count = count; places = places; functions = functions }

-- why a draft is not written: a function has at most so many operations
abbrev pub Refuses : Fault → Draft → Type 0
Refuses NoMemory d = Unit {0}
Refuses TooLong d = 16777216 < d.count

-- all of a draft is written, or the writer failed
abbrev pub Holds : Progress → Draft → Type 0
Holds (Going ops places functions) d = (ops ≡ d.ops) × (length d.ops ≡ d.count) × (places ≡ d.places) × (functions ≡ d.functions)
Holds (Failed fault) d = Refuses fault d

-- with an operation in front
abbrev pub with_op : Op → Draft → Draft
with_op o d = record d { ops = o ∷ d.ops; count = suc d.count }

abbrev pub DepthIs : Option Depth → Depth → Type 0
DepthIs None depth = Unit {0}
DepthIs (Some known) depth = known ≡ depth

-- where a part stands, as far as numbers can tell it
abbrev pub Stands : Here → emit.Here → Type 0
Stands here at = DepthIs here.depth at.depth × (here.around ≡ at.around)

-- numbers of names in use and of functions, as far as they are counted
abbrev pub most : ℕ → ℕ
most n = min n 18446744073709551615

abbrev pub most_functions : ℕ → ℕ
most_functions n = min n 4294967295
