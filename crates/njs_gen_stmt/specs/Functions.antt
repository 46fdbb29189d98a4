-- How the code of a function begins.
use Rattle.std.specs.Prelude.{◌≡◌, ℕ, ◌+◌, ◌<◌, List, ◌∷◌, map}
use Rattle.njs_meaning.specs.Parts.{Declared}
use Rattle.njs_meaning.specs.Places.{Around, Bindings}
use Rattle.njs_simul.specs.Emission as emit
use Rattle.njs_simul.specs.Emission.{Emits}
use Rattle.njs_gen_expr.specs.declared.fault.Fault.{Fault}
use Rattle.njs_gen_expr.specs.declared.fault.Fault.TheVariants.{NoMemory, TooLong}
use Rattle.njs_gen_expr.specs.declared.here.Here.{Here}
use Rattle.njs_gen_expr.specs.Written.{Progress, Draft, Holds, Stands}
use Rattle.njs_gen_stmt.specs.declared.function.Declaration.{Declaration}

abbrev pub told : Declaration → Declared
told d = record { name = d.name; number = d.number; params = d.params }

abbrev pub told_all : List Declaration → List Declared
told_all list = map told list

-- these are the names of the innermost scope, and it isn't the outermost one
abbrev pub IsIn : Bindings → Around → Type 0
IsIn names around = (next : Bindings) × (rest : Around) × (around ≡ names ∷ (next ∷ rest))

-- so many operations were written, in a scope with these names
abbrev pub WroteIn : Bindings → Emits → ℕ → Here → Progress → Progress → Type 0
WroteIn names emits count here old new =
    (at : emit.Here) (d : Draft) → IsIn names at.names → Stands here at → Holds old d → Holds new (record d { ops = emits at d.ops; count = count + d.count })

-- why code of so many operations was not written
abbrev pub Refused : Fault → ℕ → Type 0
Refused NoMemory count = Unit {0}
Refused TooLong count = 16777216 < count
