-- How the parts of expressions are written: by what stands for them in the code, and by the names that they use.
use Rattle.std.specs.Prelude.{ℕ, suc, ◌+◌, List, ◌++◌}
use Rattle.njs_code.specs.declared.op.Op.{Op}
use Rattle.njs_meaning.specs.declared.place.Place.{Place}
use Rattle.njs_meaning.specs.Places.{Around}
use Rattle.njs_meaning.specs.Parts.{Part}
use Rattle.njs_simul.specs.Emission as emit
use Rattle.njs_simul.specs.Emission.{Coded, Emits, value, value_size, begun, deeper}
use Rattle.njs_simul.specs.Compiled.{Placed, Of_expression}
use Rattle.njs_scope.specs.Uses.{Of_part}
use Rattle.njs_gen_expr.specs.declared.here.Here.{Here}
use Rattle.njs_gen_expr.specs.Written.{Progress, draft, Holds, Stands}

-- A part of the code was written: so many operations, these, and behind the first function in it so many others; `start` numbers
-- the first function for the places of the names in use.
abbrev pub Wrote : {A : Type 0} → (A → ℕ) → (A → Emits) → Part Placed A → Of_part → Here → Progress → Progress → Type 0
Wrote count emits code uses here old new =
    (at : emit.Here) (first start n : ℕ) (ops : List Op) (front : List Place) → Stands here at
    → Holds old (draft ops n (front ++ (uses.means start).places at.names) (first + code.size))
    → Holds new (draft (emits (code.means first) at ops) (count (code.means first) + n) front first)

abbrev pub WroteTarget : Of_expression → Of_part → Here → Progress → Progress → Type 0
WroteTarget = Wrote (λ c. c.size) (λ c. c.target)

abbrev pub WroteValue : Of_expression → Of_part → Here → Progress → Progress → Type 0
WroteValue = Wrote value_size value

-- the first part of an expression, with the tick before it
abbrev pub begun_count : Coded → ℕ
begun_count c = suc (value_size c)

abbrev pub begun_value : Coded → Emits
begun_value c = begun (value c)

abbrev pub begun_target : Coded → Emits
begun_target c = begun c.target

-- parts one after the other, so much deeper
abbrev pub WroteDeeper : {A : Type 0} → ℕ → (A → ℕ) → (A → Emits) → Part Placed A → Of_part → Here → Progress → Progress → Type 0
WroteDeeper depth count emits code uses here old new =
    (at : emit.Here) (first start n : ℕ) (ops : List Op) (front : List Place) → Stands here at
    → Holds old (draft ops n (front ++ (uses.means start).places at.names) (first + code.size))
    → Holds new (draft (emits (code.means first) (deeper depth at) ops) (count (code.means first) + n) front first)

-- a part of the code is left out: the names in use in it, and its functions
abbrev pub Passed : {A : Type 0} → Part Placed A → Of_part → Progress → Progress → Type 0
Passed code uses old new =
    (names : Around) (first start n : ℕ) (ops : List Op) (front : List Place)
    → Holds old (draft ops n (front ++ (uses.means start).places names) (first + code.size)) → Holds new (draft ops n front first)
