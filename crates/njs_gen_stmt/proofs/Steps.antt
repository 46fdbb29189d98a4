-- What stands in a writer that goes on elsewhere, or that failed.
use Rattle.std.proofs.Common.{◌≡◌, ℕ, ◌≤◌, List, arith}
use Rattle.njs_code.specs.declared.op.Address.{Address}
use Rattle.njs_meaning.specs.declared.place.Place.{Place}
use Rattle.njs_simul.specs.Emission.{address}
use Rattle.njs_simul.specs.EmissionOfStatements.{head_of}
use Rattle.njs_gen_expr.specs.declared.fault.Fault.TheVariants.{NoMemory, TooLong}
use Rattle.njs_gen_expr.specs.declared.writer.Mark.{Mark}
use Rattle.njs_gen_expr.specs.Written.{Progress, Going, Failed, IsGoing, Draft, Holds}
use Rattle.njs_gen_stmt.specs.Sized.{counted}

-- what was refused stays so however much more is to be written
pub failed_holds : (w : Progress) (d e : Draft) → (IsGoing w → ⊥) → d.count ≤ e.count → Holds w d → Holds w e
failed_holds (Going ops places functions) d e ended more h = absurd (ended tt)
failed_holds (Failed NoMemory) d e ended more h = tt
failed_holds (Failed TooLong) d e ended more h = omega arith

-- a mark of what stands in front
abbrev pub Marks : Mark → Progress → Type 0
Marks m w = (d : Draft) → IsGoing w → Holds w d → (m.places.now ≡ d.places) × (m.functions ≡ d.functions)

abbrev pub GoesTo : Mark → Progress → Progress → Type 0
GoesTo m old new =
    (d : Draft) (places : List Place) (functions : ℕ) → (IsGoing old → (m.places.now ≡ places) × (m.functions ≡ functions)) → Holds old d → Holds new (record d { places = places; functions = functions })

abbrev pub Stays : Progress → Progress → Type 0
Stays old new = IsGoing new → IsGoing old

abbrev pub Keeps : Progress → Progress → Type 0
Keeps old new = (d : Draft) → Holds old d → Holds new d

-- where what is written begins
abbrev pub Begins : Address → Progress → Type 0
Begins a w = (d : Draft) → IsGoing w → Holds w d → a ≡ address d.ops

-- the head of a loop of so many operations
abbrev pub Heads : Address → ℕ → Progress → Progress → Type 0
Heads top size old new = (d : Draft) (n : ℕ) → size ≡ counted n → IsGoing new → Holds old d → top ≡ head_of n d.ops
