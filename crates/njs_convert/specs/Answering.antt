-- What the calls of a test's caller mean: each takes a tick and makes an array, and gives a number or its receiver.
use Rattle.std.specs.Prelude.{◌≡◌, ℕ, ℤ, ◌-◌, ◌+◌, ◌≤◌, ◌==◌, List, [], ◌∷◌, ◌++◌, Option, Some, None, if◌then◌else◌}
use Rattle.std.proofs.Common.{le_refl, le_trans}
use Rattle.njs_value.specs.declared.Class.TheVariants.{Array}
use Rattle.njs_meaning.specs.Primitives.{Number}
use Rattle.njs_meaning.specs.Values.{PlainValue, Simple, ObjectAt, length_value}
use Rattle.njs_meaning.specs.PlainHeap.{PlainObject, Plain}
use Rattle.njs_meaning.specs.Objects.{with_new_object}
use Rattle.njs_meaning.specs.State.{State, Outcome, Gives, Spent, Call}

-- a number, or else the receiver
abbrev pub answer : Option ℤ → PlainValue → PlainValue
answer (Some n) this = Simple (Number n)
answer None this = this

-- the first answer is that of the function with a number, and the second that of all others
abbrev pub chosen : ℕ → Option ℤ → Option ℤ → PlainValue → Option ℤ
chosen at first second (ObjectAt f) = if f == at then first else second
chosen at first second (Simple p) = second

-- the objects with an array behind them
abbrev pub with_array : List PlainObject → List PlainObject
with_array objects = with_new_object length_value Array None Plain objects

abbrev pub answering : ℕ → Option ℤ → Option ℤ → Call
answering at first second f this args s =
    if s.ticks == 0 then Spent s else Gives (answer (chosen at first second f) this) (record s { objects = with_array s.objects; ticks = s.ticks - 1 })

-- one step at most for each tick: so many steps and ticks before, and so many after
pub record OneEach (steps ticks steps' ticks' : ℕ) : Type 0 where
  pub up : steps ≤ steps'
  pub paid : steps' + ticks' ≤ steps + ticks

pub none_added : (steps ticks : ℕ) → OneEach steps ticks steps ticks
none_added steps ticks = record { up = le_refl steps; paid = le_refl (steps + ticks) }

pub added_on : (n a k b m c : ℕ) → OneEach n a k b → OneEach k b m c → OneEach n a m c
added_on n a k b m c first second = record { up = le_trans first.up second.up; paid = le_trans second.paid first.paid }
