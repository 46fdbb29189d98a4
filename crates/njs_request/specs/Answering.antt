-- What the calls of the tests' caller mean: each takes a tick, answers the request itself, and gives a number.
use Rattle.std.specs.Prelude.{ℤ, ◌-◌, ◌==◌, codes, if◌then◌else◌}
use Rattle.njs_meaning.specs.Primitives.{Number}
use Rattle.njs_meaning.specs.Values.{Simple}
use Rattle.njs_meaning.specs.State.{State, Gives, Spent, Call}
use Rattle.njs_request.specs.Return.{plain_head, whole}

abbrev pub after_call : State → State
after_call s = record s { ticks = s.ticks - 1; response = whole (plain_head 500) (codes "within") }

abbrev pub answering : ℤ → Call
answering number f this args s = if s.ticks == 0 then Spent s else Gives (Simple (Number number)) (after_call s)
