use Rattle.std.proofs.Common.{◌≡◌, vec_len}
use Rattle.std.specs.List.{All}
use Rattle.njs_pool.proofs.tests.seats.Given as goal

abbrev pub invariant-loop : goal.invariant-loop
invariant-loop l = (vec_len l.seats ≡ l.counter) × All (λ seat. seat.key ≡ 7) l.seats.items
