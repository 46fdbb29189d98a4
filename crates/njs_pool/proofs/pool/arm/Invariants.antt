use Rattle.std.proofs.Common.{◌≡◌, ◌+◌, ◌≤◌, vec_len, vec_capacity}
use Rattle.std.specs.List.{All, sum_by}
use Rattle.njs_pool.proofs.pool.arm.Given as goal

abbrev pub invariant-loop-seat : goal.invariant-loop-seat
invariant-loop-seat g l = record {
  parts : vec_len l.seats ≡ l.all.parts;
  amount : l.all.amount ≡ 0;
  lengths : vec_len l.seats + vec_len l.workers ≡ vec_len l.initial.seats;
  room : vec_len l.initial.seats ≤ vec_capacity l.workers;
  kept : vec_len l.initial.seats ≤ vec_capacity l.seats;
  waiting : All (g.H.Handler.fits l.handler) l.seats.items;
  ready : All (λ w. g.H.Handler.fits l.handler w.seat × (w.share.amount ≡ 0)) l.workers.items;
  numbers : sum_by (g.H.Handler.number l.handler) l.seats.items + sum_by (λ w. g.H.Handler.number l.handler w.seat) l.workers.items ≡ sum_by (g.H.Handler.number l.handler) l.initial.seats.items;
}

abbrev pub decreases-loop-seat : goal.decreases-loop-seat
decreases-loop-seat g l = goal.left-loop-seat g l
