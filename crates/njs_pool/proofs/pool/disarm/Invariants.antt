use Rattle.std.proofs.Common.{◌≡◌, ◌+◌, ◌≤◌, vec_len, vec_capacity}
use Rattle.std.specs.List.{All, sum_by}
use Rattle.njs_pool.proofs.pool.disarm.Given as goal

abbrev pub invariant-loop-worker : goal.invariant-loop-worker
invariant-loop-worker g l = record {
  parts : vec_len l.workers + l.all.parts ≡ vec_len l.initial.workers;
  lengths : vec_len l.workers + vec_len l.seats ≡ vec_len l.initial.workers;
  room : vec_len l.initial.workers ≤ vec_capacity l.seats;
  amount : l.all.amount + sum_by (λ w. w.share.amount) l.workers.items ≡ sum_by (λ w. w.share.amount) l.initial.workers.items;
  waiting : All (λ w. g.H.Handler.fits l.handler w.seat) l.workers.items;
  ready : All (g.H.Handler.fits l.handler) l.seats.items;
  numbers : sum_by (g.H.Handler.number l.handler) l.seats.items + sum_by (λ w. g.H.Handler.number l.handler w.seat) l.workers.items ≡ sum_by (λ w. g.H.Handler.number l.handler w.seat) l.initial.workers.items;
}

abbrev pub decreases-loop-worker : goal.decreases-loop-worker
decreases-loop-worker g l = goal.left-loop-worker g l
