use Rattle.std.proofs.Common.{rules}
use Rattle.njs_pool.proofs.Totals.{sums_rise}
use Rattle.njs_pool.proofs.pool.serve_all.Goals as goal

pub returns-clause-served : goal.returns-clause-served
returns-clause-served g c =
    sums_rise (λ w. g.H.Handler.number c.args.handler.now w.seat) (λ w. w.share.amount) 18446744073709551616 c.args.workers.now c.serve_each.new.workers
    (search rules) c.serve_each.ensures.served
