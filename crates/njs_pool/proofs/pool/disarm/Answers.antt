use Rattle.std.proofs.Common.{rules, arith, Some, subst, sym}
use Rattle.std.specs.List.{All}
use Rattle.std.proofs.lemmas.List.Elements.{All-pop, All-push}
use Rattle.njs_pool.proofs.Totals.{sum_last}
use Rattle.njs_pool.proofs.pool.disarm.Goals as goal

pub loop-worker-preserved : goal.loop-worker-preserved
loop-worker-preserved g c =
    let i = c.loop-worker.invariant in
    let popped = c.in-Some.ensures.items in
    let pushed = c.push_reserved.ensures.items in
    let fits = g.H.Handler.fits c.args.handler.now in
    let number = g.H.Handler.number c.args.handler.now in
    let old = c.loop-worker.workers.items in
    let new = c.pop.new.self.items in
    record {
      parts = omega (arith, i.parts, c.merge.ensures.parts, c.in-Some.ensures.len, c.in-Some.worker.one_part);
      lengths = omega (arith, i.lengths, c.push_reserved.ensures.len, c.in-Some.ensures.len);
      room = search rules;
      amount = omega (arith, sum_last (λ w. w.share.amount) old new c.in-Some.worker popped, c.merge.ensures.amount, i.amount);
      waiting = (All-pop (λ w. fits w.seat) old new (Some c.in-Some.worker) popped i.waiting).0;
      ready = subst (All fits) (sym pushed) (All-push fits c.loop-worker.seats.items _ i.ready (All-pop (λ w. fits w.seat) old new (Some c.in-Some.worker) popped i.waiting).1);
      numbers = omega (arith, sum_last (λ w. number w.seat) old new c.in-Some.worker popped, sum_last number c.push_reserved.new.self.items c.loop-worker.seats.items _ pushed, i.numbers);
    }
