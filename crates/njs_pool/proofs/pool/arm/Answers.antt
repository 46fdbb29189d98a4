use Rattle.std.proofs.Common.{rules, arith, ◌≡◌, Some, subst, sym}
use Rattle.std.specs.List.{All}
use Rattle.std.proofs.lemmas.List.Elements.{All-pop, All-push}
use Rattle.njs_pool.proofs.Totals.{sum_last}
use Rattle.njs_pool.proofs.pool.arm.Goals as goal

pub loop-seat-preserved : goal.loop-seat-preserved
loop-seat-preserved g c =
    let i = c.loop-seat.invariant in
    let popped = c.in-Some.ensures.items in
    let pushed = c.push_reserved.ensures.items in
    let fits = g.H.Handler.fits c.args.handler.now in
    let number = g.H.Handler.number c.args.handler.now in
    let old = c.loop-seat.seats.items in
    let new = c.pop.new.self.items in
    record {
      parts = search rules;
      amount = search rules;
      lengths = search rules;
      room = search rules;
      kept = search rules;
      waiting = (All-pop fits old new (Some c.in-Some.seat) popped i.waiting).0;
      ready = subst (All (λ w. fits w.seat × (w.share.amount ≡ 0))) (sym pushed) (All-push (λ w. fits w.seat × (w.share.amount ≡ 0)) c.loop-seat.workers.items _ i.ready ((All-pop fits old new (Some c.in-Some.seat) popped i.waiting).1, c.split_off-share.ensures.amount));
      numbers = omega (arith, sum_last number old new c.in-Some.seat popped, sum_last (λ w. number w.seat) c.push_reserved.new.self.items c.loop-seat.workers.items _ pushed, i.numbers);
    }
