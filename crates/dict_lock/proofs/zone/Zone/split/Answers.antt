use Rattle.std.proofs.Common.{rules, ap, arith}
use Rattle.dict_lock.proofs.Sharing.{splits_off}
use Rattle.dict_lock.proofs.Calls.{split_idle, split_new}
use Rattle.dict_lock.proofs.zone.Zone.split.Goals as goal

pub split_seat-new-requires : goal.split_seat-new-requires
split_seat-new-requires g c = let t = c.enter-held.ensures.entered in let is = t.4.next in let few = t.8 in let made = ap (λ m. m.0.made) t.3 in
    (search rules, search rules, splits_off g.Z.ZoneState.spec g.Z.ZoneState.state _ _ _ (ap (λ m. m.0.turn) t.3) (omega arith))

pub invariant_of-result : goal.invariant_of-result
invariant_of-result g c = let t = c.enter-held.ensures.entered in let is = t.4.next in let few = t.8 in
    split_new g.Z.ZoneState.spec g.Z.ZoneState.state c.seat.inside.seat.me c.enter-held.new.seat.me c.split_seat-new.result.me c.enter-held.result c.seat.invariant.0 t c.split_seat-new.ensures.4 (omega arith)

pub invariant_of-seat-2 : goal.invariant_of-seat-2
invariant_of-seat-2 g c = let t = c.enter-held.ensures.entered in let is = t.4.next in let few = t.8 in
    split_idle g.Z.ZoneState.spec g.Z.ZoneState.state c.seat.inside.seat.me c.enter-held.new.seat.me c.split_seat-new.new.seat.me c.leave-2.new.seat.me c.enter-held.result c.seat.invariant.0 t c.split_seat-new.ensures.2 c.leave-2.ensures.rests (omega arith)
