use Rattle.std.proofs.Common.{ap, sym, ◌∙◌}
use Rattle.dict_model.specs.Zone.{dict}
use Rattle.dict_lock.proofs.Calls.{settled_caller, call_fits, call_idle, back_idle}
use Rattle.dict_lock.proofs.zone.Zone.call.Goals as goal

pub leave-requires-clause-held : goal.leave-requires-clause-held
leave-requires-clause-held g c =
    call_fits g.Z.ZoneState.spec g.Z.ZoneState.state c.seat.inside.seat.me c.enter-held.new.seat.me c.commit.new.seat.me c.enter-held.result _ c.apply.new.self
    c.enter-held.ensures.entered c.commit.ensures.added.0 c.in-Ok.ensures.spec
    (c.in-Ok.ensures.applied.1 ∙ ap (λ op. (dict (g.Z.ZoneState.spec c.enter-held.result.state) (g.Z.ZoneState.state c.enter-held.result.state) op c.args.reading).1) (sym c.of-asked.ensures)) c.in-Ok.ensures.valid

pub invariant_of-seat : goal.invariant_of-seat
invariant_of-seat g c = call_idle g.Z.ZoneState.spec g.Z.ZoneState.state c.seat.inside.seat.me c.enter-held.new.seat.me c.commit.new.seat.me c.leave.new.seat.me c.enter-held.result _
    c.seat.invariant.0 c.enter-held.ensures.entered c.commit.ensures.added.0 c.commit.ensures.added.1 c.leave.ensures.rests

pub invariant_of-seat-in-Err-1 : goal.invariant_of-seat-in-Err-1
invariant_of-seat-in-Err-1 g c = back_idle g.Z.ZoneState.spec g.Z.ZoneState.state c.seat.inside.seat.me c.enter-held.new.seat.me c.leave-in-Err.new.seat.me c.enter-held.result c.seat.invariant.0 c.enter-held.ensures.entered c.leave-in-Err.ensures.rests

pub returns-in-Ok-clause-caller : goal.returns-in-Ok-clause-caller
returns-in-Ok-clause-caller g c = settled_caller _ c.leave.new.seat.me (call_idle g.Z.ZoneState.spec g.Z.ZoneState.state c.seat.inside.seat.me c.enter-held.new.seat.me c.commit.new.seat.me c.leave.new.seat.me c.enter-held.result _
    c.seat.invariant.0 c.enter-held.ensures.entered c.commit.ensures.added.0 c.commit.ensures.added.1 c.leave.ensures.rests).0

pub returns-in-Err-clause-caller : goal.returns-in-Err-clause-caller
returns-in-Err-clause-caller g c = settled_caller _ c.leave-in-Err.new.seat.me (back_idle g.Z.ZoneState.spec g.Z.ZoneState.state c.seat.inside.seat.me c.enter-held.new.seat.me c.leave-in-Err.new.seat.me c.enter-held.result c.seat.invariant.0 c.enter-held.ensures.entered c.leave-in-Err.ensures.rests).0
