use Rattle.std.proofs.Common.{rules, ap, sym, subst, ◌∙◌}
use mathlib.Core.Option.{none}
use Rattle.atomic_table.specs.Table.{step}
use Rattle.dict_lock.specs.Plays.{looked}
use Rattle.dict_lock.proofs.Turning.{looks}
use Rattle.dict_lock.proofs.turn.wait_for.Goals as goal

pub load-serving-requires : goal.load-serving-requires
load-serving-requires g c = (search rules, search rules, looks g.Z.ZoneState.spec g.Z.ZoneState.state (g.Z.ZoneState.spec c.args.table.now.key.state.value) _ _ c.loop.seat.me (ap (λ m. m.0.turn) c.loop.invariant.1 ∙ c.requires.waits.0))

pub returns-then-serving-ticket-clause-entered : goal.returns-then-serving-ticket-clause-entered
returns-then-serving-ticket-clause-entered g c =
    let told = subst (λ m. looked g.Z.ZoneState.spec g.Z.ZoneState.state (step 1 1 0 0 none) m c.load-serving.result c.load-serving.new.seat.me) c.loop.invariant.1 c.load-serving.ensures.2 in
    told.0 (c.if-serving-ticket.true ∙ sym c.requires.waits.1)
