use Rattle.std.proofs.Common.{rules, Some, ap, sym, ◌∙◌, ◌∷◌}
use Rattle.atomic_table.specs.Table.{rest}
use Rattle.dict_lock.proofs.Steps.{enters_as}
use Rattle.dict_lock.proofs.turn.enter.Goals as goal

pub exchange-requires : goal.exchange-requires
exchange-requires g c = let t = c.wait_for.ensures.entered in
    (search rules, (Some t.2, ap (λ m. m.1) t.3 ∙ ap (λ l. (0, Some t.2) ∷ rest l) (sym (ap (λ m. m.1) t.3))))

pub returns-clause-entered : goal.returns-clause-entered
returns-clause-entered g c = enters_as g.Z.ZoneState.spec g.Z.ZoneState.state (g.Z.ZoneState.spec c.args.table.now.key.state.value) c.args.seat.now.me c.draw-ticket.new.seat.me c.wait_for.new.seat.me c.exchange.new.seat.me
    c.exchange.result c.unwrap.result c.draw-ticket.ensures.ticket.0 c.requires.idle.2 c.wait_for.ensures.entered c.exchange.ensures.2 c.exchange.ensures.3 c.unwrap.ensures
