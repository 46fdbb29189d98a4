use Rattle.std.proofs.Common.{rules}
use Rattle.dict_lock.proofs.Steps.{passes_as}
use Rattle.dict_lock.proofs.turn.leave.Goals as goal

pub fetch_add-served-requires : goal.fetch_add-served-requires
fetch_add-served-requires g c = (search rules, search rules, passes_as g.Z.ZoneState.spec g.Z.ZoneState.state (g.Z.ZoneState.spec c.args.table.now.key.state.value) _ _ c.args.seat.now.me _ _ c.exchange.ensures.3 c.requires.turn c.requires.held)
