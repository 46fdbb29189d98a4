use Rattle.std.proofs.Common.{rules}
use Rattle.dict_lock.proofs.Steps.{commits_as}
use Rattle.dict_lock.proofs.turn.commit.Goals as goal

pub fetch_add-requires : goal.fetch_add-requires
fetch_add-requires g c = (search rules, search rules, commits_as g.Z.ZoneState.spec g.Z.ZoneState.state (g.Z.ZoneState.spec c.args.table.now.key.state.value) _ _ c.args.seat.now.me g.W.Recorded.entry c.args.op.value c.args.reading c.args.reply.now c.requires.turn c.requires.recorded c.requires.reply)
