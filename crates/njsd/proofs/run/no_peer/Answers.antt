use Rattle.std.specs.Str.{chars}
use Rattle.njsd.proofs.run.no_peer.Goals as goal

pub returns : goal.returns
unfolding chars
returns c = c.fixed.ensures
