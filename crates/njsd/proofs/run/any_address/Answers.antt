use Rattle.std.specs.Str.{chars}
use Rattle.njsd.proofs.run.any_address.Goals as goal

pub returns : goal.returns
unfolding chars
returns c = c.fixed.ensures
