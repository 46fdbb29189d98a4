use Rattle.std.specs.Str.{chars}
use Rattle.njsd.proofs.run.root_path.Goals as goal

pub returns : goal.returns
unfolding chars
returns c = c.fixed.ensures
