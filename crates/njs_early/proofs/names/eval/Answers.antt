use Rattle.std.specs.Str.{chars}
use Rattle.njs_early.proofs.names.eval.Goals as goal

pub returns : goal.returns
unfolding chars
returns c = c.fixed.ensures
