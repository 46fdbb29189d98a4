use Rattle.std.specs.Str.{chars}
use Rattle.njs_scope.proofs.script.undefined.Goals as goal

pub returns : goal.returns
unfolding chars
returns c = c.fixed.ensures
