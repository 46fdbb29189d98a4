use Rattle.std.specs.Str.{chars}
use Rattle.njs_interp.proofs.functions.prototype_text.Goals as goal

pub returns : goal.returns
unfolding chars
returns c = c.fixed.ensures
