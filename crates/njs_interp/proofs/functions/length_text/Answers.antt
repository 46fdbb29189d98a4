use Rattle.std.specs.Str.{chars}
use Rattle.njs_interp.proofs.functions.length_text.Goals as goal

pub returns : goal.returns
unfolding chars
returns c = c.fixed.ensures
