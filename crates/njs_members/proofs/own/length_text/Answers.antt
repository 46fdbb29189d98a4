use Rattle.std.specs.Str.{chars}
use Rattle.njs_members.proofs.own.length_text.Goals as goal

pub returns : goal.returns
unfolding chars
returns c = c.fixed.ensures
