use Rattle.std.specs.Str.{chars}
use Rattle.njs_members.proofs.instances.prototype_name.Goals as goal

pub returns : goal.returns
unfolding chars
returns c = c.fixed.ensures
