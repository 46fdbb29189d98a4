use Rattle.std.proofs.Common.{rules}
use Rattle.std.specs.Str.{chars}
use Rattle.njs_convert.proofs.first.name_name.Goals as goal

pub returns : goal.returns
unfolding chars
returns c = search rules
