use Rattle.std.proofs.Common.{rules}
use Rattle.std.specs.Str.{chars}
use Rattle.njs_convert.proofs.errors.closing.Goals as goal

pub returns : goal.returns
unfolding chars
returns c = search rules
