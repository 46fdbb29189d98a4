use Rattle.std.proofs.Common.{rules}
use Rattle.std.specs.Str.{chars}
use Rattle.njs_convert.proofs.errors.message_name.Goals as goal

pub returns : goal.returns
unfolding chars
returns c = search rules
