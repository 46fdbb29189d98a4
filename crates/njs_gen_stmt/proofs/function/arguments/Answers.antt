use Rattle.std.specs.Str.{chars}
use Rattle.njs_gen_stmt.proofs.function.arguments.Goals as goal

pub returns : goal.returns
unfolding chars
returns c = c.fixed.ensures
