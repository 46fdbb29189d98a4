use Rattle.std.proofs.Common.{lit≤}
use Rattle.std.specs.Str.{chars}
use Rattle.njs_clone.proofs.arrays.length_text.Goals as goal

pub fixed-requires : goal.fixed-requires
unfolding chars
fixed-requires c = lit≤ tt

pub returns : goal.returns
unfolding chars
returns c = c.fixed.ensures
