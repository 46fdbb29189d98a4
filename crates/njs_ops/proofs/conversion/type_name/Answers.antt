use Rattle.std.proofs.Common.{rules}
use Rattle.std.specs.Str.{chars}
use Rattle.njs_ops.proofs.conversion.type_name.Goals as goal

pub returns-in-Undefined : goal.returns-in-Undefined
unfolding chars
returns-in-Undefined c = search rules

pub returns-in-Null : goal.returns-in-Null
unfolding chars
returns-in-Null c = search rules

pub returns-in-Bool : goal.returns-in-Bool
unfolding chars
returns-in-Bool c = search rules

pub returns-in-Num : goal.returns-in-Num
unfolding chars
returns-in-Num c = search rules

pub returns-in-Str : goal.returns-in-Str
unfolding chars
returns-in-Str c = search rules
