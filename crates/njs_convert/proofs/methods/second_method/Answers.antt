use Rattle.std.proofs.Common.{rules}
use Rattle.std.specs.Str.{chars}
use Rattle.njs_convert.proofs.methods.second_method.Goals as goal

pub returns-in-Any : goal.returns-in-Any
unfolding chars
returns-in-Any c = search rules

pub returns-in-Number : goal.returns-in-Number
unfolding chars
returns-in-Number c = search rules

pub returns-in-Text : goal.returns-in-Text
unfolding chars
returns-in-Text c = search rules
