use Rattle.std.proofs.Common.{rules}
use Rattle.std.specs.Str.{chars}
use Rattle.njs_ops.proofs.conversion.text_of.Goals as goal

pub returns-in-Undefined : goal.returns-in-Undefined
unfolding chars
returns-in-Undefined c = search rules

pub returns-in-Null : goal.returns-in-Null
unfolding chars
returns-in-Null c = search rules

pub returns-in-Bool-true : goal.returns-in-Bool-true
unfolding chars
returns-in-Bool-true c = search rules

pub returns-in-Bool-false : goal.returns-in-Bool-false
unfolding chars
returns-in-Bool-false c = search rules
