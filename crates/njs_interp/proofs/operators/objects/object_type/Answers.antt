use Rattle.std.proofs.Common.{rules}
use Rattle.std.specs.Str.{chars}
use Rattle.njs_interp.proofs.operators.objects.object_type.Goals as goal

pub returns-then-is_function : goal.returns-then-is_function
unfolding chars
returns-then-is_function c = search rules

pub returns-else-is_function : goal.returns-else-is_function
unfolding chars
returns-else-is_function c = search rules
