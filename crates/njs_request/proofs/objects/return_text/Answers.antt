use Rattle.std.specs.Str.{chars}
use Rattle.njs_request.proofs.objects.return_text.Goals as goal

pub returns : goal.returns
unfolding chars
returns c = c.fixed.ensures
