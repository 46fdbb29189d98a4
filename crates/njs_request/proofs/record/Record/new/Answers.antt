use Rattle.std.proofs.Common.{List, ℕ, None, false, ap}
use Rattle.std.specs.Str.{chars}
use Rattle.njs_meaning.specs.State.{Response}
use Rattle.njs_request.proofs.record.Record.new.Goals as goal

abbrev with_body : List ℕ → Response
with_body body = record { head = None; body = body; is_finished = false }

pub returns : goal.returns
unfolding chars
returns c = ap with_body c.fixed.ensures
