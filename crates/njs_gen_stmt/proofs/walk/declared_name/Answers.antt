use Rattle.std.proofs.Common.{ℕ, List, [], Option, sym, ap, ◌∙◌}
use Rattle.std.specs.Option.{option_map_or}
use Rattle.std.specs.Str.{chars}
use Rattle.njs_gen_stmt.proofs.walk.declared_name.Goals as goal

pub returns-in-None : goal.returns-in-None
unfolding chars
returns-in-None c = c.fixed.ensures ∙ ap (λ (o : Option (List ℕ)). option_map_or (λ n. n) o []) (sym c.in-None.is)
