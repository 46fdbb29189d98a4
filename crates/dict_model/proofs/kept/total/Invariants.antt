use Rattle.std.proofs.Common.{◌≡◌, ◌+◌, drop, filter}
use Rattle.dict_model.specs.Eviction.{total}
use Rattle.dict_model.specs.Zone.{is_live}
use Rattle.dict_model.proofs.kept.total.Given as goal

abbrev pub invariant-loop-entry : goal.invariant-loop-entry
invariant-loop-entry l = l.sum + total (filter (is_live l.moment) (drop l.entry-index l.entries)) ≡ total (filter (is_live l.moment) l.entries)
