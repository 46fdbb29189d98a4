use Rattle.std.proofs.Common.{◌≡◌, ◌+◌, drop, filter}
use Rattle.dict_model.specs.Eviction.{others}
use Rattle.dict_model.specs.Zone.{is_live}
use Rattle.dict_model.proofs.kept.others.Given as goal

abbrev pub invariant-loop-entry : goal.invariant-loop-entry
invariant-loop-entry l = l.sum + others l.key (filter (is_live l.moment) (drop l.entry-index l.entries)) ≡ others l.key (filter (is_live l.moment) l.entries)
