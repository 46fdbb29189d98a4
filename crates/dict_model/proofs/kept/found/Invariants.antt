use Rattle.std.proofs.Common.{◌≡◌, drop, filter}
use Rattle.dict_model.specs.Zone.{found, is_live}
use Rattle.dict_model.proofs.kept.found.Given as goal

-- no entry before is the one that is looked for
abbrev pub invariant-loop-entry : goal.invariant-loop-entry
invariant-loop-entry l = found l.key (filter (is_live l.moment) l.entries) ≡ found l.key (filter (is_live l.moment) (drop l.entry-index l.entries))
