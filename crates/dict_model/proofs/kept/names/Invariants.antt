use Rattle.std.proofs.Common.{◌≡◌, ◌++◌, drop, filter, map, take}
use Rattle.dict_model.specs.Zone.{is_live}
use Rattle.dict_model.proofs.kept.names.Given as goal

abbrev pub invariant-loop-entry : goal.invariant-loop-entry
invariant-loop-entry l = l.names ++ take l.left (map (λ e. e.key) (filter (is_live l.moment) (drop l.entry-index l.entries))) ≡ take l.most (map (λ e. e.key) (filter (is_live l.moment) l.entries))
