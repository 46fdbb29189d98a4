use Rattle.std.proofs.Common.{◌≡◌, [], take, map}
use Rattle.std.specs.List.{AllByRecursion}
use Rattle.dict_model.proofs.dicts.PlainDicts.new.Given as goal

abbrev pub invariant-loop-spec : goal.invariant-loop-spec
invariant-loop-spec l = record {
  specs : map (λ z. z.spec) l.zones.items ≡ take l.spec-index l.specs;
  own : AllByRecursion (λ z. z.own ≡ []) l.zones.items;
}
