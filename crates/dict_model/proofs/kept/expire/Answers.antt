use Rattle.std.proofs.Common.{rules}
use Rattle.std.proofs.lemmas.Fn.{filter_same}
use Rattle.dict_model.specs.Zone as zones
use Rattle.dict_model.proofs.kept.expire.Goals as goal

pub returns-clause-items : goal.returns-clause-items
returns-clause-items c = filter_same _ (zones.is_live c.args.moment) _ (λ x b f' k. search rules) _ _ c.retain.ensures.filtered
