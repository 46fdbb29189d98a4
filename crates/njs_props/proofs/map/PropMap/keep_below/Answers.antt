use Rattle.std.proofs.Common.{rules, ◌∙◌, ap}
use Rattle.indexmap.proofs.CallerLemmas.{filter-RetainsPairs}
use Rattle.njs_props.specs.Props.{kept_below}
use Rattle.njs_props.proofs.map.PropMap.keep_below.Goals as goal

pub returns : goal.returns
returns g c = filter-RetainsPairs _ _ _ (λ k v b w f call. search rules) _ _ c.retain.ensures.filtered ∙ ap (kept_below c.args.length) c.self.view_is
