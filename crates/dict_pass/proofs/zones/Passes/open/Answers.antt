use Rattle.std.proofs.Common.{List, map, ap, ◌∙◌}
use Rattle.dict_lock.specs.Known.{ZoneName}
use Rattle.dict_pass.specs.Callers.{zone_of}
use Rattle.dict_pass.specs.Rounds.{round, zones_of_first}
use Rattle.dict_pass.proofs.Opening.{last_round}
use Rattle.dict_pass.proofs.zones.Passes.open.Goals as goal

pub returns-in-Ok : goal.returns-in-Ok
returns-in-Ok g c =
    let zs : List ZoneName = map zone_of c.in_ok-first.first in
    record {
      zones = zs;
      over = c.in_ok-first.ensures.specs;
      all = c.in-Ok.ensures ∙ ap (λ (l : List ZoneName). round l c.args.count c.args.count) (ap zones_of_first c.in_ok-list.ensures.items) ∙ last_round zs c.args.count c.requires;
    }
