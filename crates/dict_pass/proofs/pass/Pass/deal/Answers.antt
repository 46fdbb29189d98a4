use Rattle.std.proofs.Common.{ap, map, ◌∙◌}
use Rattle.dict_pass.specs.Callers.{zone_of}
use Rattle.dict_pass.proofs.Opening.{zones_dealer, zones_opened}
use Rattle.dict_pass.proofs.pass.Pass.deal.Goals as goal

pub invariant_of-result : goal.invariant_of-result
invariant_of-result g c = ap (map zone_of) c.deal_all.ensures.new ∙ zones_opened c.args.number c.args.count c.self.inside.zones.now

pub invariant_of-self : goal.invariant_of-self
invariant_of-self g c = ap (map zone_of) c.deal_all.ensures.seats ∙ zones_dealer _ c.args.count c.self.inside.zones.now
