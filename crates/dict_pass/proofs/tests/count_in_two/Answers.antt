use Rattle.std.proofs.Common.{sym, ◌∙◌}
use Rattle.dict_pass.proofs.Calls.{later_zones}
use Rattle.dict_pass.proofs.tests.count_in_two.Goals as goal

pub close-requires : goal.close-requires
close-requires g c = later_zones c.args.one c.add_side_by_side-one.result.0.dicts c.add_side_by_side-one.ensures.one ∙ c.requires.one

pub close-requires-2 : goal.close-requires-2
close-requires-2 g c = later_zones c.args.two c.add_side_by_side-one.result.1.dicts c.add_side_by_side-one.ensures.two ∙ c.requires.two ∙ sym c.close.ensures.zones
