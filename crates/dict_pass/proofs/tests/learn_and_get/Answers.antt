use Rattle.std.proofs.Common.{◌≡◌, List, map, ap, sym, ◌∙◌}
use Rattle.std.specs.Prelude.{slice_get}
use Rattle.dict_model.specs.declared.operation.ZoneSpec.{ZoneSpec}
use Rattle.dict_pass.specs.Callers.{spec_of, specs_of}
use Rattle.dict_pass.proofs.Calls.{later_zones, none_made}
use Rattle.dict_pass.proofs.tests.learn_and_get.Goals as goal

pub learn-requires : goal.learn-requires
learn-requires g c = later_zones c.split.new.self c.add_one-added.new.dicts c.add_one-added.ensures.later ∙ c.split.ensures.zones ∙ sym c.in-Ok.ensures.same

pub first_get-found-requires-clause-none : goal.first_get-found-requires-clause-none
first_get-found-requires-clause-none g c =
    let specs : specs_of c.learn.new.self ≡ specs_of c.args.main = ap (map spec_of) (c.learn.ensures.zones ∙ c.in-Ok.ensures.same) in
    none_made c.args.main c.split.new.self c.in-Ok.other c.add_one-added.new.dicts c.learn.new.self 0 c.requires.0 c.in-Ok.ensures.new c.learn.ensures.learns (ap (λ (l : List ZoneSpec). slice_get l 0) specs ∙ c.requires.1)
