use Rattle.std.proofs.Common.{◌∙◌}
use Rattle.std.proofs.lemmas.List.{take_all}
use Rattle.dict_model.proofs.Histories.{none_asked, none_own}
use Rattle.dict_model.proofs.dicts.PlainDicts.new.Goals as goal

pub invariant_of-result : goal.invariant_of-result
invariant_of-result c = none_asked c.loop-spec.zones.items c.loop-spec.invariant.own

pub returns-clause-own : goal.returns-clause-own
returns-clause-own c =
    none_own c.loop-spec.zones.items c.args.specs.now c.loop-spec.invariant.own
    (c.loop-spec.invariant.specs ∙ take_all c.loop-spec.spec-index c.args.specs.now c.loop-spec-test.false)
