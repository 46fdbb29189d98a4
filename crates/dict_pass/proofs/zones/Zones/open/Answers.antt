use Rattle.std.proofs.Common.{sym, subst, ◌∙◌}
use Rattle.std.specs.Prelude.{All}
use Rattle.std.proofs.lemmas.List.{take_all}
use Rattle.dict_model.specs.Operation.{IsSpec}
use Rattle.dict_pass.proofs.zones.Zones.open.Goals as goal

pub invariant_of-result : goal.invariant_of-result
invariant_of-result c = subst (All IsSpec) (sym (c.loop-spec.invariant ∙ take_all c.loop-spec.spec-index c.args.specs.now c.loop-spec-test.false)) c.requires
