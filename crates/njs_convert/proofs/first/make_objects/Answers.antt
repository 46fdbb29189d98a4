use Rattle.std.proofs.Common.{rules, arith}
use Rattle.std.proofs.lemmas.Grind.{common_steps}
use Rattle.njs_convert.proofs.Grown.{Grows-trans}
use Rattle.njs_convert.proofs.first.make_objects.Goals as goal

pub returns-in_err-make_object-clause-grows : goal.returns-in_err-make_object-clause-grows
returns-in_err-make_object-clause-grows g c = Grows-trans c.args.machine.now c.loop-row.machine c.make_object.new.machine c.loop-row.invariant.grows c.in_err-make_object.ensures.grows

pub loop-row-preserved : goal.loop-row-preserved
loop-row-preserved g c = record {
  made = first_of (search rules, grind (arith, common_steps));
  fit = first_of (search rules, grind (arith, common_steps));
  count = first_of (search rules, grind (arith, common_steps));
  scopes = first_of (search rules, grind (arith, common_steps));
  grows = Grows-trans c.args.machine.now c.loop-row.machine c.make_object.new.machine c.loop-row.invariant.grows c.in_ok-make_object.ensures.grows;
  steps = first_of (search rules, grind (arith, common_steps));
}
