use Rattle.std.proofs.Common.{◌≡◌}
use Rattle.dict_pass.proofs.tests.add_many.Given as goal

abbrev pub invariant-loop-reading : goal.invariant-loop-reading
invariant-loop-reading g l = record {
  specs : g.D.Dicts.specs l.dicts ≡ g.D.Dicts.specs l.initial.dicts;
  later : g.D.Dicts.later l.initial.dicts l.dicts;
}
