use Rattle.std.proofs.Common.{◌≡◌, drop}
use Rattle.njs_code.specs.Valid.{ops_valid}
use Rattle.njs_code.proofs.rule.ops_valid.Given as goal

abbrev pub invariant-loop-i : goal.invariant-loop-i
invariant-loop-i l = ops_valid l.functions l.f l.ops ≡ ops_valid l.functions l.f (drop l.i l.ops)
