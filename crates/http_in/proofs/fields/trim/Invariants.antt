use Rattle.std.proofs.Common.{◌≡◌, ◌≤◌, length, take, reverse}
use Rattle.httparse.specs.Grammar.{skip_ows}
use Rattle.http_in.proofs.fields.trim.Given as goal

-- what was cut off at the end is blank
abbrev pub invariant-loop-end : goal.invariant-loop-end
invariant-loop-end l = record {
  within : l.end ≤ length l.inner;
  same : reverse (skip_ows (reverse (take l.end l.inner))) ≡ reverse (skip_ows (reverse l.inner));
}

abbrev pub decreases-loop-end : goal.decreases-loop-end
decreases-loop-end l = l.end
