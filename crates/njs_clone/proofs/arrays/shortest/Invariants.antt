use Rattle.std.proofs.Common.{◌≡◌, ◌<◌, ◌^◌, drop}
use Rattle.njs_meaning.specs.Arrays.{least_length}
use Rattle.njs_clone.proofs.arrays.shortest.Given as goal

-- what the elements from here on leave of the least length so far
abbrev pub invariant-loop-place : goal.invariant-loop-place
invariant-loop-place l = record {
  rest : least_length l.least (drop l.place l.props) ≡ least_length l.length l.props;
  small : l.least < 2 ^ 33;
}
