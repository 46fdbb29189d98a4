use Rattle.std.proofs.Common.{◌≡◌, ◌≤◌, drop}
use Rattle.std.specs.Str.Parse.{digits_value, digits_value_after}
use Rattle.http_in.proofs.length.length_of.Given as goal

-- the digits so far
abbrev pub invariant-loop-digit : goal.invariant-loop-digit
invariant-loop-digit l = record {
  small : l.length ≤ 1048576;
  counted : digits_value 10 l.value ≡ digits_value_after 10 l.length (drop l.digit-index l.value);
}
