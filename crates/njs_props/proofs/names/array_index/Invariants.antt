use Rattle.std.proofs.Common.{◌≡◌, ◌<◌, take}
use Rattle.std.specs.Str.Parse.{AllDigits, digits_value}
use Rattle.njs_props.proofs.names.array_index.Given as goal

-- the digits so far and the number that they spell
abbrev pub invariant-loop-place : goal.invariant-loop-place
invariant-loop-place l = record {
  digits : AllDigits 10 (take l.place l.name);
  spelled : l.number ≡ digits_value 10 (take l.place l.name);
  small : l.number < 4294967295;
}
