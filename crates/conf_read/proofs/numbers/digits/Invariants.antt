use Rattle.std.proofs.Common.{◌≡◌, ◌≤◌, drop}
use Rattle.conf_read.specs.Values.{digits, within}
use Rattle.conf_read.proofs.numbers.digits.Given as goal

-- the digits that are left decide
abbrev pub invariant-loop-c : goal.invariant-loop-c
invariant-loop-c l = record {
  left : digits 0 l.text ≡ digits l.number (drop l.c-index l.text);
  small : l.number ≤ l.most;
}
