use Rattle.std.proofs.Common.{◌≡◌, ◌++◌, take, drop}
use Rattle.http_in.specs.Rules.{front_while, is_within_line}
use Rattle.http_in.proofs.line.before_lf.Given as goal

-- all so far stand before the LF
abbrev pub invariant-loop-byte : goal.invariant-loop-byte
invariant-loop-byte l = record {
  counted : l.count ≡ l.byte-index;
  passed : front_while is_within_line l.bytes ≡ take l.byte-index l.bytes ++ front_while is_within_line (drop l.byte-index l.bytes);
}
