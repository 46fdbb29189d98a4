use Rattle.std.proofs.Common.{◌≡◌, ◌++◌, take, drop}
use Rattle.http_in.specs.Rules.{front_while, is_before_query}
use Rattle.http_in.proofs.line.before_query.Given as goal

-- all so far stand before the mark
abbrev pub invariant-loop-byte : goal.invariant-loop-byte
invariant-loop-byte l = record {
  counted : l.count ≡ l.byte-index;
  passed : front_while is_before_query l.target ≡ take l.byte-index l.target ++ front_while is_before_query (drop l.byte-index l.target);
}
