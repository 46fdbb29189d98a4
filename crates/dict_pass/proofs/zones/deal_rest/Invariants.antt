use Rattle.std.proofs.Common.{◌≡◌, ◌≤◌, ◌<◌, vec_len, vec_capacity}
use Rattle.dict_pass.specs.Rounds.{round, zones_of_first}
use Rattle.dict_pass.proofs.zones.deal_rest.Given as goal

abbrev pub invariant-loop-number : goal.invariant-loop-number
invariant-loop-number g l = record {
  round : l.list.items ≡ round (zones_of_first l.initial.list.items) l.count l.number;
  some : 0 < l.number;
  long : vec_len l.list ≡ l.number;
  room : l.count ≤ vec_capacity l.list;
}
