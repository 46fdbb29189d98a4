use Rattle.std.proofs.Common.{◌≡◌, ◌≤◌, length, map, take, vec_len, vec_capacity}
use Rattle.dict_pass.specs.Callers.{dealer, spec_of}
use Rattle.dict_pass.proofs.zones.open_all.Given as goal

abbrev pub invariant-loop-at : goal.invariant-loop-at
invariant-loop-at l = record {
  specs : map spec_of l.zones.items ≡ take l.at l.specs;
  callers : l.seats.items ≡ map (dealer 1 l.count) l.zones.items;
  zones : vec_len l.zones ≡ l.at;
  seats : vec_len l.seats ≡ l.at;
  room : length l.specs ≤ vec_capacity l.zones;
  places : length l.specs ≤ vec_capacity l.seats;
}
