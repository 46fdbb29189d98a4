use Rattle.std.proofs.Common.{◌≡◌, ◌≤◌, ◌<◌, ℕ, length, map, get_or, take, vec_len, vec_capacity}
use Rattle.dict_lock.specs.Known.{Stays, IsNewFrom}
use Rattle.dict_pass.proofs.Places.{nobody}
use Rattle.dict_pass.specs.Callers.{zone_of}
use Rattle.dict_pass.proofs.seats.split_all.Given as goal

abbrev pub invariant-loop-at : goal.invariant-loop-at
invariant-loop-at g l = record {
  zones : map zone_of l.seats.items ≡ l.zones;
  long : length l.seats.items ≡ length l.initial.seats.items;
  within : length l.seats.items ≡ length l.zones;
  stays : (k : ℕ) → k < length l.initial.seats.items → Stays (get_or l.initial.seats.items k nobody) (get_or l.seats.items k nobody);
  rest : (k : ℕ) → l.at ≤ k → get_or l.seats.items k nobody ≡ get_or l.initial.seats.items k nobody;
  own : map zone_of l.new.items ≡ take l.at l.zones;
  count : vec_len l.new ≡ l.at;
  room : length l.zones ≤ vec_capacity l.new;
  new : (k : ℕ) → k < l.at → IsNewFrom (get_or l.initial.seats.items k nobody) (get_or l.seats.items k nobody) (get_or l.new.items k nobody);
}
