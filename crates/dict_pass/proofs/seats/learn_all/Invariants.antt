use Rattle.std.proofs.Common.{◌≡◌, ◌≤◌, ◌<◌, ℕ, length, map, get_or}
use Rattle.dict_lock.specs.Known.{Learns}
use Rattle.dict_pass.proofs.Places.{nobody}
use Rattle.dict_pass.specs.Callers.{zone_of}
use Rattle.dict_pass.proofs.seats.learn_all.Given as goal

abbrev pub invariant-loop-at : goal.invariant-loop-at
invariant-loop-at l = record {
  zones : map zone_of l.seats.items ≡ l.zones;
  long : length l.seats.items ≡ length l.zones;
  others : l.others.items ≡ l.initial.others.items;
  wide : length l.others.items ≡ length l.zones;
  rest : (k : ℕ) → l.at ≤ k → get_or l.seats.items k nobody ≡ get_or l.initial.seats.items k nobody;
  learns : (k : ℕ) → k < l.at → Learns (get_or l.initial.seats.items k nobody) (get_or l.initial.others.items k nobody) (get_or l.seats.items k nobody);
}
