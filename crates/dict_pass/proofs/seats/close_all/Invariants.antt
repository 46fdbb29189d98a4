use Rattle.std.proofs.Common.{◌≡◌, ◌≤◌, ◌<◌, ℕ, length, map, get_or, vec_len}
use Rattle.dict_lock.specs.Known.{Closes}
use Rattle.dict_pass.proofs.Places.{nobody}
use Rattle.dict_pass.specs.Callers.{zone_of}
use Rattle.dict_pass.proofs.seats.close_all.Given as goal

abbrev pub invariant-loop-seat : goal.invariant-loop-seat
invariant-loop-seat l = record {
  zones : map zone_of l.seats.items ≡ l.zones;
  long : vec_len l.seats ≡ length l.zones;
  left : vec_len l.others ≤ length l.zones;
  others : (k : ℕ) → k < vec_len l.others → get_or l.others.items k nobody ≡ get_or l.initial.others.items k nobody;
  rest : (k : ℕ) → k < vec_len l.others → get_or l.seats.items k nobody ≡ get_or l.initial.seats.items k nobody;
  closes : (k : ℕ) → vec_len l.others ≤ k → k < length l.zones → Closes (get_or l.initial.others.items k nobody) (get_or l.initial.seats.items k nobody) (get_or l.seats.items k nobody);
}

abbrev pub decreases-loop-seat : goal.decreases-loop-seat
decreases-loop-seat l = vec_len l.others
