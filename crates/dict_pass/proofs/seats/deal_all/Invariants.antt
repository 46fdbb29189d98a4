use Rattle.std.proofs.Common.{◌≡◌, ◌≤◌, ◌<◌, ◌+◌, ℕ, length, get_or, vec_len, vec_capacity}
use Rattle.dict_pass.proofs.Places.{nobody}
use Rattle.dict_pass.specs.Callers.{dealer, opened}
use Rattle.dict_pass.proofs.seats.deal_all.Given as goal

abbrev pub invariant-loop-at : goal.invariant-loop-at
invariant-loop-at l = record {
  long : length l.seats.items ≡ length l.zones;
  dealt : (k : ℕ) → k < l.at → get_or l.seats.items k nobody ≡ dealer (l.number + 1) l.count (get_or l.zones k nobody.zone);
  rest : (k : ℕ) → l.at ≤ k → k < length l.zones → get_or l.seats.items k nobody ≡ dealer l.number l.count (get_or l.zones k nobody.zone);
  made : vec_len l.new ≡ l.at;
  room : length l.zones ≤ vec_capacity l.new;
  new : (k : ℕ) → k < l.at → get_or l.new.items k nobody ≡ opened l.number l.count (get_or l.zones k nobody.zone);
}
