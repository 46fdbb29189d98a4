use Rattle.std.proofs.Common.{◌≡◌, ◌≤◌, ◌+◌, vec_len, vec_capacity}
use Rattle.dict_model.specs.Eviction.{left, others}
use Rattle.dict_model.proofs.change.evict.Given as goal

-- what is left of what is there now is what is left of all
abbrev pub invariant-loop-need : goal.invariant-loop-need
invariant-loop-need l = record {
  same : left l.key l.need l.entries.items ≡ left l.key l.fn.need l.fn.entries.items;
  freed : others l.key l.entries.items + l.fn.need ≤ others l.key l.fn.entries.items + l.need;
  enough : l.need ≤ others l.key l.entries.items;
  len : vec_len l.entries ≤ vec_len l.fn.entries;
  capacity : vec_capacity l.entries ≡ vec_capacity l.fn.entries;
}

abbrev pub decreases-loop-need : goal.decreases-loop-need
decreases-loop-need l = vec_len l.entries
