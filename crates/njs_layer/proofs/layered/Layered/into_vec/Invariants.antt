use Rattle.std.proofs.Common.{◌≡◌, ◌≤◌, ◌<◌, ℕ, take, length}
use Rattle.std.specs.Ordering.{nat_cmp}
use Rattle.std.specs.BTreeMap.{get as entry}
use Rattle.njs_layer.specs.Layer.{overlaid}
use Rattle.njs_layer.proofs.layered.Layered.into_vec.Given as goal

-- the items so far, and the copies from here on
abbrev pub invariant-loop-place : goal.invariant-loop-place
invariant-loop-place g l = record {
  items : l.items.items ≡ take l.place (overlaid (entry nat_cmp l.initial.copies) 0 l.base);
  left : (q : ℕ) → l.place ≤ q → entry nat_cmp l.copies q ≡ entry nat_cmp l.initial.copies q;
}
