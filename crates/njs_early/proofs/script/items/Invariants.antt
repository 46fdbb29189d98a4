use Rattle.std.proofs.Common.{◌≡◌, drop}
use Rattle.njs_tree.specs.Early.{of_items}
use Rattle.njs_early.specs.Walk.{answer}
use Rattle.njs_early.proofs.script.items.Given as goal

abbrev pub invariant-loop-part : goal.invariant-loop-part
invariant-loop-part l = answer (of_items l.list) ≡ answer (of_items (drop l.part-index l.list))
