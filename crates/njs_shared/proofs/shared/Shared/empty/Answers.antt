use Rattle.std.proofs.Common.{rules}
use Rattle.njs_shared.specs.Heap.{Heap}
use Rattle.njs_shared.proofs.Nothing.{no_arrays, no_chains}
use Rattle.njs_shared.proofs.shared.Shared.empty.Goals as goal

pub invariant_of-result : goal.invariant_of-result
invariant_of-result c =
    let heap : Heap = record { objects = c.new.result; scopes = c.new-2.result; texts = c.new-3.result } in
    (search rules, search rules, search rules, search rules, no_arrays heap c.new.ensures, no_chains heap c.new.ensures c.new-2.ensures)
