use Rattle.std.proofs.Common.{◌≡◌, ◌≤◌, ◌++◌, ◌∷◌, []}
use Rattle.njs_shared.specs.Heap.{Heap}
use Rattle.njs_interp.specs.Calling.{scope_filled}
use Rattle.njs_interp.proofs.script.call_scope.Given as goal

-- so many parameters have their arguments
abbrev pub invariant-loop-place : goal.invariant-loop-place
invariant-loop-place g l =
    let h : Heap = l.fn.machine in
    record {
      filled : l.machine ≡ record h { scopes = h.scopes ++ scope_filled l.fn.parent l.fn.slots l.place l.args ∷ [] };
      steps : l.fn.steps ≤ l.steps;
    }
