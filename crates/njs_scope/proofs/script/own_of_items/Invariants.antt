use Rattle.std.proofs.Common.{◌≡◌, ℕ, ◌++◌, drop}
use Rattle.njs_scope.specs.Uses.{items_part}
use Rattle.njs_scope.specs.Walked.{declared_names}
use Rattle.njs_scope.proofs.script.own_of_items.Given as goal

abbrev pub invariant-loop-i : goal.invariant-loop-i
invariant-loop-i l =
    let part = items_part (drop l.i l.list) in
    record {
      declared : (first : ℕ) → l.declared ≡ declared_names part first ++ l.initial.declared;
      vars : l.own.vars ≡ part.vars ++ l.initial.own.vars;
    }
