use Rattle.std.proofs.Common.{◌≡◌, ℕ, ◌++◌, drop}
use Rattle.njs_scope.specs.Uses.{items_part}
use Rattle.njs_scope.specs.Walked.{places_of, scopes_of}
use Rattle.njs_scope.proofs.script.in_items.Given as goal

abbrev pub invariant-loop-i : goal.invariant-loop-i
invariant-loop-i l =
    let part = items_part (drop l.i l.list) in
    record {
      places : (first : ℕ) → l.found.places ≡ places_of part first l.around ++ l.initial.found.places;
      scopes : (first : ℕ) → l.found.scopes ≡ scopes_of part first l.around ++ l.initial.found.scopes;
    }
