use Rattle.std.proofs.Common.{◌≡◌, ℕ, ◌++◌, drop}
use Rattle.njs_scope.specs.Walked.{places_of, scopes_of, expressions, elements, properties, variables, statements, branches}
use Rattle.njs_scope.proofs.walk.+walk.Given as goal

abbrev pub invariant-in_expressions-loop-i : goal.invariant-in_expressions-loop-i
invariant-in_expressions-loop-i l =
    let part = expressions (drop l.i l.list) in
    record {
      places : (first : ℕ) → l.found.places ≡ places_of part first l.around ++ l.initial.found.places;
      scopes : (first : ℕ) → l.found.scopes ≡ scopes_of part first l.around ++ l.initial.found.scopes;
    }

abbrev pub invariant-in_elements-loop-i : goal.invariant-in_elements-loop-i
invariant-in_elements-loop-i l =
    let part = elements (drop l.i l.list) in
    record {
      places : (first : ℕ) → l.found.places ≡ places_of part first l.around ++ l.initial.found.places;
      scopes : (first : ℕ) → l.found.scopes ≡ scopes_of part first l.around ++ l.initial.found.scopes;
    }

abbrev pub invariant-in_properties-loop-i : goal.invariant-in_properties-loop-i
invariant-in_properties-loop-i l =
    let part = properties (drop l.i l.list) in
    record {
      places : (first : ℕ) → l.found.places ≡ places_of part first l.around ++ l.initial.found.places;
      scopes : (first : ℕ) → l.found.scopes ≡ scopes_of part first l.around ++ l.initial.found.scopes;
    }

abbrev pub invariant-in_variables-loop-i : goal.invariant-in_variables-loop-i
invariant-in_variables-loop-i l =
    let part = variables (drop l.i l.list) in
    record {
      places : (first : ℕ) → l.found.places ≡ places_of part first l.around ++ l.initial.found.places;
      scopes : (first : ℕ) → l.found.scopes ≡ scopes_of part first l.around ++ l.initial.found.scopes;
    }

abbrev pub invariant-in_statements-loop-i : goal.invariant-in_statements-loop-i
invariant-in_statements-loop-i l =
    let part = statements (drop l.i l.list) in
    record {
      places : (first : ℕ) → l.found.places ≡ places_of part first l.around ++ l.initial.found.places;
      scopes : (first : ℕ) → l.found.scopes ≡ scopes_of part first l.around ++ l.initial.found.scopes;
    }

abbrev pub invariant-in_branches-loop-i : goal.invariant-in_branches-loop-i
invariant-in_branches-loop-i l =
    let part = branches (drop l.i l.list) in
    record {
      places : (first : ℕ) → l.found.places ≡ places_of part first l.around ++ l.initial.found.places;
      scopes : (first : ℕ) → l.found.scopes ≡ scopes_of part first l.around ++ l.initial.found.scopes;
    }
