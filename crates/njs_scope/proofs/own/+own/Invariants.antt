use Rattle.std.proofs.Common.{◌≡◌, ℕ, ◌++◌, ◌||◌, drop}
use Rattle.njs_scope.specs.Walked.{declared_names, statements, branches}
use Rattle.njs_scope.proofs.own.+own.Given as goal

abbrev pub invariant-in_statements-loop-i : goal.invariant-in_statements-loop-i
invariant-in_statements-loop-i l =
    let part = statements (drop l.i l.list) in
    record {
      declared : (first : ℕ) → l.declared ≡ declared_names part first ++ l.initial.declared;
      vars : l.own.vars ≡ part.vars ++ l.initial.own.vars;
      names : l.own.names_arguments ≡ (part.names_arguments || l.initial.own.names_arguments);
    }

abbrev pub invariant-in_branches-loop-i : goal.invariant-in_branches-loop-i
invariant-in_branches-loop-i l =
    let part = branches (drop l.i l.list) in
    record {
      declared : (first : ℕ) → l.declared ≡ declared_names part first ++ l.initial.declared;
      vars : l.own.vars ≡ part.vars ++ l.initial.own.vars;
      names : l.own.names_arguments ≡ (part.names_arguments || l.initial.own.names_arguments);
    }
