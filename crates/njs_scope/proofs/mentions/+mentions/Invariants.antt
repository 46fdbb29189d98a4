use Rattle.std.proofs.Common.{◌≡◌, ℕ, [], drop}
use Rattle.njs_scope.specs.Walked.{expressions, elements, properties}
use Rattle.njs_scope.proofs.mentions.+mentions.Given as goal

abbrev pub invariant-in_expressions-loop-i : goal.invariant-in_expressions-loop-i
invariant-in_expressions-loop-i l =
    let part = expressions (drop l.i l.list) in
    record { names : l.later ≡ part.names_arguments; vars : part.vars ≡ []; declared : (first : ℕ) → part.declared first ≡ [] }

abbrev pub invariant-in_elements-loop-i : goal.invariant-in_elements-loop-i
invariant-in_elements-loop-i l =
    let part = elements (drop l.i l.list) in
    record { names : l.later ≡ part.names_arguments; vars : part.vars ≡ []; declared : (first : ℕ) → part.declared first ≡ [] }

abbrev pub invariant-in_properties-loop-i : goal.invariant-in_properties-loop-i
invariant-in_properties-loop-i l =
    let part = properties (drop l.i l.list) in
    record { names : l.later ≡ part.names_arguments; vars : part.vars ≡ []; declared : (first : ℕ) → part.declared first ≡ [] }
