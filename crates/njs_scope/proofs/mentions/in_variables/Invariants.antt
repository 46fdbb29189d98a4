use Rattle.std.proofs.Common.{◌≡◌, ℕ, [], drop}
use Rattle.njs_scope.specs.Walked.{variables}
use Rattle.njs_scope.proofs.mentions.in_variables.Given as goal

abbrev pub invariant-loop-i : goal.invariant-loop-i
invariant-loop-i l =
    let part = variables (drop l.i l.list) in
    record { names : l.later ≡ part.names_arguments; vars : part.vars ≡ []; declared : (first : ℕ) → part.declared first ≡ [] }
