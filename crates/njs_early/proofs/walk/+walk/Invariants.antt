use Rattle.std.proofs.Common.{◌≡◌, drop}
use Rattle.njs_early.specs.Around.{around_of}
use Rattle.njs_early.specs.Walk.{answer, all_exprs, all_elements, all_properties, all_values, all_stmts, all_cases}
use Rattle.njs_early.proofs.walk.+walk.Given as goal

abbrev pub invariant-exprs-loop-e : goal.invariant-exprs-loop-e
invariant-exprs-loop-e l = answer (all_exprs l.list (around_of l.around)) ≡ answer (all_exprs (drop l.e-index l.list) (around_of l.around))

abbrev pub invariant-elements-loop-element : goal.invariant-elements-loop-element
invariant-elements-loop-element l = answer (all_elements l.list (around_of l.around)) ≡ answer (all_elements (drop l.element-index l.list) (around_of l.around))

abbrev pub invariant-properties-loop-p : goal.invariant-properties-loop-p
invariant-properties-loop-p l = answer (all_properties l.list (around_of l.around)) ≡ answer (all_properties (drop l.p-index l.list) (around_of l.around))

abbrev pub invariant-values-loop-value : goal.invariant-values-loop-value
invariant-values-loop-value l = answer (all_values l.list (around_of l.around)) ≡ answer (all_values (drop l.value-index l.list) (around_of l.around))

abbrev pub invariant-stmts-loop-s : goal.invariant-stmts-loop-s
invariant-stmts-loop-s l = answer (all_stmts l.list (around_of l.around)) ≡ answer (all_stmts (drop l.s-index l.list) (around_of l.around))

abbrev pub invariant-cases-loop-part : goal.invariant-cases-loop-part
invariant-cases-loop-part l = answer (all_cases l.list (around_of l.around)) ≡ answer (all_cases (drop l.part-index l.list) (around_of l.around))
