-- Heaps without objects and scopes.
use Rattle.std.proofs.Common.{◌≡◌, List, [], sym, subst}
use Rattle.std.specs.List.{AllByRecursion}
use Rattle.njs_value.specs.Ends.{Ends}
use Rattle.njs_shared.specs.declared.object.Scope.{Scope}
use Rattle.njs_shared.specs.Heap.{Heap, HeapObject}
use Rattle.njs_shared.specs.Lengths.{HasLengthOfArray, HasLengths}
use Rattle.njs_shared.specs.Ends.{prototypes, targets, parents, HasEnds}

no_ways : Ends []
no_ways = record { rank = λ n. n; falls = λ place next at. cc }

module _ (heap : Heap) (objects : heap.objects ≡ []) where
  pub no_arrays : HasLengths heap
  no_arrays = record { arrays = subst (AllByRecursion HasLengthOfArray) (sym objects) tt }

  pub no_chains : heap.scopes ≡ [] → HasEnds heap
  no_chains scopes = record {
    prototypes = subst (λ (os : List HeapObject). Ends (prototypes os)) (sym objects) no_ways;
    targets = subst (λ (os : List HeapObject). Ends (targets os)) (sym objects) no_ways;
    scopes = subst (λ (ss : List Scope). Ends (parents ss)) (sym scopes) no_ways;
  }
