-- Heaps that gain texts, and heaps of which the objects' properties change.
use Rattle.std.specs.Prelude.{◌≡◌, ℕ, List, ◌++◌, map}
use Rattle.njs_shared.specs.Heap.{Heap}
use Rattle.njs_clone.specs.StandsFor.{plain_objects}

-- further texts may come, and nothing else changes
pub record GainsTexts (old new : Heap) : Type 0 where
  pub more : List (List ℕ)
  pub is : new ≡ record old { texts = old.texts ++ more }
  pub objects : plain_objects new ≡ plain_objects old

-- the scopes, the texts, and what the objects are beside their properties stay
pub record KeepsRest (old new : Heap) : Type 0 where
  pub scopes : new.scopes ≡ old.scopes
  pub texts : new.texts ≡ old.texts
  pub inner : map (λ o. o.inner) new.objects ≡ map (λ o. o.inner) old.objects
