-- Heaps in which every chain of prototypes, of scopes and of bound functions ends.
use Rattle.std.specs.Prelude.{ℕ, List, map, Option, Some, None}
use Rattle.std.specs.Option.{option_map}
use Rattle.njs_value.specs.Ends.{Ends}
use Rattle.njs_shared.specs.declared.object.Inner.{Inner}
use Rattle.njs_shared.specs.declared.object.Inner.TheVariants.{Plain, Script, BuiltIn, Bound, ZoneNumber}
use Rattle.njs_shared.specs.declared.object.Scope.{Scope}
use Rattle.njs_shared.specs.Heap.{Heap, HeapObject}

-- where a bound function leads (ECMA-262 5.1 §15.3.4.5)
abbrev pub bound_target : Inner → Option ℕ
bound_target Plain = None
bound_target (Script unit code scope) = None
bound_target (BuiltIn row) = None
bound_target (Bound target this args) = Some target.0
bound_target (ZoneNumber zone) = None

-- where each object leads by its prototype, where each by its target, and where each scope by its parent
abbrev pub prototypes : List HeapObject → List (Option ℕ)
prototypes objects = map (λ o. option_map (λ up. up.0) o.prototype) objects

abbrev pub targets : List HeapObject → List (Option ℕ)
targets objects = map (λ o. bound_target o.inner) objects

abbrev pub parents : List Scope → List (Option ℕ)
parents scopes = map (λ s. option_map (λ up. up.0) s.parent) scopes

-- every chain of prototypes, of bound functions and of scopes ends
pub record HasEnds (heap : Heap) : Type 0 where
  pub prototypes : Ends (prototypes heap.objects)
  pub targets : Ends (targets heap.objects)
  pub scopes : Ends (parents heap.scopes)
