-- Scopes and slots that operations reach.
use Rattle.std.specs.Prelude.{◌≡◌, ℕ, zero, suc, List, [], ◌∷◌, ◌++◌, length, Some, slice_get, Result, Ok, Err}
use Rattle.std.specs.Option.{option_map_or}
use Rattle.njs_value.specs.declared.ScopeId.{ScopeId}
use Rattle.njs_value.specs.declared.Value.{Value}
use Rattle.njs_shared.specs.declared.object.Scope.{Scope}
use Rattle.njs_shared.specs.Heap.{Heap}
use Rattle.njs_clone.specs.Scopes.{with_slot}
use Rattle.njs_convert.specs.declared.stop.Stop.{Stop}
use Rattle.njs_convert.specs.declared.stop.Stop.TheVariants.{Throw, Fuel, NoMemory}

-- the scope so many scopes out
abbrev pub outwards : ℕ → List Scope → ℕ → ℕ
outwards zero scopes at = at
outwards (suc up) scopes at = option_map_or (λ (s : Scope). option_map_or (λ p. outwards up scopes p.0) s.parent at) (slice_get scopes at) at

-- a slot has a value, where there was memory for it
abbrev pub HasPut : ℕ → ℕ → Value → Heap → Heap → Result (Unit {0}) Stop → Type 0
HasPut at slot v old new (Ok done) = new ≡ record old { scopes = with_slot at slot v old.scopes }
HasPut at slot v old new (Err NoMemory) = new ≡ old
HasPut at slot v old new r = ⊥

-- a scope was made below another, whose one slot has the value
abbrev pub HasEntered : ScopeId → Value → Heap → Heap → Result ScopeId Stop → Type 0
HasEntered parent v old new (Ok scope) = (scope.0 ≡ length old.scopes) × (new ≡ record old { scopes = old.scopes ++ record { parent = Some parent; slots = v ∷ [] } ∷ [] })
HasEntered parent v old new (Err (Throw w)) = ⊥
HasEntered parent v old new (Err Fuel) = ⊥
HasEntered parent v old new (Err NoMemory) = Unit {0}
