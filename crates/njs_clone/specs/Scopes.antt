-- The scopes of a heap: lists of slots (ECMA-262 5.1 §10.2).
use Rattle.std.specs.Prelude.{ℕ, List, [], ◌∷◌, ◌++◌, length, Option, slice_get, slice_set, replicate}
use Rattle.std.specs.Option.{option_map_or, option_and_then}
use Rattle.njs_value.specs.declared.ScopeId.{ScopeId}
use Rattle.njs_value.specs.declared.Value.{Value}
use Rattle.njs_value.specs.declared.Value.TheVariants.{Undefined}
use Rattle.njs_shared.specs.declared.object.Scope.{Scope}

-- how many slots the scope with a number has
abbrev pub slot_count : List Scope → ℕ → ℕ
slot_count scopes at = option_map_or (λ s. length s.slots) (slice_get scopes at) 0

-- what stands in a slot
abbrev pub slot_at : List Scope → ℕ → ℕ → Option Value
slot_at scopes at slot = option_and_then (λ s. slice_get s.slots slot) (slice_get scopes at)

-- the scopes, with this value in a slot
abbrev pub with_slot : ℕ → ℕ → Value → List Scope → List Scope
with_slot at slot v scopes =
    option_map_or (λ s. slice_set scopes at (record s { slots = slice_set s.slots slot v })) (slice_get scopes at) scopes

-- the scopes with a new one behind them, whose slots are undefined
abbrev pub with_new_scope : Option ScopeId → ℕ → List Scope → List Scope
with_new_scope parent slots scopes = scopes ++ record { parent = parent; slots = replicate slots Undefined } ∷ []
