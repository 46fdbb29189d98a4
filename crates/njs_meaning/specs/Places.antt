-- Where names stand, by the names of the scopes around them alone (ECMA-262 5.1 §10.2.2.1).
use Rattle.std.specs.Prelude.{ℕ, zero, suc, List, [], ◌∷◌, map, Bool, true, false, Option, Some, None, if◌then◌else◌}
use Rattle.std.specs.Option.{option_map, option_map_or}
use Rattle.njs_props.specs.Names.{same_name}
use Rattle.njs_meaning.specs.declared.place.Place.{Place}
use Rattle.njs_meaning.specs.declared.place.Place.TheVariants.{Slot, Global, Nowhere}
use Rattle.njs_meaning.specs.PlainHeap.{Variable}

-- the names of a scope in order of its slots, each with whether it can be assigned
abbrev pub Bindings : Type 0
Bindings = List (List ℕ × Bool)

-- the names of the scopes around a place, the innermost first; the last is the outermost
abbrev pub Around : Type 0
Around = List Bindings

-- the names of a scope's variables
abbrev pub bindings_of : List Variable → Bindings
bindings_of variables = map (λ v. (v.name, v.assignable)) variables

-- names that can be assigned
abbrev pub assignable : List (List ℕ) → Bindings
assignable names = map (λ name. (name, true)) names

-- the slot of a name, and whether it can be assigned
abbrev pub slot_of : List ℕ → Bindings → Option (ℕ × Bool)
slot_of name [] = None
slot_of name (b ∷ bs) = if same_name name b.0 then Some (zero, b.1) else option_map (λ p. (suc p.0, p.1)) (slot_of name bs)

abbrev pub outward : Place → Place
outward (Slot up slot a) = Slot (suc up) slot a
outward (Global slot a) = Global slot a
outward Nowhere = Nowhere

-- the place of a name: in the nearest scope that has it
abbrev pub place_in : List ℕ → Around → Place
place_in name [] = Nowhere
place_in name (names ∷ []) = option_map_or (λ p. Global p.0 p.1) (slot_of name names) Nowhere
place_in name (names ∷ (next ∷ rest)) =
    option_map_or (λ p. Slot zero p.0 p.1) (slot_of name names) (outward (place_in name (next ∷ rest)))
