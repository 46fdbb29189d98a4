-- Properties by name: a list of names with their properties, in order of creation.
use Rattle.std.specs.Prelude.{ℕ, List, Option, filter}
use Rattle.std.specs.Borrow.{Bor}
use Rattle.std.specs.Map.{lookup, remove_entry, keys_of}
use Rattle.std.specs.Option.{option_map_or}
use Rattle.indexmap.specs.IndexMap.{insert_entry}
use Rattle.njs_value.specs.declared.Flags.{Flags}
use Rattle.njs_props.specs.Names.{same_name, is_below}
use Rattle.njs_props.specs.declared.map.Property.{Property}

module _ {P : Type 0} where
  -- the names, in order of creation
  abbrev pub names_of : List (List ℕ × P) → List (List ℕ)
  names_of props = keys_of props

  -- the property of a name
  abbrev pub property : List ℕ → List (List ℕ × P) → Option P
  property name props = lookup (same_name name) props

  -- a property that is there keeps its place, and a new one goes last
  abbrev pub with_property : List ℕ → P → List (List ℕ × P) → List (List ℕ × P)
  with_property name p props = insert_entry same_name props name p

  -- the others keep their order
  abbrev pub without_property : List ℕ → List (List ℕ × P) → List (List ℕ × P)
  without_property name props = remove_entry (same_name name) props

module _ {T : Type 0} where
  -- the property of that name, if there is one, has these flags
  abbrev pub with_flags : List ℕ → Flags → List (List ℕ × Property T) → List (List ℕ × Property T)
  with_flags name flags props =
      option_map_or (λ p. with_property name (record p { flags = flags }) props) (property name props) props

  -- the property of that name, if there is one, has this value
  abbrev pub with_value : List ℕ → T → List (List ℕ × Property T) → List (List ℕ × Property T)
  with_value name value props =
      option_map_or (λ p. with_property name (record p { value = value }) props) (property name props) props

  -- the elements below a length, and all other properties
  abbrev pub kept_below : ℕ → List (List ℕ × Property T) → List (List ℕ × Property T)
  kept_below length props = filter (λ e. is_below length e.0) props

  -- a property whose value is lent
  abbrev pub property_lent : Bor T × Flags → Property T
  property_lent p = record { value = p.0.now; flags = p.1 }

  -- an entry whose name and value are lent
  abbrev pub entry_lent : Bor (List ℕ) × Bor T × Flags → List ℕ × Property T
  entry_lent e = (e.0.now, record { value = e.1.now; flags = e.2 })
