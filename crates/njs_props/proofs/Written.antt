-- What a write to a property that is there leaves.
use Rattle.std.proofs.Common.{◌≡◌, ℕ, List, [], ◌∷◌, Some, Bool, true, false, cond, ap, refl, ◌∙◌}
use Rattle.std.specs.Map.{lookup, set_value}
use Rattle.std.specs.Option.{option_map_or}
use Rattle.indexmap.specs.IndexMap.{insert_entry}
use Rattle.njs_value.specs.declared.Flags.{Flags}
use Rattle.njs_props.specs.declared.map.Property.{Property}
use Rattle.njs_props.specs.Names.{same_name}
use Rattle.njs_props.specs.Props.{property, with_property, with_flags, with_value}

-- a key that is there takes the value in its place
insert_entry-present : {K V : Type 0} (eq : K → K → Bool) (k : K) (v w : V) (es : List (K × V)) → lookup (eq k) es ≡ Some w → insert_entry eq es k v ≡ set_value (eq k) es v
insert_entry-present eq k v w [] found = cc
insert_entry-present eq k v w (e ∷ es) found = by (eq k e.0) found (insert_entry-present eq k v w es)
  where
    by : (b : Bool) → cond b (Some e.1) (lookup (eq k) es) ≡ Some w → (lookup (eq k) es ≡ Some w → insert_entry eq es k v ≡ set_value (eq k) es v)
        → cond b ((e.0, v) ∷ es) (e ∷ insert_entry eq es k v) ≡ cond b ((e.0, v) ∷ es) (e ∷ set_value (eq k) es v)
    by true found rest = refl
    by false found rest = ap (λ t. e ∷ t) (rest found)

module _ {T : Type 0} (name : List ℕ) (p : Property T) (es : List (List ℕ × Property T)) where
  pub with_flags-present : (flags : Flags) → property name es ≡ Some p → with_flags name flags es ≡ set_value (same_name name) es (record p { flags = flags })
  with_flags-present flags there =
      ap (λ o. option_map_or (λ (q : Property T). with_property name (record q { flags = flags }) es) o es) there ∙ insert_entry-present same_name name (record p { flags = flags }) p es there

  pub with_value-present : (value : T) → property name es ≡ Some p → with_value name value es ≡ set_value (same_name name) es (record p { value = value })
  with_value-present value there =
      ap (λ o. option_map_or (λ (q : Property T). with_property name (record q { value = value }) es) o es) there ∙ insert_entry-present same_name name (record p { value = value }) p es there
