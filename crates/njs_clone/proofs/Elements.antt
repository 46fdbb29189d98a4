-- Elements of an array, by cases.
use Rattle.std.proofs.Common.{◌≡◌, ℕ, ◌+◌, ◌<◌, ◌≤◌, suc, max, List, [], ◌∷◌, Option, Some, None, Bool, true, false, cond, ap, refl, sym, ◌∙◌, drop, length, slice_get, nat_lt, add-one, arith, if◌then◌else◌}
use Rattle.std.specs.Option.{option_map_or}
use Rattle.std.proofs.lemmas.Option.{slice_get_within, get_or_from_slice_get}
use Rattle.std.proofs.Math.Seq.{drop-cons}
use Rattle.njs_props.specs.declared.map.Property.{Property}
use Rattle.njs_props.specs.Names.{index_of, same_name}
use Rattle.njs_props.specs.Props.{property}
use Rattle.njs_meaning.specs.Arrays.{least_length}

-- the rest from a place is the entry there and the rest behind it
pub drop_at : {X : Type 0} (xs : List X) (place : ℕ) (x : X) → slice_get xs place ≡ Some x → drop place xs ≡ x ∷ drop (place + 1) xs
drop_at xs place x at =
    let within : place < length xs = slice_get_within xs place x at in
    drop-cons xs place x within ∙ ap (λ y. y ∷ drop (suc place) xs) (get_or_from_slice_get xs place x x at) ∙ ap (λ n. x ∷ drop n xs) (sym (add-one place))

module _ {V : Type 0} where
  -- one more element raises the least length, or leaves it
  pub least_length-next : (es : List (List ℕ × Property V)) (n raised place : ℕ) (name : List ℕ) (p : Property V) → slice_get es place ≡ Some (name, p)
      → raised ≡ (if p.flags.configurable then n else max n (option_map_or (λ i. i + 1) (index_of name) 0)) → least_length n (drop place es) ≡ least_length raised (drop (place + 1) es)
  least_length-next es n raised place name p at is =
      ap (least_length n) (drop_at es place (name, p) at) ∙ ap (λ m. least_length m (drop (place + 1) es)) (sym is)

module _ {P : Type 0} (name : List ℕ) (es : List (List ℕ × P)) (place : ℕ) (n : List ℕ) (p : P) where
  -- the name stands at a place
  pub property_here : slice_get es place ≡ Some (n, p) → same_name name n ≡ true → property name (drop place es) ≡ Some p
  property_here at same = ap (property name) (drop_at es place (n, p) at) ∙ ap (λ b. cond b (Some p) (property name (drop (place + 1) es))) same

  -- another name stands there
  pub property_past : slice_get es place ≡ Some (n, p) → same_name name n ≡ false → property name (drop (place + 1) es) ≡ property name (drop place es)
  property_past at other = sym (ap (property name) (drop_at es place (n, p) at) ∙ ap (λ b. cond b (Some p) (property name (drop (place + 1) es))) other)
