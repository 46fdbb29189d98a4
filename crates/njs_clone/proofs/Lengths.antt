-- The `length` of an array stays above each of its elements (ECMA-262 5.1 §15.4.5.1).
use Rattle.std.proofs.Common.{◌≡◌, ℕ, ◌+◌, ◌<◌, ◌≤◌, ◌^◌, List, Option, Some, None, Bool, true, false, cond, is_some, nat_lt, ap, refl, sym, ◌∙◌, subst, arith, if◌then◌else◌}
use Rattle.std.proofs.lemmas.Bool.{ltb-true, ltb-false}
use Rattle.std.proofs.lemmas.Bool.Decides.{nat_tests}
use Rattle.std.specs.Option.{option_map_or, option_map, unwrap_or, ForSome}
use Rattle.njs_value.specs.declared.Cause.{Cause}
use Rattle.njs_value.specs.declared.Cause.TheVariants.{ReadOnly, NotConfigurable, BadLength}
use Rattle.njs_value.specs.declared.Class.{Class}
use Rattle.njs_value.specs.declared.Class.TheVariants.{Array}
use Rattle.njs_value.specs.declared.Flags.{Flags}
use Rattle.njs_value.specs.declared.Value.{Value}
use Rattle.njs_props.specs.declared.map.Property.{Property}
use Rattle.njs_props.specs.Names.{length_name, index_of, same_name}
use Rattle.njs_props.specs.Props.{property, with_property, without_property, with_value, kept_below}
use Rattle.njs_shared.specs.Lengths.{length_property, AreBelow, HasLength}
use Rattle.njs_meaning.specs.Properties.{Properties, done, refused, flags_of, with_put, put_refusal, delete, all_flags}
use Rattle.njs_meaning.specs.Arrays.{least_length, array_length, has_fixed_length, with_length, lengthened, put_element, put_in_array}
use Rattle.njs_meaning.specs.Objects.{put, first_props}
use Rattle.njs_clone.specs.Content.{stored, written}
use Rattle.njs_clone.proofs.Kept.{index_small, least_length_small}
use Rattle.njs_clone.proofs.OtherNames.{other_way, other_by, property-with, property-without, property-below, names-with, names-without, names-more, names-below, same_by, no_index-length}

-- ---- properties whose `length` is this number, and may be written or not

pub record IsLength (n : ℕ) (writable : Bool) (es : Properties Value) : Type 0 where
  pub is : property length_name es ≡ Some (length_property n writable)
  pub small : n < 2 ^ 32
  pub above : AreBelow n es

pub has_length : (n : ℕ) (w : Bool) (es : Properties Value) → IsLength n w es → HasLength es
has_length n w es l = record { length = n; writable = w; is = l.is; small = l.small; above = l.above }

pub is_length : (es : Properties Value) (h : HasLength es) → IsLength h.length h.writable es
is_length es h = record { is = h.is; small = h.small; above = h.above }

below_more : (n m : ℕ) → n ≤ m → (es : Properties Value) → AreBelow n es → AreBelow m es
below_more n m le es all =
    names-more (λ name. ForSome (index_of name) (λ i. i < n)) (λ name. ForSome (index_of name) (λ i. i < m)) (λ name below i is. let less : i < n = below i is in omega arith) es all

-- another property comes, whose name is no array index at or past the length
other_kept : (n : ℕ) (w : Bool) (name : List ℕ) (p : Property Value) (es : Properties Value) → IsLength n w es → same_name length_name name ≡ false → ForSome (index_of name) (λ i. i < n)
    → IsLength n w (with_property name p es)
other_kept n w name p es l other below = record {
  is = property-with length_name name p es ∙ ap (λ b. cond b (Some p) (property length_name es)) other ∙ l.is;
  small = l.small;
  above = names-with (λ name. ForSome (index_of name) (λ i. i < n)) name p es below l.above;
}

-- the `length` itself is this one
index_less : (n : ℕ) → ForSome (index_of length_name) (λ i. i < n)
index_less n i is = let never : ⊥ = let none = no_index-length in cc in absurd never

pub length_set : (n : ℕ) (w : Bool) (es : Properties Value) → n < 2 ^ 32 → AreBelow n es → IsLength n w (with_property length_name (length_property n w) es)
length_set n w es small above = record {
  is = property-with length_name length_name (length_property n w) es;
  small = small;
  above = names-with (λ name. ForSome (index_of name) (λ i. i < n)) length_name (length_property n w) es (index_less n) above;
}

length_written : (n m : ℕ) (w : Bool) (es : Properties Value) → property length_name es ≡ Some (length_property n w) → m < 2 ^ 32 → AreBelow m es
    → IsLength m w (with_value length_name (written m) es)
length_written n m w es is small above =
    subst (IsLength m w) (sym (ap (λ r. option_map_or (λ (p : Property Value). with_property length_name (record p { value = written m }) es) r es) is))
    (length_set m w es small above)

-- ---- a length is set

pub length_kept : (n m : ℕ) (w : Bool) (es : Properties Value) → IsLength n w es → m < 2 ^ 32 → IsLength (least_length m es) w (with_length stored written m es).props
length_kept n m w es l small =
    let least = least_length m es in
    length_written n least w (kept_below least es) (property-below length_name least es (ap (λ r. option_map_or (λ i. nat_lt i least) r true) no_index-length) ∙ l.is) (least_length_small m es small) (names-below least es)

-- ---- an element comes

pub length_read : (n : ℕ) (w : Bool) (es : Properties Value) → IsLength n w es → array_length stored written es ≡ n
length_read n w es l =
    let less : nat_lt n 4294967296 ≡ true = let small : n < 4294967296 = l.small in grind (arith, nat_tests) in
    ap (λ r. option_map_or (λ (p : Property Value). stored p.value) r 0) l.is ∙ ap (λ b. option_map_or (λ k. k) (cond b (Some n) None) 0) less

element_apart : (name : List ℕ) (i : ℕ) → index_of name ≡ Some i → same_name length_name name ≡ false
element_apart name i is = other_by index_of length_name name (λ same. let none = no_index-length in cc)

-- one that stands below the length, whatever its property is
pub inside_kept : (n i : ℕ) (w : Bool) (name : List ℕ) (p : Property Value) (es : Properties Value) → IsLength n w es → index_of name ≡ Some i → i < n → IsLength n w (with_property name p es)
inside_kept n i w name p es l is less = other_kept n w name p es l (element_apart name i is) (λ k found. let same : i ≡ k = cc in omega arith)

-- and one at or past it, which makes the array longer
pub past_kept : (n i : ℕ) (w : Bool) (name : List ℕ) (p : Property Value) (es : Properties Value) → IsLength n w es → index_of name ≡ Some i → n ≤ i
    → IsLength (i + 1) w (lengthened stored written i (with_property name p es))
past_kept n i w name p es l is past =
    length_written n (i + 1) w (with_property name p es)
    (property-with length_name name p es ∙ ap (λ b. cond b (Some p) (property length_name es)) (element_apart name i is) ∙ l.is)
    (index_small name i is)
    (names-with (λ name. ForSome (index_of name) (λ k. k < i + 1)) name p es (λ k found. let same : i ≡ k = cc in omega arith) (below_more n (i + 1) (omega arith) es l.above))

-- a name that is no array index
pub plain_kept : (n : ℕ) (w : Bool) (name : List ℕ) (p : Property Value) (es : Properties Value) → IsLength n w es → same_name name length_name ≡ false → index_of name ≡ None → IsLength n w (with_property name p es)
plain_kept n w name p es l other none = other_kept n w name p es l (other_way name length_name other) (λ i is. cc)

-- ---- put

module _ (n : ℕ) (w : Bool) (es : Properties Value) (l : IsLength n w es) where
  kept : HasLength es
  kept = has_length n w es l

  element_put : (name : List ℕ) (i : ℕ) (v : Value) (b c : Bool) → index_of name ≡ Some i → nat_lt i (array_length stored written es) ≡ b
      → HasLength (cond b (done (with_put name v es)) (cond c (refused es ReadOnly) (done (lengthened stored written i (with_put name v es))))).props
  element_put name i v true c is less =
      let within : i < n = ltb-true i n (ap (nat_lt i) (sym (length_read n w es l)) ∙ less) in
      has_length n w (with_put name v es) (inside_kept n i w name (record { value = v; flags = unwrap_or (flags_of name es) all_flags }) es l is within)
  element_put name i v false true is less = kept
  element_put name i v false false is less =
      let past : n ≤ i = ltb-false i n (ap (nat_lt i) (sym (length_read n w es l)) ∙ less) in
      has_length (i + 1) w (lengthened stored written i (with_put name v es)) (past_kept n i w name (record { value = v; flags = unwrap_or (flags_of name es) all_flags }) es l is past)

  index_put : (name : List ℕ) (v : Value) (r : Option ℕ) → same_name name length_name ≡ false → index_of name ≡ r
      → HasLength (option_map_or (λ i. put_element stored written name i v es) r (done (with_put name v es))).props
  index_put name v None other is = has_length n w (with_put name v es) (plain_kept n w name (record { value = v; flags = unwrap_or (flags_of name es) all_flags }) es l other is)
  index_put name v (Some i) other is = element_put name i v (nat_lt i (array_length stored written es)) (has_fixed_length es) is refl

  length_put : (length : Option ℕ) → ForSome length (λ m. m < 2 ^ 32) → HasLength (option_map_or (λ m. with_length stored written m es) length (refused es BadLength)).props
  length_put None small = kept
  length_put (Some m) small = has_length (least_length m es) w (with_length stored written m es).props (length_kept n m w es l (small m refl))

  array_put : (length : Option ℕ) (name : List ℕ) (v : Value) (b : Bool) → ForSome length (λ m. m < 2 ^ 32) → same_name name length_name ≡ b
      → HasLength (cond b (option_map_or (λ m. with_length stored written m es) length (refused es BadLength))
      (option_map_or (λ i. put_element stored written name i v es) (index_of name) (done (with_put name v es)))).props
  array_put length name v true small is = length_put length small
  array_put length name v false small is = index_put name v (index_of name) is refl

  put_tried : (length : Option ℕ) (name : List ℕ) (v : Value) (r : Option Cause) → ForSome length (λ m. m < 2 ^ 32)
      → HasLength (option_map_or (λ cause. refused es cause) r (put_in_array stored written length name v es)).props
  put_tried length name v None small = array_put length name v (same_name name length_name) small refl
  put_tried length name v (Some cause) small = kept

-- after a put
pub put_keeps : (length : Option ℕ) (class : Class) (extensible : Bool) (nearest : Option Flags) (name : List ℕ) (v : Value) (es : Properties Value)
    → ForSome length (λ m. m < 2 ^ 32) → class ≡ Array → HasLength es → HasLength (put stored written length class extensible nearest name v es).props
put_keeps length class extensible nearest name v es small is_array h =
    subst (λ (class : Class). HasLength (put stored written length class extensible nearest name v es).props) (sym is_array)
    (put_tried h.length h.writable es (is_length es h) length name v (put_refusal nearest (is_some (property name es)) extensible) small)

-- ---- delete

-- after a deletion
pub delete_keeps : (name : List ℕ) (es : Properties Value) → HasLength es → HasLength (delete name es).props
delete_keeps name es h = by (same_name name length_name) refl
  where
    removed : same_name name length_name ≡ false → HasLength (without_property name es)
    removed other = has_length h.length h.writable (without_property name es) (record {
      is = property-without length_name name es (other_way name length_name other) ∙ h.is;
      small = h.small;
      above = names-without (λ name. ForSome (index_of name) (λ i. i < h.length)) name es h.above;
    })

    found : (b : Bool) → same_name name length_name ≡ false → HasLength (cond b (done (without_property name es)) (refused es NotConfigurable)).props
    found true other = removed other
    found false other = h

    flagged : (r : Option Flags) → same_name name length_name ≡ false
        → HasLength (option_map_or (λ (flags : Flags). if flags.configurable then done (without_property name es) else refused es NotConfigurable) r (done es)).props
    flagged None other = h
    flagged (Some flags) other = found flags.configurable other

    fixed : name ≡ length_name → HasLength (delete name es).props
    fixed same =
        subst (λ n. HasLength (delete n es).props) (sym same)
        (subst (λ (r : Option (Property Value)). HasLength (option_map_or (λ (flags : Flags). if flags.configurable then done (without_property length_name es) else refused es NotConfigurable) (option_map (λ p. p.flags) r) (done es)).props) (sym h.is) h)

    by : (b : Bool) → same_name name length_name ≡ b → HasLength (delete name es).props
    by true is = fixed (same_by name length_name is)
    by false is = flagged (flags_of name es) is

-- ---- a new object

-- of a new array
pub first_keeps : (class : Class) → class ≡ Array → HasLength (first_props written class)
first_keeps class is_array =
    subst (λ (class : Class). HasLength (first_props written class)) (sym is_array)
    (record { length = 0; writable = true; is = refl; small = omega arith; above = (index_less 0, tt) })
