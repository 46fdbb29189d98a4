-- The `length` of an array stays above each of its elements where a property is defined (ECMA-262 5.1 §15.4.5.1).
use Rattle.std.proofs.Common.{◌≡◌, ℕ, ◌+◌, ◌<◌, ◌≤◌, ◌^◌, List, Option, Some, None, Bool, true, false, cond, ◌||◌, nat_lt, ap, refl, sym, ◌∙◌, subst, pos}
use Rattle.std.proofs.lemmas.Bool.{ltb-true, ltb-false}
use Rattle.std.specs.Option.{option_map_or, option_map, unwrap_or, ForSome}
use Rattle.njs_value.specs.declared.Cause.{Cause}
use Rattle.njs_value.specs.declared.Cause.TheVariants.{ReadOnly, NotConfigurable, BadLength}
use Rattle.njs_value.specs.declared.Class.{Class}
use Rattle.njs_value.specs.declared.Class.TheVariants.{Array}
use Rattle.njs_value.specs.declared.Desc.{Desc}
use Rattle.njs_value.specs.declared.Flags.{Flags}
use Rattle.njs_value.specs.declared.Value.{Value}
use Rattle.njs_value.specs.declared.Value.TheVariants.{Num}
use Rattle.njs_props.specs.declared.map.Property.{Property}
use Rattle.njs_props.specs.Names.{length_name, index_of, same_name}
use Rattle.njs_props.specs.Props.{property, with_property, with_flags}
use Rattle.njs_shared.specs.Lengths.{HasLength, length_property}
use Rattle.njs_meaning.specs.Properties.{Properties, Change, done, refused, asks, differs, flags_of, define_refusal, changed_flags, defined, with_defined, define_plain}
use Rattle.njs_meaning.specs.Arrays.{least_length, array_length, has_fixed_length, with_given_flags, with_length, lengthened, define_past, define_element, define_length_value, define_length}
use Rattle.njs_meaning.specs.Objects.{define}
use Rattle.njs_clone.specs.Content.{stored, written}
use Rattle.njs_clone.proofs.OtherNames.{same_by}
use Rattle.njs_clone.proofs.Lengths.{IsLength, has_length, is_length, length_set, length_kept, length_read, inside_kept, past_kept, plain_kept}

-- ---- the flags of a `length`

abbrev flags_as : Bool → Bool → Bool → Flags
flags_as writable enumerable configurable = record { writable = writable; enumerable = enumerable; configurable = configurable }

abbrev fixed : Bool → Flags
fixed writable = flags_as writable false false

abbrev property_as : Value → Flags → Property Value
property_as value flags = record { value = value; flags = flags }

not_refused : (a b c : Bool) → cond (a || b || c) (Some NotConfigurable) None ≡ None → (a ≡ false) × (b ≡ false)
not_refused true b c e = cc
not_refused false true c e = cc
not_refused false false c e = (refl, refl)

same_flag : (given : Option Bool) → differs given false ≡ false → unwrap_or given false ≡ false
same_flag None e = refl
same_flag (Some true) e = cc
same_flag (Some false) e = refl

-- a definition that is not refused leaves them neither enumerable nor configurable
stay_fixed : (extensible other writable : Bool) (d : Desc Value) → define_refusal extensible (Some (fixed writable)) d other ≡ None → changed_flags d (fixed writable) ≡ fixed (unwrap_or d.writable writable)
stay_fixed extensible other writable d e =
    let parts = not_refused (asks d.configurable) (differs d.enumerable false) _ e in
    ap (λ b. flags_as (unwrap_or d.writable writable) b (unwrap_or d.configurable false)) (same_flag d.enumerable parts.1)
    ∙ ap (λ b. flags_as (unwrap_or d.writable writable) false b) parts.0

module _ (n : ℕ) (w : Bool) (es : Properties Value) (l : IsLength n w es) (missing : Value) (extensible other : Bool) (d : Desc Value) where
  kept : HasLength es
  kept = has_length n w es l

  -- ---- another property

  plain_tried : (name : List ℕ) (r : Option Cause) → HasLength (with_defined missing name d es) → HasLength (option_map_or (λ cause. refused es cause) r (done (with_defined missing name d es))).props
  plain_tried name None h = h
  plain_tried name (Some cause) h = kept

  past_tried : (name : List ℕ) (i : ℕ) (r : Option Cause) → index_of name ≡ Some i → n ≤ i
      → HasLength (option_map_or (λ cause. refused es cause) r (done (lengthened stored written i (with_defined missing name d es)))).props
  past_tried name i None is past =
      has_length (i + 1) w (lengthened stored written i (with_defined missing name d es)) (past_kept n i w name (defined missing d (property name es)) es l is past)
  past_tried name i (Some cause) is past = kept

  element_defined : (name : List ℕ) (i : ℕ) (b c : Bool) → index_of name ≡ Some i → nat_lt i (array_length stored written es) ≡ b
      → HasLength (cond b (define_plain missing extensible other name d es) (cond c (refused es ReadOnly) (define_past stored written missing extensible other name i d es))).props
  element_defined name i true c is less =
      plain_tried name (define_refusal extensible (flags_of name es) d other)
      (has_length n w (with_defined missing name d es) (inside_kept n i w name (defined missing d (property name es)) es l is (ltb-true i n (ap (nat_lt i) (sym (length_read n w es l)) ∙ less))))
  element_defined name i false true is less = kept
  element_defined name i false false is less =
      past_tried name i (define_refusal extensible (flags_of name es) d other) is (ltb-false i n (ap (nat_lt i) (sym (length_read n w es l)) ∙ less))

  index_defined : (name : List ℕ) (r : Option ℕ) → same_name name length_name ≡ false → index_of name ≡ r
      → HasLength (option_map_or (λ i. define_element stored written missing extensible other name i d es) r (define_plain missing extensible other name d es)).props
  index_defined name None apart is =
      plain_tried name (define_refusal extensible (flags_of name es) d other)
      (has_length n w (with_defined missing name d es) (plain_kept n w name (defined missing d (property name es)) es l apart is))
  index_defined name (Some i) apart is = element_defined name i (nat_lt i (array_length stored written es)) (has_fixed_length es) is refl

  -- ---- the `length`

  -- its flags are those of a definition
  flags_stay : define_refusal extensible (flags_of length_name es) d other ≡ None → changed_flags d (fixed w) ≡ fixed (unwrap_or d.writable w)
  flags_stay e =
      let flags : flags_of length_name es ≡ Some (fixed w) = ap (option_map (λ p. p.flags)) l.is in
      stay_fixed extensible other w d (ap (λ r. define_refusal extensible r d other) (sym flags) ∙ e)

  own_defined : d.value ≡ None → changed_flags d (fixed w) ≡ fixed (unwrap_or d.writable w) → HasLength (with_defined missing length_name d es)
  own_defined no_value flags =
      let m = unwrap_or d.writable w in
      let same : defined missing d (property length_name es) ≡ length_property n m =
      ap (defined missing d) l.is ∙ ap (λ v. property_as (unwrap_or v (Num (pos n))) (changed_flags d (fixed w))) no_value ∙ ap (property_as (Num (pos n))) flags
      in
      subst (λ p. HasLength (with_property length_name p es)) (sym same) (has_length n m (with_property length_name (length_property n m) es) (length_set n m es l.small l.above))

  own_tried : (r : Option Cause) → define_refusal extensible (flags_of length_name es) d other ≡ r → d.value ≡ None
      → HasLength (option_map_or (λ cause. refused es cause) r (done (with_defined missing length_name d es))).props
  own_tried None e no_value = own_defined no_value (flags_stay e)
  own_tried (Some cause) e no_value = kept

  given_flags : (m : ℕ) (change : Change Value) (r : Option Cause) → IsLength m w change.props → changed_flags d (fixed w) ≡ fixed (unwrap_or d.writable w)
      → HasLength (option_map_or (λ cause. change) r (done (option_map_or (λ flags. with_flags length_name (changed_flags d flags) change.props) (flags_of length_name change.props) change.props))).props
  given_flags m change (Some cause) after flags = has_length m w change.props after
  given_flags m change None after flags =
      let ps = change.props in
      let v = unwrap_or d.writable w in
      subst HasLength (sym
      (ap (λ r. option_map_or (λ (flags : Flags). with_flags length_name (changed_flags d flags) ps) (option_map (λ p. p.flags) r) ps) after.is
      ∙ ap (λ r. option_map_or (λ (p : Property Value). with_property length_name (record p { flags = changed_flags d (fixed w) }) ps) r ps) after.is
      ∙ ap (λ f. with_property length_name (property_as (Num (pos m)) f) ps) flags))
      (has_length m v (with_property length_name (length_property m v) ps) (length_set m v ps after.small after.above))

  flags_given : (m : ℕ) → m < 2 ^ 32 → changed_flags d (fixed w) ≡ fixed (unwrap_or d.writable w) → HasLength (with_given_flags length_name d (with_length stored written m es)).props
  flags_given m small flags = given_flags (least_length m es) (with_length stored written m es) (with_length stored written m es).thrown (length_kept n m w es l small) flags

  value_tried : (length : Option ℕ) (r : Option Cause) → define_refusal extensible (flags_of length_name es) d other ≡ r → ForSome length (λ m. m < 2 ^ 32)
      → HasLength (option_map_or (λ cause. refused es cause) r (option_map_or (λ m. with_given_flags length_name d (with_length stored written m es)) length (refused es BadLength))).props
  value_tried None None e small = kept
  value_tried (Some m) None e small = flags_given m (small m refl) (flags_stay e)
  value_tried length (Some cause) e small = kept

  length_defined : (length : Option ℕ) (v : Option Value) → d.value ≡ v → ForSome length (λ m. m < 2 ^ 32)
      → HasLength (option_map_or (λ v. define_length_value stored written missing extensible other length length_name d es) v (define_plain missing extensible other length_name d es)).props
  length_defined length None e small = own_tried (define_refusal extensible (flags_of length_name es) d other) refl e
  length_defined length (Some v) e small = value_tried length (define_refusal extensible (flags_of length_name es) d other) refl small

  array_defined : (length : Option ℕ) (name : List ℕ) (b : Bool) → ForSome length (λ m. m < 2 ^ 32) → same_name name length_name ≡ b
      → HasLength (cond b (define_length stored written missing extensible other length name d es)
      (option_map_or (λ i. define_element stored written missing extensible other name i d es) (index_of name) (define_plain missing extensible other name d es))).props
  array_defined length name true small is =
      subst (λ name. HasLength (define_length stored written missing extensible other length name d es).props) (sym (same_by name length_name is)) (length_defined length d.value refl small)
  array_defined length name false small is = index_defined name (index_of name) is refl

-- after a definition
pub define_keeps : (missing : Value) (length : Option ℕ) (other : Bool) (class : Class) (extensible : Bool) (name : List ℕ) (d : Desc Value) (es : Properties Value)
    → ForSome length (λ m. m < 2 ^ 32) → class ≡ Array → HasLength es → HasLength (define stored written missing length other class extensible name d es).props
define_keeps missing length other class extensible name d es small is_array h =
    subst (λ (class : Class). HasLength (define stored written missing length other class extensible name d es).props) (sym is_array)
    (array_defined h.length h.writable es (is_length es h) missing extensible other d length name (same_name name length_name) small refl)
