-- The operations on one object commute with a map of the values.
use Rattle.std.proofs.Common.{◌≡◌, ℕ, ◌+◌, List, [], ◌∷◌, Option, Some, None, Bool, true, false, cond, ap, refl, ◌∙◌, is_some, max, nat_lt, ◌==◌, not, unwrap_or, if◌then◌else◌}
use Rattle.std.specs.Option.{option_map, option_map_or}
use Rattle.njs_value.specs.declared.Flags.{Flags}
use Rattle.njs_value.specs.declared.Class.{Class}
use Rattle.njs_value.specs.declared.Cause.{Cause}
use Rattle.njs_value.specs.declared.Cause.TheVariants.{ReadOnly, NotConfigurable, BadLength}
use Rattle.njs_value.specs.declared.Desc.{Desc}
use Rattle.njs_props.specs.declared.map.Property.{Property}
use Rattle.njs_props.specs.Names.{length_name, index_of, is_below, same_name}
use Rattle.njs_props.specs.Props.{property, names_of, with_property, without_property, with_value, with_flags, kept_below}
use Rattle.njs_meaning.specs.Properties.{Properties, Change, done, refused, all_flags, flags_of, with_put, put_refusal, define_refusal, changed_flags, defined, with_defined, define_plain, delete}
use Rattle.njs_meaning.specs.Arrays.{least_length, array_length, has_fixed_length, with_given_flags, with_length, lengthened, put_element, put_in_array, define_past, define_element, define_length_value, define_length, define_in_array}
use Rattle.njs_meaning.specs.Objects.{is_array, put, define, first_props}
use Rattle.njs_clone.specs.StandsFor.{mapped, mapped_all, mapped_change, mapped_desc}

abbrev change_of : {V : Type 0} → Option Cause → Properties V → Change V
change_of thrown props = record { props = props; thrown = thrown }

module _ {V W : Type 0} (f : V → W) where
  pub property-mapped : (name : List ℕ) (es : Properties V) → property name (mapped_all f es) ≡ option_map (mapped f) (property name es)
  property-mapped name [] = refl
  property-mapped name (e ∷ es) = by (same_name name e.0) (property-mapped name es)
    where
      by : (b : Bool) → property name (mapped_all f es) ≡ option_map (mapped f) (property name es)
          → cond b (Some (mapped f e.1)) (property name (mapped_all f es)) ≡ option_map (mapped f) (cond b (Some e.1) (property name es))
      by true rest = refl
      by false rest = rest

  pub names_of-mapped : (es : Properties V) → names_of (mapped_all f es) ≡ names_of es
  names_of-mapped [] = refl
  names_of-mapped (e ∷ es) = ap (λ t. e.0 ∷ t) (names_of-mapped es)

  pub with_property-mapped : (name : List ℕ) (p : Property V) (es : Properties V) → with_property name (mapped f p) (mapped_all f es) ≡ mapped_all f (with_property name p es)
  with_property-mapped name p [] = refl
  with_property-mapped name p (e ∷ es) = by (same_name name e.0) (with_property-mapped name p es)
    where
      by : (b : Bool) → with_property name (mapped f p) (mapped_all f es) ≡ mapped_all f (with_property name p es)
          → cond b ((e.0, mapped f p) ∷ mapped_all f es) ((e.0, mapped f e.1) ∷ with_property name (mapped f p) (mapped_all f es)) ≡ mapped_all f (cond b ((e.0, p) ∷ es) (e ∷ with_property name p es))
      by true rest = refl
      by false rest = ap (λ t. (e.0, mapped f e.1) ∷ t) rest

  without_property-mapped : (name : List ℕ) (es : Properties V) → without_property name (mapped_all f es) ≡ mapped_all f (without_property name es)
  without_property-mapped name [] = refl
  without_property-mapped name (e ∷ es) = by (same_name name e.0) (without_property-mapped name es)
    where
      by : (b : Bool) → without_property name (mapped_all f es) ≡ mapped_all f (without_property name es)
          → cond b (mapped_all f es) ((e.0, mapped f e.1) ∷ without_property name (mapped_all f es)) ≡ mapped_all f (cond b es (e ∷ without_property name es))
      by true rest = refl
      by false rest = ap (λ t. (e.0, mapped f e.1) ∷ t) rest

  kept_below-mapped : (n : ℕ) (es : Properties V) → kept_below n (mapped_all f es) ≡ mapped_all f (kept_below n es)
  kept_below-mapped n [] = refl
  kept_below-mapped n (e ∷ es) = by (is_below n e.0) (kept_below-mapped n es)
    where
      by : (b : Bool) → kept_below n (mapped_all f es) ≡ mapped_all f (kept_below n es)
          → cond b ((e.0, mapped f e.1) ∷ kept_below n (mapped_all f es)) (kept_below n (mapped_all f es)) ≡ mapped_all f (cond b (e ∷ kept_below n es) (kept_below n es))
      by true rest = ap (λ t. (e.0, mapped f e.1) ∷ t) rest
      by false rest = rest

  least_length-mapped : (n : ℕ) (es : Properties V) → least_length n (mapped_all f es) ≡ least_length n es
  least_length-mapped n [] = refl
  least_length-mapped n (e ∷ es) = least_length-mapped (if e.1.flags.configurable then n else max n (option_map_or (λ i. i + 1) (index_of e.0) 0)) es

  -- ---- flags

  flags_same : (r : Option (Property V)) → option_map (λ p. p.flags) (option_map (mapped f) r) ≡ option_map (λ p. p.flags) r
  flags_same None = refl
  flags_same (Some p) = refl

  pub flags_of-mapped : (name : List ℕ) (es : Properties V) → flags_of name (mapped_all f es) ≡ flags_of name es
  flags_of-mapped name es = ap (option_map (λ (p : Property W). p.flags)) (property-mapped name es) ∙ flags_same (property name es)

  there_same : (r : Option (Property V)) → is_some (option_map (mapped f) r) ≡ is_some r
  there_same None = refl
  there_same (Some p) = refl

  fixed-mapped : (es : Properties V) → has_fixed_length (mapped_all f es) ≡ has_fixed_length es
  fixed-mapped es = ap (λ r. option_map_or (λ (flags : Flags). not flags.writable) r false) (flags_of-mapped length_name es)

  -- ---- writes

  with_put-mapped : (name : List ℕ) (v : V) (es : Properties V) → with_put name (f v) (mapped_all f es) ≡ mapped_all f (with_put name v es)
  with_put-mapped name v es =
      ap (λ r. with_property name (record { value = f v; flags = unwrap_or r all_flags }) (mapped_all f es)) (flags_of-mapped name es)
      ∙ with_property-mapped name (record { value = v; flags = unwrap_or (flags_of name es) all_flags }) es

  with_value-mapped : (name : List ℕ) (v : V) (es : Properties V) → with_value name (f v) (mapped_all f es) ≡ mapped_all f (with_value name v es)
  with_value-mapped name v es =
      ap (λ r. option_map_or (λ (p : Property W). with_property name (record p { value = f v }) (mapped_all f es)) r (mapped_all f es)) (property-mapped name es) ∙ by (property name es)
    where
      by : (r : Option (Property V)) → option_map_or (λ (p : Property W). with_property name (record p { value = f v }) (mapped_all f es)) (option_map (mapped f) r) (mapped_all f es)
          ≡ mapped_all f (option_map_or (λ (p : Property V). with_property name (record p { value = v }) es) r es)
      by None = refl
      by (Some p) = with_property-mapped name (record p { value = v }) es

  with_flags-mapped : (name : List ℕ) (flags : Flags) (es : Properties V) → with_flags name flags (mapped_all f es) ≡ mapped_all f (with_flags name flags es)
  with_flags-mapped name flags es =
      ap (λ r. option_map_or (λ (p : Property W). with_property name (record p { flags = flags }) (mapped_all f es)) r (mapped_all f es)) (property-mapped name es) ∙ by (property name es)
    where
      by : (r : Option (Property V)) → option_map_or (λ (p : Property W). with_property name (record p { flags = flags }) (mapped_all f es)) (option_map (mapped f) r) (mapped_all f es)
          ≡ mapped_all f (option_map_or (λ (p : Property V). with_property name (record p { flags = flags }) es) r es)
      by None = refl
      by (Some p) = with_property-mapped name (record p { flags = flags }) es

  done-mapped : (es : Properties W) (fs : Properties V) → es ≡ mapped_all f fs → done es ≡ mapped_change f (done fs)
  done-mapped es fs same = ap (λ ps. done ps) same

  -- what is refused, else something that is mapped
  refusal_mapped : (es : Properties V) (r : Option Cause) (x : Change W) (y : Change V) → x ≡ mapped_change f y
      → option_map_or (λ cause. refused (mapped_all f es) cause) r x ≡ mapped_change f (option_map_or (λ cause. refused es cause) r y)
  refusal_mapped es None x y same = same
  refusal_mapped es (Some cause) x y same = refl

  truth_mapped : (b : Bool) (x u : Change W) (y w : Change V) → x ≡ mapped_change f y → u ≡ mapped_change f w → cond b x u ≡ mapped_change f (cond b y w)
  truth_mapped true x u y w same other = same
  truth_mapped false x u y w same other = other

  option_mapped : {A : Type 0} (r : Option A) (x : A → Change W) (y : A → Change V) (u : Change W) (w : Change V) → ((a : A) → x a ≡ mapped_change f (y a)) → u ≡ mapped_change f w
      → option_map_or x r u ≡ mapped_change f (option_map_or y r w)
  option_mapped None x y u w some none = none
  option_mapped (Some a) x y u w some none = some a

  -- ---- deletion

  pub delete-mapped : (name : List ℕ) (es : Properties V) → delete name (mapped_all f es) ≡ mapped_change f (delete name es)
  delete-mapped name es =
      ap (λ r. option_map_or (λ (flags : Flags). if flags.configurable then done (without_property name (mapped_all f es)) else refused (mapped_all f es) NotConfigurable) r (done (mapped_all f es))) (flags_of-mapped name es)
      ∙ option_mapped (flags_of name es) _ (λ (flags : Flags). if flags.configurable then done (without_property name es) else refused es NotConfigurable) _ (done es)
      (λ flags. truth_mapped flags.configurable _ _ _ _ (done-mapped _ _ (without_property-mapped name es)) refl) refl

  module _ (stored : V → ℕ) (stored' : W → ℕ) (same_stored : (v : V) → stored' (f v) ≡ stored v) (written : ℕ → V) (written' : ℕ → W) (same_written : (n : ℕ) → written' n ≡ f (written n)) where
    length_same : (r : Option (Property V)) → option_map_or (λ p. stored' p.value) (option_map (mapped f) r) 0 ≡ option_map_or (λ p. stored p.value) r 0
    length_same None = refl
    length_same (Some p) = same_stored p.value

    length-mapped : (es : Properties V) → array_length stored' written' (mapped_all f es) ≡ array_length stored written es
    length-mapped es = ap (λ r. option_map_or (λ (p : Property W). stored' p.value) r 0) (property-mapped length_name es) ∙ length_same (property length_name es)

    with_written : (n : ℕ) (es : Properties V) → with_value length_name (written' n) (mapped_all f es) ≡ mapped_all f (with_value length_name (written n) es)
    with_written n es = ap (λ v. with_value length_name v (mapped_all f es)) (same_written n) ∙ with_value-mapped length_name (written n) es

    lengthened-mapped : (i : ℕ) (ws : Properties W) (es : Properties V) → ws ≡ mapped_all f es → lengthened stored' written' i ws ≡ mapped_all f (lengthened stored written i es)
    lengthened-mapped i ws es same = ap (λ ps. lengthened stored' written' i ps) same ∙ with_written (i + 1) es

    -- the array with its length set to m, where n was asked for
    abbrev set_to : ℕ → Properties V → ℕ → Change V
    set_to n es m = record { props = with_value length_name (written m) (kept_below m es); thrown = if m == n then None else Some NotConfigurable }

    abbrev set_to' : ℕ → Properties W → ℕ → Change W
    set_to' n ws m = record { props = with_value length_name (written' m) (kept_below m ws); thrown = if m == n then None else Some NotConfigurable }

    set_mapped : (n m : ℕ) (es : Properties V) → set_to' n (mapped_all f es) m ≡ mapped_change f (set_to n es m)
    set_mapped n m es =
        ap (change_of (if m == n then None else Some NotConfigurable))
        (ap (λ ps. with_value length_name (written' m) ps) (kept_below-mapped m es) ∙ with_written m (kept_below m es))

    with_length-mapped : (n : ℕ) (es : Properties V) → with_length stored' written' n (mapped_all f es) ≡ mapped_change f (with_length stored written n es)
    with_length-mapped n es = ap (set_to' n (mapped_all f es)) (least_length-mapped n es) ∙ set_mapped n (least_length n es) es

    element_mapped : (name : List ℕ) (i : ℕ) (v : V) (es : Properties V) → put_element stored' written' name i (f v) (mapped_all f es) ≡ mapped_change f (put_element stored written name i v es)
    element_mapped name i v es =
        ap (λ n. if nat_lt i n then done (with_put name (f v) (mapped_all f es)) else if has_fixed_length (mapped_all f es) then refused (mapped_all f es) ReadOnly else done (lengthened stored' written' i (with_put name (f v) (mapped_all f es)))) (length-mapped es)
        ∙ ap (λ b. if nat_lt i (array_length stored written es) then done (with_put name (f v) (mapped_all f es)) else if b then refused (mapped_all f es) ReadOnly else done (lengthened stored' written' i (with_put name (f v) (mapped_all f es)))) (fixed-mapped es)
        ∙ truth_mapped (nat_lt i (array_length stored written es)) _ _ (done (with_put name v es)) (if has_fixed_length es then refused es ReadOnly else done (lengthened stored written i (with_put name v es)))
        (done-mapped _ _ (with_put-mapped name v es))
        (truth_mapped (has_fixed_length es) _ _ (refused es ReadOnly) (done (lengthened stored written i (with_put name v es))) refl
        (done-mapped _ _ (lengthened-mapped i _ _ (with_put-mapped name v es))))

    array_mapped : (length : Option ℕ) (name : List ℕ) (v : V) (es : Properties V) → put_in_array stored' written' length name (f v) (mapped_all f es) ≡ mapped_change f (put_in_array stored written length name v es)
    array_mapped length name v es =
        truth_mapped (same_name name length_name) _ _
        (option_map_or (λ n. with_length stored written n es) length (refused es BadLength))
        (option_map_or (λ i. put_element stored written name i v es) (index_of name) (done (with_put name v es)))
        (option_mapped length _ (λ n. with_length stored written n es) _ (refused es BadLength) (λ n. with_length-mapped n es) refl)
        (option_mapped (index_of name) _ (λ i. put_element stored written name i v es) _ (done (with_put name v es)) (λ i. element_mapped name i v es) (done-mapped _ _ (with_put-mapped name v es)))

    pub put-mapped : (length : Option ℕ) (class : Class) (extensible : Bool) (nearest : Option Flags) (name : List ℕ) (v : V) (es : Properties V)
        → put stored' written' length class extensible nearest name (f v) (mapped_all f es) ≡ mapped_change f (put stored written length class extensible nearest name v es)
    put-mapped length class extensible nearest name v es =
        ap (λ b. option_map_or (λ cause. refused (mapped_all f es) cause) (put_refusal nearest b extensible)
        (if is_array class then put_in_array stored' written' length name (f v) (mapped_all f es) else done (with_put name (f v) (mapped_all f es))))
        (ap (λ r. is_some r) (property-mapped name es) ∙ there_same (property name es))
        ∙ refusal_mapped es (put_refusal nearest (is_some (property name es)) extensible) _ (if is_array class then put_in_array stored written length name v es else done (with_put name v es))
        (truth_mapped (is_array class) _ _ (put_in_array stored written length name v es) (done (with_put name v es)) (array_mapped length name v es) (done-mapped _ _ (with_put-mapped name v es)))

    pub first_props-mapped : (class : Class) → first_props written' class ≡ mapped_all f (first_props written class)
    first_props-mapped class = by (is_array class)
      where
        by : (b : Bool) → cond b ((length_name, record { value = written' 0; flags = record { writable = true; enumerable = false; configurable = false } }) ∷ []) []
            ≡ mapped_all f (cond b ((length_name, record { value = written 0; flags = record { writable = true; enumerable = false; configurable = false } }) ∷ []) [])
        by true = ap (λ v. (length_name, record { value = v; flags = record { writable = true; enumerable = false; configurable = false } }) ∷ []) (same_written 0)
        by false = refl

    -- ---- definitions

    refusal_same : (extensible : Bool) (r : Option Flags) (d : Desc V) (other : Bool) → define_refusal extensible r (mapped_desc f d) other ≡ define_refusal extensible r d other
    refusal_same extensible None d other = refl
    refusal_same extensible (Some flags) d other = refl

    given_same : (r : Option V) (v : V) → unwrap_or (option_map f r) (f v) ≡ f (unwrap_or r v)
    given_same None v = refl
    given_same (Some w) v = refl

    module _ (missing : V) (missing' : W) (same_missing : missing' ≡ f missing) where
      defined-mapped : (d : Desc V) (r : Option (Property V)) → defined missing' (mapped_desc f d) (option_map (mapped f) r) ≡ mapped f (defined missing d r)
      defined-mapped d None = ap (λ v. record (mapped f (defined missing d None)) { value = v }) (ap (λ m. unwrap_or (option_map f d.value) m) same_missing ∙ given_same d.value missing)
      defined-mapped d (Some p) = ap (λ v. record (mapped f (defined missing d (Some p))) { value = v }) (given_same d.value p.value)

      with_defined-mapped : (name : List ℕ) (d : Desc V) (es : Properties V) → with_defined missing' name (mapped_desc f d) (mapped_all f es) ≡ mapped_all f (with_defined missing name d es)
      with_defined-mapped name d es =
          ap (λ r. with_property name (defined missing' (mapped_desc f d) r) (mapped_all f es)) (property-mapped name es)
          ∙ ap (λ p. with_property name p (mapped_all f es)) (defined-mapped d (property name es))
          ∙ with_property-mapped name (defined missing d (property name es)) es

      -- what Define's own tests leave
      tested : (extensible other : Bool) (name : List ℕ) (d : Desc V) (es : Properties V) (x : Change W) (y : Change V) → x ≡ mapped_change f y
          → option_map_or (λ cause. refused (mapped_all f es) cause) (define_refusal extensible (flags_of name (mapped_all f es)) (mapped_desc f d) other) x
          ≡ mapped_change f (option_map_or (λ cause. refused es cause) (define_refusal extensible (flags_of name es) d other) y)
      tested extensible other name d es x y same =
          ap (λ r. option_map_or (λ cause. refused (mapped_all f es) cause) r x)
          (ap (λ r. define_refusal extensible r (mapped_desc f d) other) (flags_of-mapped name es) ∙ refusal_same extensible (flags_of name es) d other)
          ∙ refusal_mapped es (define_refusal extensible (flags_of name es) d other) x y same

      plain_mapped : (extensible other : Bool) (name : List ℕ) (d : Desc V) (es : Properties V)
          → define_plain missing' extensible other name (mapped_desc f d) (mapped_all f es) ≡ mapped_change f (define_plain missing extensible other name d es)
      plain_mapped extensible other name d es =
          tested extensible other name d es _ (done (with_defined missing name d es)) (done-mapped _ _ (with_defined-mapped name d es))

      past_mapped : (extensible other : Bool) (name : List ℕ) (i : ℕ) (d : Desc V) (es : Properties V)
          → define_past stored' written' missing' extensible other name i (mapped_desc f d) (mapped_all f es) ≡ mapped_change f (define_past stored written missing extensible other name i d es)
      past_mapped extensible other name i d es =
          tested extensible other name d es _ (done (lengthened stored written i (with_defined missing name d es))) (done-mapped _ _ (lengthened-mapped i _ _ (with_defined-mapped name d es)))

      define_element_mapped : (extensible other : Bool) (name : List ℕ) (i : ℕ) (d : Desc V) (es : Properties V)
          → define_element stored' written' missing' extensible other name i (mapped_desc f d) (mapped_all f es) ≡ mapped_change f (define_element stored written missing extensible other name i d es)
      define_element_mapped extensible other name i d es =
          ap (λ n. if nat_lt i n then define_plain missing' extensible other name (mapped_desc f d) (mapped_all f es) else if has_fixed_length (mapped_all f es) then refused (mapped_all f es) ReadOnly
          else define_past stored' written' missing' extensible other name i (mapped_desc f d) (mapped_all f es)) (length-mapped es)
          ∙ ap (λ b. if nat_lt i (array_length stored written es) then define_plain missing' extensible other name (mapped_desc f d) (mapped_all f es) else if b then refused (mapped_all f es) ReadOnly
          else define_past stored' written' missing' extensible other name i (mapped_desc f d) (mapped_all f es)) (fixed-mapped es)
          ∙ truth_mapped (nat_lt i (array_length stored written es)) _ _ (define_plain missing extensible other name d es) (if has_fixed_length es then refused es ReadOnly else define_past stored written missing extensible other name i d es)
          (plain_mapped extensible other name d es)
          (truth_mapped (has_fixed_length es) _ _ (refused es ReadOnly) (define_past stored written missing extensible other name i d es) refl (past_mapped extensible other name i d es))

      flags_mapped : (name : List ℕ) (d : Desc V) (r : Option Cause) (s : Option Flags) (c : Change V)
          → option_map_or (λ cause. mapped_change f c) r (done (option_map_or (λ flags. with_flags name (changed_flags (mapped_desc f d) flags) (mapped_all f c.props)) s (mapped_all f c.props)))
          ≡ mapped_change f (option_map_or (λ cause. c) r (done (option_map_or (λ flags. with_flags name (changed_flags d flags) c.props) s c.props)))
      flags_mapped name d (Some cause) s c = refl
      flags_mapped name d None None c = refl
      flags_mapped name d None (Some flags) c = done-mapped _ _ (with_flags-mapped name (changed_flags d flags) c.props)

      given_flags_mapped : (name : List ℕ) (d : Desc V) (c : Change V) → with_given_flags name (mapped_desc f d) (mapped_change f c) ≡ mapped_change f (with_given_flags name d c)
      given_flags_mapped name d c =
          ap (λ s. option_map_or (λ cause. mapped_change f c) c.thrown (done (option_map_or (λ flags. with_flags name (changed_flags (mapped_desc f d) flags) (mapped_all f c.props)) s (mapped_all f c.props)))) (flags_of-mapped name c.props)
          ∙ flags_mapped name d c.thrown (flags_of name c.props) c

      length_value_mapped : (extensible other : Bool) (length : Option ℕ) (name : List ℕ) (d : Desc V) (es : Properties V)
          → define_length_value stored' written' missing' extensible other length name (mapped_desc f d) (mapped_all f es) ≡ mapped_change f (define_length_value stored written missing extensible other length name d es)
      length_value_mapped extensible other length name d es =
          tested extensible other name d es _ (option_map_or (λ n. with_given_flags name d (with_length stored written n es)) length (refused es BadLength))
          (option_mapped length _ (λ n. with_given_flags name d (with_length stored written n es)) _ (refused es BadLength)
          (λ n. ap (with_given_flags name (mapped_desc f d)) (with_length-mapped n es) ∙ given_flags_mapped name d (with_length stored written n es)) refl)

      by_value : (r : Option V) (x u : Change W) (y w : Change V) → x ≡ mapped_change f y → u ≡ mapped_change f w
          → option_map_or (λ v. x) (option_map f r) u ≡ mapped_change f (option_map_or (λ v. y) r w)
      by_value None x u y w same other = other
      by_value (Some v) x u y w same other = same

      define_array_mapped : (extensible other : Bool) (length : Option ℕ) (name : List ℕ) (d : Desc V) (es : Properties V)
          → define_in_array stored' written' missing' extensible other length name (mapped_desc f d) (mapped_all f es) ≡ mapped_change f (define_in_array stored written missing extensible other length name d es)
      define_array_mapped extensible other length name d es =
          truth_mapped (same_name name length_name) _ _ (define_length stored written missing extensible other length name d es)
          (option_map_or (λ i. define_element stored written missing extensible other name i d es) (index_of name) (define_plain missing extensible other name d es))
          (by_value d.value _ _ _ _ (length_value_mapped extensible other length name d es) (plain_mapped extensible other name d es))
          (option_mapped (index_of name) _ (λ i. define_element stored written missing extensible other name i d es) _ (define_plain missing extensible other name d es)
          (λ i. define_element_mapped extensible other name i d es) (plain_mapped extensible other name d es))

      pub define-mapped : (length : Option ℕ) (other : Bool) (class : Class) (extensible : Bool) (name : List ℕ) (d : Desc V) (es : Properties V)
          → define stored' written' missing' length other class extensible name (mapped_desc f d) (mapped_all f es) ≡ mapped_change f (define stored written missing length other class extensible name d es)
      define-mapped length other class extensible name d es =
          truth_mapped (is_array class) _ _ (define_in_array stored written missing extensible other length name d es) (define_plain missing extensible other name d es)
          (define_array_mapped extensible other length name d es) (plain_mapped extensible other name d es)
