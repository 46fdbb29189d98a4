-- What holds of each value of an object, and of a value that is put or defined, holds afterwards.
use Rattle.std.proofs.Common.{◌≡◌, ℕ, ◌+◌, ◌<◌, ◌^◌, List, [], ◌∷◌, Option, Some, None, Bool, true, false, cond, ◌&&◌, is_some, nat_lt, max, if◌then◌else◌, refl, subst, arith, ℤ, pos, negsuc}
use Rattle.std.proofs.lemmas.Bool.Decides.{nat_tests}
use Rattle.std.specs.List.{AllByRecursion}
use Rattle.std.specs.Option.{option_map_or, option_and_then, unwrap_or, ForSome}
use Rattle.std.specs.Str.Parse.{digits_value}
use Rattle.std.specs.Fmt.{decimal}
use Rattle.njs_value.specs.declared.Cause.{Cause}
use Rattle.njs_value.specs.declared.Cause.TheVariants.{ReadOnly, NotConfigurable, BadLength}
use Rattle.njs_value.specs.declared.Class.{Class}
use Rattle.njs_value.specs.declared.Desc.{Desc}
use Rattle.njs_value.specs.declared.Flags.{Flags}
use Rattle.njs_props.specs.declared.map.Property.{Property}
use Rattle.njs_props.specs.Names.{length_name, index_of, is_below, same_name}
use Rattle.njs_props.specs.Props.{property, with_property, without_property, with_value, with_flags, kept_below}
use Rattle.njs_meaning.specs.Properties.{Properties, Change, done, refused, flags_of, with_put, put_refusal, define_refusal, changed_flags, defined, with_defined, define_plain, delete}
use Rattle.njs_meaning.specs.Arrays.{least_length, array_length, has_fixed_length, with_given_flags, with_length, lengthened, put_element, put_in_array, define_past, define_element, define_length_value, define_length, define_in_array}
use Rattle.njs_meaning.specs.Objects.{is_array, put, define, first_props}
use Rattle.njs_meaning.specs.Numbers.{number_of}
use Rattle.njs_meaning.specs.Values.{PlainValue, Simple, ObjectAt, length_from, given_length}
use Rattle.njs_value.specs.declared.Value.{Value}
use Rattle.njs_clone.specs.Content.{content, given}

-- one past an array index is small
end_small : (a b : Bool) (n : ℕ) → nat_lt n 4294967295 ≡ b → ForSome (cond (a && b) (Some n) None) (λ i. i + 1 < 2 ^ 32)
end_small true true n h i is = let le : n < 4294967295 = grind (arith, nat_tests) in let same : n ≡ i = cc in omega arith
end_small true false n h i is = cc
end_small false b n h i is = cc

pub index_small : (name : List ℕ) → ForSome (index_of name) (λ i. i + 1 < 2 ^ 32)
index_small name = end_small (same_name (decimal (digits_value 10 name)) name) (nat_lt (digits_value 10 name) 4294967295) (digits_value 10 name) refl

-- so is the length that a value gives
length_small : (b : Bool) (n : ℕ) → nat_lt n 4294967296 ≡ b → ForSome (cond b (Some n) None) (λ k. k < 2 ^ 32)
length_small true n h k is = let le : n < 4294967296 = grind (arith, nat_tests) in let same : n ≡ k = cc in omega arith
length_small false n h k is = cc

length_from_small : (n : ℤ) → ForSome (length_from n) (λ k. k < 2 ^ 32)
length_from_small (pos n) k is = length_small (nat_lt n 4294967296) n refl k is
length_from_small (negsuc n) k is = cc

from_number_small : (r : Option ℤ) → ForSome (option_and_then length_from r) (λ k. k < 2 ^ 32)
from_number_small None k is = cc
from_number_small (Some n) k is = length_from_small n k is

given_length_small : (v : PlainValue) → ForSome (given_length v) (λ k. k < 2 ^ 32)
given_length_small (Simple p) k is = from_number_small (number_of p) k is
given_length_small (ObjectAt o) k is = cc

pub given-small : (texts : List (List ℕ)) (v : Value) → ForSome (given texts v) (λ k. k < 2 ^ 32)
given-small texts v = given_length_small (content texts v)

pub defined-small : (texts : List (List ℕ)) (r : Option Value) → ForSome (option_and_then (given texts) r) (λ k. k < 2 ^ 32)
defined-small texts None k is = cc
defined-small texts (Some v) k is = given-small texts v k is

raised_small : (n : ℕ) (b : Bool) (r : Option ℕ) → ForSome r (λ i. i + 1 < 2 ^ 32) → n < 2 ^ 32 → cond b n (max n (option_map_or (λ i. i + 1) r 0)) < 2 ^ 32
raised_small n true r small le = le
raised_small n false None small le = omega arith
raised_small n false (Some i) small le = let end : i + 1 < 2 ^ 32 = small i refl in omega arith

module _ {V : Type 0} where
  pub least_length_small : (n : ℕ) (es : Properties V) → n < 2 ^ 32 → least_length n es < 2 ^ 32
  least_length_small n [] le = le
  least_length_small n (e ∷ es) le =
      least_length_small (if e.1.flags.configurable then n else max n (option_map_or (λ i. i + 1) (index_of e.0) 0)) es
      (raised_small n e.1.flags.configurable (index_of e.0) (index_small e.0) le)

module _ {V : Type 0} (P : V → Type 0) where
  abbrev pub AllValues : Properties V → Type 0
  AllValues es = AllByRecursion (λ e. P e.1.value) es

  pub with_property-kept : (name : List ℕ) (p : Property V) (es : Properties V) → P p.value → AllValues es → AllValues (with_property name p es)
  with_property-kept name p [] here all = (here, tt)
  with_property-kept name p (e ∷ es) here all = by (same_name name e.0) (with_property-kept name p es here all.1)
    where
      by : (b : Bool) → AllValues (with_property name p es) → AllValues (cond b ((e.0, p) ∷ es) (e ∷ with_property name p es))
      by true rest = (here, all.1)
      by false rest = (all.0, rest)

  pub without_property-kept : (name : List ℕ) (es : Properties V) → AllValues es → AllValues (without_property name es)
  without_property-kept name [] all = tt
  without_property-kept name (e ∷ es) all = by (same_name name e.0) (without_property-kept name es all.1)
    where
      by : (b : Bool) → AllValues (without_property name es) → AllValues (cond b es (e ∷ without_property name es))
      by true rest = all.1
      by false rest = (all.0, rest)

  pub kept_below-kept : (n : ℕ) (es : Properties V) → AllValues es → AllValues (kept_below n es)
  kept_below-kept n [] all = tt
  kept_below-kept n (e ∷ es) all = by (is_below n e.0) (kept_below-kept n es all.1)
    where
      by : (b : Bool) → AllValues (kept_below n es) → AllValues (cond b (e ∷ kept_below n es) (kept_below n es))
      by true rest = (all.0, rest)
      by false rest = rest

  -- the value of a property that is there
  pub property-kept : (name : List ℕ) (es : Properties V) → AllValues es → ForSome (property name es) (λ p. P p.value)
  property-kept name [] all p is = cc
  property-kept name (e ∷ es) all p is = by (same_name name e.0) (property-kept name es all.1 p) is
    where
      by : (b : Bool) → (property name es ≡ Some p → P p.value) → cond b (Some e.1) (property name es) ≡ Some p → P p.value
      by true rest is = let same : e.1 ≡ p = cc in subst (λ (q : Property V). P q.value) same all.0
      by false rest is = rest is

  pub with_put-kept : (name : List ℕ) (v : V) (es : Properties V) → P v → AllValues es → AllValues (with_put name v es)
  with_put-kept name v es here all = with_property-kept name _ es here all

  pub with_value-kept : (name : List ℕ) (v : V) (es : Properties V) → P v → AllValues es → AllValues (with_value name v es)
  with_value-kept name v es here all = by (property name es)
    where
      by : (r : Option (Property V)) → AllValues (option_map_or (λ p. with_property name (record p { value = v }) es) r es)
      by None = all
      by (Some p) = with_property-kept name (record p { value = v }) es here all

  with_flags-kept : (name : List ℕ) (flags : Flags) (es : Properties V) → AllValues es → AllValues (with_flags name flags es)
  with_flags-kept name flags es all = by (property name es) (property-kept name es all)
    where
      by : (r : Option (Property V)) → ForSome r (λ p. P p.value) → AllValues (option_map_or (λ p. with_property name (record p { flags = flags }) es) r es)
      by None found = all
      by (Some p) found = with_property-kept name (record p { flags = flags }) es (found p refl) all

  given-kept : (o : Option V) (v : V) → ForSome o P → P v → P (unwrap_or o v)
  given-kept None v given here = here
  given-kept (Some w) v given here = given w refl

  module _ (missing : V) (misses : P missing) where
    defined-kept : (d : Desc V) (r : Option (Property V)) → ForSome d.value P → ForSome r (λ p. P p.value) → P (defined missing d r).value
    defined-kept d None given found = given-kept d.value missing given misses
    defined-kept d (Some p) given found = given-kept d.value p.value given (found p refl)

    with_defined-kept : (name : List ℕ) (d : Desc V) (es : Properties V) → ForSome d.value P → AllValues es → AllValues (with_defined missing name d es)
    with_defined-kept name d es given all =
        with_property-kept name (defined missing d (property name es)) es (defined-kept d (property name es) given (property-kept name es all)) all

    plain_kept : (name : List ℕ) (d : Desc V) (es : Properties V) (r : Option Cause) → ForSome d.value P → AllValues es
        → AllValues (option_map_or (λ cause. refused es cause) r (done (with_defined missing name d es))).props
    plain_kept name d es None given all = with_defined-kept name d es given all
    plain_kept name d es (Some cause) given all = all

    define_plain-kept : (extensible other : Bool) (name : List ℕ) (d : Desc V) (es : Properties V) → ForSome d.value P → AllValues es
        → AllValues (define_plain missing extensible other name d es).props
    define_plain-kept extensible other name d es given all = plain_kept name d es (define_refusal extensible (flags_of name es) d other) given all

  -- after a deletion
  pub delete-kept : (name : List ℕ) (es : Properties V) → AllValues es → AllValues (delete name es).props
  delete-kept name es all = by (flags_of name es)
    where
      found : (b : Bool) → AllValues (cond b (done (without_property name es)) (refused es NotConfigurable)).props
      found true = without_property-kept name es all
      found false = all

      by : (r : Option Flags) → AllValues (option_map_or (λ (flags : Flags). if flags.configurable then done (without_property name es) else refused es NotConfigurable) r (done es)).props
      by None = all
      by (Some flags) = found flags.configurable

  module _ (stored : V → ℕ) (written : ℕ → V) (lengths : (n : ℕ) → n < 2 ^ 32 → P (written n)) where
    with_length-kept : (n : ℕ) (es : Properties V) → n < 2 ^ 32 → AllValues es → AllValues (with_length stored written n es).props
    with_length-kept n es small all =
        with_value-kept length_name (written (least_length n es)) (kept_below (least_length n es) es)
        (lengths (least_length n es) (least_length_small n es small)) (kept_below-kept (least_length n es) es all)

    lengthened-kept : (i : ℕ) (es : Properties V) → i + 1 < 2 ^ 32 → AllValues es → AllValues (lengthened stored written i es)
    lengthened-kept i es small all = with_value-kept length_name (written (i + 1)) es (lengths (i + 1) small) all

    element_kept : (name : List ℕ) (i : ℕ) (v : V) (es : Properties V) (b c : Bool) → i + 1 < 2 ^ 32 → P v → AllValues es
        → AllValues (cond b (done (with_put name v es)) (cond c (refused es ReadOnly) (done (lengthened stored written i (with_put name v es))))).props
    element_kept name i v es true c small here all = with_put-kept name v es here all
    element_kept name i v es false true small here all = all
    element_kept name i v es false false small here all = lengthened-kept i (with_put name v es) small (with_put-kept name v es here all)

    length_kept : (es : Properties V) (r : Option ℕ) → ForSome r (λ n. n < 2 ^ 32) → AllValues es
        → AllValues (option_map_or (λ n. with_length stored written n es) r (refused es BadLength)).props
    length_kept es None small all = all
    length_kept es (Some n) small all = with_length-kept n es (small n refl) all

    index_kept : (name : List ℕ) (v : V) (es : Properties V) (r : Option ℕ) → ForSome r (λ i. i + 1 < 2 ^ 32) → P v → AllValues es
        → AllValues (option_map_or (λ i. put_element stored written name i v es) r (done (with_put name v es))).props
    index_kept name v es None small here all = with_put-kept name v es here all
    index_kept name v es (Some i) small here all = element_kept name i v es (nat_lt i (array_length stored written es)) (has_fixed_length es) (small i refl) here all

    array_kept : (length : Option ℕ) (name : List ℕ) (v : V) (es : Properties V) (b : Bool) → ForSome length (λ n. n < 2 ^ 32) → P v → AllValues es
        → AllValues (cond b (option_map_or (λ n. with_length stored written n es) length (refused es BadLength))
        (option_map_or (λ i. put_element stored written name i v es) (index_of name) (done (with_put name v es)))).props
    array_kept length name v es true small here all = length_kept es length small all
    array_kept length name v es false small here all = index_kept name v es (index_of name) (index_small name) here all

    own_kept : (length : Option ℕ) (name : List ℕ) (v : V) (es : Properties V) (b : Bool) → ForSome length (λ n. n < 2 ^ 32) → P v → AllValues es
        → AllValues (cond b (put_in_array stored written length name v es) (done (with_put name v es))).props
    own_kept length name v es true small here all = array_kept length name v es (same_name name length_name) small here all
    own_kept length name v es false small here all = with_put-kept name v es here all

    refusal_kept : (length : Option ℕ) (class : Class) (name : List ℕ) (v : V) (es : Properties V) (r : Option Cause) → ForSome length (λ n. n < 2 ^ 32) → P v → AllValues es
        → AllValues (option_map_or (λ cause. refused es cause) r (if is_array class then put_in_array stored written length name v es else done (with_put name v es))).props
    refusal_kept length class name v es None small here all = own_kept length name v es (is_array class) small here all
    refusal_kept length class name v es (Some cause) small here all = all

    -- after a put
    pub put-kept : (length : Option ℕ) (class : Class) (extensible : Bool) (nearest : Option Flags) (name : List ℕ) (v : V) (es : Properties V)
        → ForSome length (λ n. n < 2 ^ 32) → P v → AllValues es → AllValues (put stored written length class extensible nearest name v es).props
    put-kept length class extensible nearest name v es small here all =
        refusal_kept length class name v es (put_refusal nearest (is_some (property name es)) extensible) small here all

    -- of a new object
    pub first_props-kept : (class : Class) → AllValues (first_props written class)
    first_props-kept class = by (is_array class)
      where
        by : (b : Bool) → AllValues (cond b ((length_name, record { value = written 0; flags = record { writable = true; enumerable = false; configurable = false } }) ∷ []) [])
        by true = (lengths 0 (omega arith), tt)
        by false = tt

    given_flags_kept : (name : List ℕ) (d : Desc V) (change : Change V) (r : Option Cause) (f : Option Flags) → AllValues change.props
        → AllValues (option_map_or (λ cause. change) r (done (option_map_or (λ flags. with_flags name (changed_flags d flags) change.props) f change.props))).props
    given_flags_kept name d change (Some cause) f all = all
    given_flags_kept name d change None None all = all
    given_flags_kept name d change None (Some flags) all = with_flags-kept name (changed_flags d flags) change.props all

    module _ (missing : V) (misses : P missing) where
      define_past_kept : (i : ℕ) (name : List ℕ) (d : Desc V) (es : Properties V) (r : Option Cause) → i + 1 < 2 ^ 32 → ForSome d.value P → AllValues es
          → AllValues (option_map_or (λ cause. refused es cause) r (done (lengthened stored written i (with_defined missing name d es)))).props
      define_past_kept i name d es None small given all = lengthened-kept i (with_defined missing name d es) small (with_defined-kept missing misses name d es given all)
      define_past_kept i name d es (Some cause) small given all = all

      define_element_kept : (extensible other : Bool) (i : ℕ) (name : List ℕ) (d : Desc V) (es : Properties V) (b c : Bool) → i + 1 < 2 ^ 32 → ForSome d.value P → AllValues es
          → AllValues (cond b (define_plain missing extensible other name d es) (cond c (refused es ReadOnly) (define_past stored written missing extensible other name i d es))).props
      define_element_kept extensible other i name d es true c small given all = define_plain-kept missing misses extensible other name d es given all
      define_element_kept extensible other i name d es false true small given all = all
      define_element_kept extensible other i name d es false false small given all =
          define_past_kept i name d es (define_refusal extensible (flags_of name es) d other) small given all

      define_index_kept : (extensible other : Bool) (name : List ℕ) (d : Desc V) (es : Properties V) (r : Option ℕ) → ForSome r (λ i. i + 1 < 2 ^ 32) → ForSome d.value P → AllValues es
          → AllValues (option_map_or (λ i. define_element stored written missing extensible other name i d es) r (define_plain missing extensible other name d es)).props
      define_index_kept extensible other name d es None small given all = define_plain-kept missing misses extensible other name d es given all
      define_index_kept extensible other name d es (Some i) small given all =
          define_element_kept extensible other i name d es (nat_lt i (array_length stored written es)) (has_fixed_length es) (small i refl) given all

      set_length_kept : (name : List ℕ) (d : Desc V) (es : Properties V) (length : Option ℕ) → ForSome length (λ n. n < 2 ^ 32) → AllValues es
          → AllValues (option_map_or (λ n. with_given_flags name d (with_length stored written n es)) length (refused es BadLength)).props
      set_length_kept name d es None small all = all
      set_length_kept name d es (Some n) small all =
          given_flags_kept name d (with_length stored written n es) (with_length stored written n es).thrown (flags_of name (with_length stored written n es).props) (with_length-kept n es (small n refl) all)

      length_value_kept : (name : List ℕ) (d : Desc V) (es : Properties V) (length : Option ℕ) (r : Option Cause) → ForSome length (λ n. n < 2 ^ 32) → AllValues es
          → AllValues (option_map_or (λ cause. refused es cause) r (option_map_or (λ n. with_given_flags name d (with_length stored written n es)) length (refused es BadLength))).props
      length_value_kept name d es length None small all = set_length_kept name d es length small all
      length_value_kept name d es length (Some cause) small all = all

      define_length_kept : (extensible other : Bool) (length : Option ℕ) (name : List ℕ) (d : Desc V) (es : Properties V) (v : Option V) → ForSome length (λ n. n < 2 ^ 32) → ForSome d.value P → AllValues es
          → AllValues (option_map_or (λ w. define_length_value stored written missing extensible other length name d es) v (define_plain missing extensible other name d es)).props
      define_length_kept extensible other length name d es None small given all = define_plain-kept missing misses extensible other name d es given all
      define_length_kept extensible other length name d es (Some v) small given all =
          length_value_kept name d es length (define_refusal extensible (flags_of name es) d other) small all

      define_array_kept : (extensible other : Bool) (length : Option ℕ) (name : List ℕ) (d : Desc V) (es : Properties V) (b : Bool) → ForSome length (λ n. n < 2 ^ 32) → ForSome d.value P → AllValues es
          → AllValues (cond b (define_length stored written missing extensible other length name d es)
          (option_map_or (λ i. define_element stored written missing extensible other name i d es) (index_of name) (define_plain missing extensible other name d es))).props
      define_array_kept extensible other length name d es true small given all = define_length_kept extensible other length name d es d.value small given all
      define_array_kept extensible other length name d es false small given all = define_index_kept extensible other name d es (index_of name) (index_small name) given all

      define_kept : (extensible other : Bool) (length : Option ℕ) (name : List ℕ) (d : Desc V) (es : Properties V) (b : Bool) → ForSome length (λ n. n < 2 ^ 32) → ForSome d.value P → AllValues es
          → AllValues (cond b (define_in_array stored written missing extensible other length name d es) (define_plain missing extensible other name d es)).props
      define_kept extensible other length name d es true small given all = define_array_kept extensible other length name d es (same_name name length_name) small given all
      define_kept extensible other length name d es false small given all = define_plain-kept missing misses extensible other name d es given all

      -- after a definition
      pub define-kept : (length : Option ℕ) (other : Bool) (class : Class) (extensible : Bool) (name : List ℕ) (d : Desc V) (es : Properties V) → ForSome length (λ n. n < 2 ^ 32) → ForSome d.value P → AllValues es
          → AllValues (define stored written missing length other class extensible name d es).props
      define-kept length other class extensible name d es small given all = define_kept extensible other length name d es (is_array class) small given all
