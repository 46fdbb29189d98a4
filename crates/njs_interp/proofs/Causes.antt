-- The causes that changes of properties and missing members throw hold no name.
use Rattle.std.proofs.Common.{◌≡◌, ℕ, List, [], ◌∷◌, ◌++◌, Option, Some, None, Bool, true, false, cond, nat_lt, ap, refl, sym, ◌∙◌, slice_get, is_some}
use Rattle.std.specs.Prelude.{◌||◌}
use Rattle.std.specs.Option.{option_map, option_map_or, option_and_then}
use Rattle.njs_props.specs.Names.{length_name, index_of, same_name}
use Rattle.njs_props.specs.Props.{property, without_property}
use Rattle.njs_value.specs.declared.Cause.{Cause}
use Rattle.njs_value.specs.declared.Cause.TheVariants as cause
use Rattle.njs_value.specs.declared.Class.{Class}
use Rattle.njs_value.specs.declared.Desc.{Desc}
use Rattle.njs_value.specs.declared.Flags.{Flags}
use Rattle.njs_value.specs.declared.ObjId.{ObjId}
use Rattle.njs_value.specs.declared.TextId.{TextId}
use Rattle.njs_meaning.specs.Primitives.{Undefined}
use Rattle.njs_meaning.specs.Values.{PlainValue, Simple, is_same, given_length, stored_length, length_value}
use Rattle.njs_meaning.specs.PlainHeap.{PlainObject}
use Rattle.njs_meaning.specs.Properties.{Properties, Change, done, refused, flags_of, put_refusal, with_put, define_refusal, define_plain, delete}
use Rattle.njs_meaning.specs.Arrays.{array_length, has_fixed_length, lengthened, with_length, put_element, put_in_array, with_given_flags, define_past, define_element, define_length_value, define_length, define_in_array}
use Rattle.njs_meaning.specs.Objects.{is_array, change_at, put, define, gives_other, delete_at, with_props}
use Rattle.njs_meaning.specs.Chains.{nearest}
use Rattle.njs_clone.specs.StandsFor.{plain_put, plain_define}
use Rattle.njs_meaning.specs.State.{State, Outcome, Gives, Throws, Spent, Asks}
use Rattle.njs_meaning.specs.Errors.{place_of, prototype_of, name_of, message_of, error_with, throw}
use Rattle.njs_meaning.specs.Running.{changed}

-- the error of a cause is of another type than those of names
abbrev IsOther : Cause → Type 0
IsOther c = nat_lt (place_of (prototype_of c)) 9 ≡ true

abbrev AreOther : Option Cause → Type 0
AreOther None = Unit {0}
AreOther (Some c) = IsOther c

record Nameless (thrown : Option Cause) : Type 0 where
  pub by : AreOther thrown

pub record ThrowsOther {V : Type 0} (c : Change V) : Type 0 where
  pub by : AreOther c.thrown

nothing : Nameless None
nothing = record { by = tt }

this_one : (c : Cause) → IsOther c → Nameless (Some c)
this_one c is = record { by = is }

unnamed_by : (c : Cause) → IsOther c → name_of c ≡ None
unnamed_by (cause.NotDefined name) is = cc
unnamed_by c is = refl

-- ---- changes

pick : {A : Type 0} (P : A → Type 0) (b : Bool) {x y : A} → P x → P y → P (cond b x y)
pick P true p q = p
pick P false p q = q

map_or : {A B : Type 0} (P : B → Type 0) (f : A → B) (r : Option A) {y : B} → ((a : A) → P (f a)) → P y → P (option_map_or f r y)
map_or P f None p q = q
map_or P f (Some a) p q = p a

module _ {V : Type 0} where
  refused_or : (props : Properties V) (refusal : Option Cause) (change : Change V) → Nameless refusal → ThrowsOther change → ThrowsOther (option_map_or (λ cause. refused props cause) refusal change)
  refused_or props None change named other = other
  refused_or props (Some c) change named other = record { by = named.by }

  is_done : (props : Properties V) → ThrowsOther (done props)
  is_done props = record { by = tt }

  is_refused : (props : Properties V) (c : Cause) → IsOther c → ThrowsOther (refused props c)
  is_refused props c is = record { by = is }

put_refused : (nearest : Option Flags) (own extensible : Bool) → Nameless (put_refusal nearest own extensible)
put_refused None own true = nothing
put_refused None own false = this_one cause.NotExtensible refl
put_refused (Some nearest) own extensible = by nearest.writable own extensible
  where
    by : (w own extensible : Bool) → Nameless (cond w (cond (own || extensible) None (Some cause.NotExtensible)) (Some cause.ReadOnly))
    by true true extensible = nothing
    by true false true = nothing
    by true false false = this_one cause.NotExtensible refl
    by false own extensible = this_one cause.ReadOnly refl

define_refused : {V : Type 0} (extensible : Bool) (flags : Option Flags) (d : Desc V) (other : Bool) → Nameless (define_refusal extensible flags d other)
define_refused true None d other = nothing
define_refused false None d other = this_one cause.NotExtensible refl
define_refused extensible (Some flags) d other = pick Nameless flags.configurable nothing (pick Nameless _ (this_one cause.NotConfigurable refl) nothing)

module _ {V : Type 0} (stored : V → ℕ) (written : ℕ → V) where
  with_length_other : (n : ℕ) (props : Properties V) → ThrowsOther (with_length stored written n props)
  with_length_other n props =
      let either : Nameless (with_length stored written n props).thrown = pick Nameless _ nothing (this_one cause.NotConfigurable refl) in record { by = either.by }

  put_element_other : (name : List ℕ) (i : ℕ) (v : V) (props : Properties V) → ThrowsOther (put_element stored written name i v props)
  put_element_other name i v props =
      pick (ThrowsOther {V = V}) (nat_lt i (array_length stored written props)) (is_done (with_put name v props))
      (pick (ThrowsOther {V = V}) (has_fixed_length props) (is_refused props cause.ReadOnly refl) (is_done (lengthened stored written i (with_put name v props))))

  put_in_array_other : (length : Option ℕ) (name : List ℕ) (v : V) (props : Properties V) → ThrowsOther (put_in_array stored written length name v props)
  put_in_array_other length name v props =
      pick (ThrowsOther {V = V}) (same_name name length_name)
      (map_or (ThrowsOther {V = V}) (λ n. with_length stored written n props) length (λ n. with_length_other n props) (is_refused _ cause.BadLength refl))
      (map_or (ThrowsOther {V = V}) (λ i. put_element stored written name i v props) (index_of name) (λ i. put_element_other name i v props) (is_done _))

  put_other : (length : Option ℕ) (class : Class) (extensible : Bool) (nearest : Option Flags) (name : List ℕ) (v : V) (props : Properties V) → ThrowsOther (put stored written length class extensible nearest name v props)
  put_other length class extensible nearest name v props =
      refused_or props (put_refusal nearest (is_some (property name props)) extensible) _ (put_refused nearest (is_some (property name props)) extensible)
      (pick (ThrowsOther {V = V}) (is_array class) (put_in_array_other length name v props) (is_done (with_put name v props)))

  module _ (missing : V) where
    plain_other : (extensible other : Bool) (name : List ℕ) (d : Desc V) (props : Properties V) → ThrowsOther (define_plain missing extensible other name d props)
    plain_other extensible other name d props = refused_or props (define_refusal extensible (flags_of name props) d other) _ (define_refused extensible (flags_of name props) d other) (is_done _)

    past_other : (extensible other : Bool) (name : List ℕ) (i : ℕ) (d : Desc V) (props : Properties V) → ThrowsOther (define_past stored written missing extensible other name i d props)
    past_other extensible other name i d props = refused_or props (define_refusal extensible (flags_of name props) d other) _ (define_refused extensible (flags_of name props) d other) (is_done _)

    element_other : (extensible other : Bool) (name : List ℕ) (i : ℕ) (d : Desc V) (props : Properties V) → ThrowsOther (define_element stored written missing extensible other name i d props)
    element_other extensible other name i d props =
        pick (ThrowsOther {V = V}) (nat_lt i (array_length stored written props)) (plain_other extensible other name d props)
        (pick (ThrowsOther {V = V}) (has_fixed_length props) (is_refused props cause.ReadOnly refl) (past_other extensible other name i d props))

    given_flags_other : (name : List ℕ) (d : Desc V) (change : Change V) → ThrowsOther change → ThrowsOther (with_given_flags name d change)
    given_flags_other name d change other = map_or (ThrowsOther {V = V}) (λ cause. change) change.thrown (λ cause. other) (is_done _)

    length_value_other : (extensible other : Bool) (length : Option ℕ) (name : List ℕ) (d : Desc V) (props : Properties V) → ThrowsOther (define_length_value stored written missing extensible other length name d props)
    length_value_other extensible other length name d props =
        refused_or props (define_refusal extensible (flags_of name props) d other) _ (define_refused extensible (flags_of name props) d other)
        (map_or (ThrowsOther {V = V}) (λ n. with_given_flags name d (with_length stored written n props)) length
        (λ n. given_flags_other name d (with_length stored written n props) (with_length_other n props)) (is_refused _ cause.BadLength refl))

    length_other : (extensible other : Bool) (length : Option ℕ) (name : List ℕ) (d : Desc V) (props : Properties V) → ThrowsOther (define_length stored written missing extensible other length name d props)
    length_other extensible other length name d props =
        map_or (ThrowsOther {V = V}) (λ v. define_length_value stored written missing extensible other length name d props) d.value
        (λ v. length_value_other extensible other length name d props) (plain_other extensible other name d props)

    in_array_other : (extensible other : Bool) (length : Option ℕ) (name : List ℕ) (d : Desc V) (props : Properties V) → ThrowsOther (define_in_array stored written missing extensible other length name d props)
    in_array_other extensible other length name d props =
        pick (ThrowsOther {V = V}) (same_name name length_name) (length_other extensible other length name d props)
        (map_or (ThrowsOther {V = V}) (λ i. define_element stored written missing extensible other name i d props) (index_of name)
        (λ i. element_other extensible other name i d props) (plain_other extensible other name d props))

    define_other : (length : Option ℕ) (other : Bool) (class : Class) (extensible : Bool) (name : List ℕ) (d : Desc V) (props : Properties V) → ThrowsOther (define stored written missing length other class extensible name d props)
    define_other length other class extensible name d props = pick (ThrowsOther {V = V}) _ (in_array_other extensible other length name d props) (plain_other extensible other name d props)

delete_other : {V : Type 0} (name : List ℕ) (props : Properties V) → ThrowsOther (delete name props)
delete_other {V} name props =
    map_or (ThrowsOther {V = V}) (λ flags. cond flags.configurable (done (without_property name props)) (refused props cause.NotConfigurable)) (flags_of name props)
    (λ flags. pick (ThrowsOther {V = V}) flags.configurable (is_done _) (is_refused _ cause.NotConfigurable refl)) (is_done _)

-- ---- changes of objects by content

at_other : (change : PlainObject → Change PlainValue) (objects : List PlainObject) (at : ℕ) → ((o : PlainObject) → ThrowsOther (change o)) → ThrowsOther (change_at change objects at)
at_other change objects at each = map_or (ThrowsOther {V = PlainValue}) change (slice_get objects at) each (is_done [])

pub put-other : (objects : List PlainObject) (at : ℕ) (name : List ℕ) (v : PlainValue) → ThrowsOther (plain_put objects at name v)
put-other objects at name v = at_other _ objects at (λ o. put_other stored_length length_value (given_length v) o.class o.extensible (option_map (λ p. p.flags) (nearest name objects at)) name v o.props)

pub define-other : (objects : List PlainObject) (at : ℕ) (name : List ℕ) (d : Desc PlainValue) → ThrowsOther (plain_define objects at name d)
define-other objects at name d =
    at_other _ objects at
    (λ o. define_other stored_length length_value (Simple Undefined) (option_and_then given_length d.value) (gives_other is_same d (property name o.props)) o.class o.extensible name d o.props)

pub delete-other : (objects : List PlainObject) (at : ℕ) (name : List ℕ) → ThrowsOther (delete_at name objects at)
delete-other objects at name = at_other _ objects at (λ o. delete_other name o.props)

-- ---- what is thrown

abbrev last_up : List PlainObject → Option ObjId
last_up [] = None
last_up (o ∷ []) = o.prototype
last_up (o ∷ (p ∷ os)) = last_up (p ∷ os)

last_pushed : (os : List PlainObject) (o : PlainObject) → last_up (os ++ o ∷ []) ≡ o.prototype
last_pushed [] o = refl
last_pushed (p ∷ []) o = refl
last_pushed (p ∷ (q ∷ os)) o = last_pushed (q ∷ os) o

abbrev thrown_up : Outcome PlainValue → Option ObjId
thrown_up (Gives v s) = None
thrown_up (Throws v s) = last_up s.objects
thrown_up (Spent s) = None
thrown_up (Asks zone op s) = None

thrown_is : (c : Cause) (s : State) → thrown_up (throw c s) ≡ Some (record { 0 = place_of (prototype_of c) })
thrown_is c s = last_pushed s.objects (error_with (prototype_of c) (message_of (λ name. []) c))

same_type : (c d : Cause) (s t : State) → throw {A = PlainValue} c s ≡ throw d t → IsOther c → IsOther d
same_type c d s t same other =
    let places : place_of (prototype_of c) ≡ place_of (prototype_of d) = ap number (sym (thrown_is c s) ∙ ap thrown_up same ∙ thrown_is d t) in
    ap (λ n. nat_lt n 9) (sym places) ∙ other
  where
    number : Option ObjId → ℕ
    number None = 0
    number (Some o) = o.0

-- a change that throws no cause with a name
pub changed-cause : (at : ℕ) (change : Change PlainValue) (given : PlainValue) (c : Cause) (s t : State) → ThrowsOther change → changed at change (Gives given) s ≡ throw c t → name_of c ≡ None
changed-cause at change given c s t other same = by change.thrown other.by same
  where
    u : State
    u = record s { objects = with_props s.objects at change.props }

    by : (r : Option Cause) → AreOther r → option_map_or (λ cause. throw cause u) r (Gives given u) ≡ throw c t → name_of c ≡ None
    by None other same = cc
    by (Some d) other same = unnamed_by c (same_type d c u t same other)

pub other-cause : (c d : Cause) (s t : State) → nat_lt (place_of (prototype_of c)) 9 ≡ true → throw {A = PlainValue} c s ≡ throw d t → name_of d ≡ None
other-cause c d s t other same = unnamed_by d (same_type c d s t same other)

-- and its message goes by the cause alone
pub unnamed : (content : TextId → List ℕ) (c : Cause) → name_of c ≡ None → message_of content c ≡ message_of (λ name. []) c
unnamed content (cause.NotDefined name) none = cc
unnamed content c none = refl
