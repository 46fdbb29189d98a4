-- Members of values, objects or not (ECMA-262 5.1 §8.7, §8.12, §15.5.5).
use Rattle.std.specs.Prelude.{ℕ, ◌+◌, List, [], ◌∷◌, ◌++◌, length, filter, Bool, true, false, not, ◌&&◌, ◌||◌, Option, Some, None, if◌then◌else◌, is_some, slice_get}
use Rattle.std.specs.List.{list_any}
use Rattle.std.specs.Option.{option_map, option_map_or, option_and_then}
use Rattle.std.specs.Fmt.{decimal}
use Rattle.njs_value.specs.declared.Cause.TheVariants.{NullBase, NotObject, NotConfigurable}
use Rattle.njs_props.specs.Names.{length_name, same_name, index_of}
use Rattle.njs_props.specs.Props.{property, names_of}
use Rattle.njs_meaning.specs.declared.prototypes.Prototype.{Prototype}
use Rattle.njs_meaning.specs.declared.prototypes.Prototype.TheVariants as prototype
use Rattle.njs_meaning.specs.Primitives.{Primitive, Undefined, Null, Truth, Number, Characters}
use Rattle.njs_meaning.specs.Values.{PlainValue, Simple, ObjectAt, given_length, stored_length, length_value}
use Rattle.njs_meaning.specs.PlainHeap.{PlainObject}
use Rattle.njs_meaning.specs.Chains.{chain, nearest, keys, get}
use Rattle.njs_meaning.specs.Objects.{put_at, delete_at}
use Rattle.njs_meaning.specs.State.{State, Outcome, Gives}
use Rattle.njs_meaning.specs.Errors.{place_of, throw}
use Rattle.njs_meaning.specs.Running.{changed}

-- the prototype that a value which is no object takes its members from
abbrev pub prototype_for : Primitive → Option Prototype
prototype_for Undefined = None
prototype_for Null = None
prototype_for (Truth b) = Some prototype.Boolean
prototype_for (Number n) = Some prototype.Number
prototype_for (Characters t) = Some prototype.String

-- the character at an index of a text, as a text (§15.5.5.2)
abbrev pub character_at : List ℕ → ℕ → Option PlainValue
character_at text i = option_map (λ c. Simple (Characters (c ∷ []))) (slice_get text i)

-- a member that a text has itself: its length, and its characters by their indices
abbrev pub text_member : List ℕ → List ℕ → Option PlainValue
text_member name text =
    if same_name name length_name then Some (length_value (length text)) else option_and_then (character_at text) (index_of name)

abbrev pub own_member : List ℕ → Primitive → Option PlainValue
own_member name (Characters text) = text_member name text
own_member name p = None

-- Get on any value (§8.7.1): a value that is no object takes what it hasn't itself from its prototype
abbrev pub get_member : List ℕ → PlainValue → List PlainObject → PlainValue
get_member name (ObjectAt o) objects = get (Simple Undefined) name objects o
get_member name (Simple p) objects =
    option_map_or (λ v. v)
    (own_member name p) (option_map_or (λ up. get (Simple Undefined) name objects (place_of up)) (prototype_for p) (Simple Undefined))

-- undefined and null have no members (§9.10)
abbrev pub with_members : PlainValue → (State → Outcome PlainValue) → State → Outcome PlainValue
with_members (Simple Undefined) go s = throw NullBase s
with_members (Simple Null) go s = throw NullBase s
with_members base go s = go s

-- Put on any value (§8.7.2)
abbrev pub put_member : List ℕ → PlainValue → PlainValue → State → Outcome PlainValue
put_member name (ObjectAt o) v s = changed o (put_at given_length stored_length length_value name v s.objects o) (Gives v) s
put_member name (Simple p) v s = throw NotObject s

-- Delete on any value (§11.4.1): what a text has itself can't be deleted
abbrev pub delete_member : List ℕ → PlainValue → State → Outcome PlainValue
delete_member name (ObjectAt o) s = changed o (delete_at name s.objects o) (Gives (Simple (Truth true))) s
delete_member name (Simple p) s = if is_some (own_member name p) then throw NotConfigurable s else Gives (Simple (Truth true)) s

-- ---- the names that `for in` lists (§12.6.4)

abbrev pub is_enumerable : List ℕ → PlainObject → Bool
is_enumerable name o = option_map_or (λ p. p.flags.enumerable) (property name o.props) false

-- the enumerable names of an object that aren't hidden by a nearer one
abbrev pub visible_names : List (List ℕ) → PlainObject → List (List ℕ)
visible_names hidden o = filter (λ name. is_enumerable name o && not (list_any (same_name name) hidden)) (keys o)

-- those of the objects of a chain, each hiding all its names from those behind it
abbrev pub listed_names : List (List ℕ) → List PlainObject → List (List ℕ)
listed_names hidden [] = []
listed_names hidden (o ∷ os) = visible_names hidden o ++ listed_names (hidden ++ names_of o.props) os

abbrev pub chain_from : List PlainObject → ℕ → List PlainObject
chain_from objects at = chain (length objects) objects at

-- the indices of a text
abbrev pub index_names : ℕ → List ℕ → List (List ℕ)
index_names i [] = []
index_names i (c ∷ text) = decimal i ∷ index_names (i + 1) text

-- the names that a value which is no object has itself: those that are listed, and all
abbrev pub own_indices : Primitive → List (List ℕ)
own_indices (Characters text) = index_names 0 text
own_indices p = []

abbrev pub own_names : Primitive → List (List ℕ)
own_names (Characters text) = index_names 0 text ++ length_name ∷ []
own_names p = []

abbrev pub names_in : PlainValue → List PlainObject → List (List ℕ)
names_in (ObjectAt o) objects = listed_names [] (chain_from objects o)
names_in (Simple p) objects =
    own_indices p ++ option_map_or (λ up. listed_names (own_names p) (chain_from objects (place_of up))) (prototype_for p) []

-- a name is still there
abbrev pub has_member : List ℕ → PlainValue → List PlainObject → Bool
has_member name (ObjectAt o) objects = is_some (nearest name objects o)
has_member name (Simple p) objects =
    is_some (own_member name p) || option_map_or (λ up. is_some (nearest name objects (place_of up))) (prototype_for p) false
