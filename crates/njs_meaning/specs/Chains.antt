-- What is found on the chain of prototypes (ECMA-262 5.1 §8.12.1 to §8.12.3), over any kind of values and inner parts.
use Rattle.std.specs.Prelude.{ℕ, zero, suc, List, [], ◌∷◌, length, Bool, true, false, Option, Some, None, if◌then◌else◌, slice_get, map}
use Rattle.std.specs.Option.{option_map_or, option_and_then}
use Rattle.std.specs.Char.{to_ascii_lowercase}
use Rattle.njs_value.specs.Object.{Object}
use Rattle.njs_value.specs.declared.Class.{Class}
use Rattle.njs_value.specs.declared.Class.TheVariants.{HeadersIn}
use Rattle.njs_props.specs.declared.map.Property.{Property}
use Rattle.njs_props.specs.Names.{in_key_order}
use Rattle.njs_props.specs.Props.{property, names_of}

-- a name with its capital ASCII letters made small
abbrev pub small_letters : List ℕ → List ℕ
small_letters name = map to_ascii_lowercase name

abbrev pub is_headers_in : Class → Bool
is_headers_in HeadersIn = true
is_headers_in class = false

module _ {P I : Type 0} where
  -- the objects from a number up along the prototypes, at most n of them: with as many steps as there are objects these are
  -- all, since the chain ends
  abbrev pub chain : ℕ → List (Object P I) → ℕ → List (Object P I)
  chain zero objects at = []
  chain (suc n) objects at =
      option_map_or (λ o. o ∷ option_map_or (λ up. chain n objects up.0) o.prototype []) (slice_get objects at) []

  -- what is found first along the way
  abbrev pub first_found : (Object P I → Option P) → List (Object P I) → Option P
  first_found look [] = None
  first_found look (o ∷ os) = option_map_or (λ p. Some p) (look o) (first_found look os)

  -- the property of a name that an object has itself (§8.12.1)
  abbrev pub own : List ℕ → Object P I → Option P
  own name o = property name o.props

  -- the same where a property is read: the names of header fields are in small letters
  abbrev pub own_read : List ℕ → Object P I → Option P
  own_read name o = property (if is_headers_in o.class then small_letters name else name) o.props

  -- the nearest property of a name (§8.12.2)
  abbrev pub nearest : List ℕ → List (Object P I) → ℕ → Option P
  nearest name objects at = first_found (own name) (chain (length objects) objects at)

  -- the own property of the object with a number
  abbrev pub own_at : List ℕ → List (Object P I) → ℕ → Option P
  own_at name objects at = option_and_then (own name) (slice_get objects at)

  -- the names of an object: array indices rising, and then the others in order of creation
  abbrev pub keys : Object P I → List (List ℕ)
  keys o = in_key_order (names_of o.props)

-- Get (§8.12.3): the value that is read under a name, or `missing`
abbrev pub get : {V I : Type 0} → V → List ℕ → List (Object (Property V) I) → ℕ → V
get missing name objects at =
    option_map_or (λ p. p.value) (first_found (own_read name) (chain (length objects) objects at)) missing
