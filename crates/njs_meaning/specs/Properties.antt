-- What is done with the properties of one object (ECMA-262 5.1 §8.12), where it is no array: over any kind of values.
use Rattle.std.specs.Prelude.{ℕ, List, Bool, true, false, ◌&&◌, ◌||◌, not, Option, Some, None, if◌then◌else◌, unwrap_or}
use Rattle.std.specs.Option.{option_map, option_map_or}
use Rattle.njs_value.specs.declared.Flags.{Flags}
use Rattle.njs_value.specs.declared.Cause.{Cause}
use Rattle.njs_value.specs.declared.Cause.TheVariants.{ReadOnly, NotExtensible, NotConfigurable}
use Rattle.njs_value.specs.declared.Desc.{Desc}
use Rattle.njs_props.specs.declared.map.Property.{Property}
use Rattle.njs_props.specs.Props.{property, with_property, without_property}

-- properties by name, in order of creation
abbrev pub Properties : Type 0 → Type 0
Properties V = List (List ℕ × Property V)

-- the properties that an operation leaves, and the cause that it throws, if any
pub record Change (V : Type 0) : Type 0 where
  pub props : List (List ℕ × Property V)
  pub thrown : Option Cause

-- writable, enumerable and configurable
abbrev pub all_flags : Flags
all_flags = record { writable = true; enumerable = true; configurable = true }

-- only writable
abbrev pub only_writable : Flags
only_writable = record { writable = true; enumerable = false; configurable = false }

-- why a put is refused (§8.12.4 and §8.12.5), if it is: by the flags of the nearest property of the name on the chain of
-- prototypes, whether the object has one of its own, and whether it is extensible
abbrev pub put_refusal : Option Flags → Bool → Bool → Option Cause
put_refusal None own extensible = if extensible then None else Some NotExtensible
put_refusal (Some nearest) own extensible =
    if nearest.writable then (if own || extensible then None else Some NotExtensible) else Some ReadOnly

-- a definition asks for a flag
abbrev pub asks : Option Bool → Bool
asks given = unwrap_or given false

-- a definition gives another flag than the one there
abbrev pub differs : Option Bool → Bool → Bool
differs None flag = false
differs (Some given) flag = if given then not flag else flag

module _ {V : Type 0} where
  -- nothing is thrown
  abbrev pub done : Properties V → Change V
  done props = record { props = props; thrown = None }

  -- a cause is thrown, and the properties stay
  abbrev pub refused : Properties V → Cause → Change V
  refused props cause = record { props = props; thrown = Some cause }

  -- the flags of the property of a name
  abbrev pub flags_of : List ℕ → Properties V → Option Flags
  flags_of name props = option_map (λ p. p.flags) (property name props)

  -- a value under a name (§8.12.5): a property that is there keeps its place and its flags, and a new one goes last, with
  -- all flags
  abbrev pub with_put : List ℕ → V → Properties V → Properties V
  with_put name v props = with_property name (record { value = v; flags = unwrap_or (flags_of name props) all_flags }) props

  -- why a definition is refused (§8.12.9), if it is: by whether the object is extensible, and the flags of the present
  -- property; `other` says that the given value is another than the one there
  abbrev pub define_refusal : Bool → Option Flags → Desc V → Bool → Option Cause
  define_refusal extensible None d other = if extensible then None else Some NotExtensible
  define_refusal extensible (Some flags) d other =
      if flags.configurable then None
      else if asks d.configurable || differs d.enumerable flags.enumerable || (not flags.writable && (asks d.writable || other))
      then Some NotConfigurable else None

  -- the flags of a property, those that are given in place of its own
  abbrev pub changed_flags : Desc V → Flags → Flags
  changed_flags d flags = record {
    writable = unwrap_or d.writable flags.writable;
    enumerable = unwrap_or d.enumerable flags.enumerable;
    configurable = unwrap_or d.configurable flags.configurable;
  }

  -- the property that a definition makes or changes (§8.12.9, steps 4 and 12): what isn't given is `missing` and false, or
  -- stays
  abbrev pub defined : V → Desc V → Option (Property V) → Property V
  defined missing d None = record {
    value = unwrap_or d.value missing;
    flags = record { writable = asks d.writable; enumerable = asks d.enumerable; configurable = asks d.configurable };
  }
  defined missing d (Some p) = record { value = unwrap_or d.value p.value; flags = changed_flags d p.flags }

  -- the properties with a definition
  abbrev pub with_defined : V → List ℕ → Desc V → Properties V → Properties V
  with_defined missing name d props = with_property name (defined missing d (property name props)) props

  -- a definition (§8.12.9): refused by its own tests, or done
  abbrev pub define_plain : V → Bool → Bool → List ℕ → Desc V → Properties V → Change V
  define_plain missing extensible other name d props =
      option_map_or (λ cause. refused props cause) (define_refusal extensible (flags_of name props) d other)
      (done (with_defined missing name d props))

  -- a deletion (§8.12.7): of a property that is not there it does nothing
  abbrev pub delete : List ℕ → Properties V → Change V
  delete name props =
      option_map_or (λ flags. if flags.configurable then done (without_property name props) else refused props NotConfigurable)
      (flags_of name props) (done props)
