-- What is done with the properties of an array (ECMA-262 5.1 §15.4.5.1), over any kind of values.
use Rattle.std.specs.Prelude.{ℕ, ◌+◌, List, [], ◌∷◌, Bool, false, not, nat_lt, max, ◌==◌, Option, Some, None, if◌then◌else◌}
use Rattle.std.specs.Option.{option_map_or}
use Rattle.njs_value.specs.declared.Cause.TheVariants.{ReadOnly, NotConfigurable, BadLength}
use Rattle.njs_value.specs.declared.Desc.{Desc}
use Rattle.njs_props.specs.Props.{property, with_value, with_flags, kept_below}
use Rattle.njs_props.specs.Names.{length_name, index_of, same_name}
use Rattle.njs_meaning.specs.Properties.{Properties, Change, done, refused, flags_of, with_put, define_refusal, changed_flags, define_plain, with_defined}

module _ {V : Type 0} where
  -- a length that may be had: one past the last element that can't be deleted, where that is more
  abbrev pub least_length : ℕ → Properties V → ℕ
  least_length n [] = n
  least_length n (e ∷ es) = least_length (if e.1.flags.configurable then n else max n (option_map_or (λ i. i + 1) (index_of e.0) 0)) es

  -- whether the length can't be written
  abbrev pub has_fixed_length : Properties V → Bool
  has_fixed_length props = option_map_or (λ flags. not flags.writable) (flags_of length_name props) false

  -- flags that are given change last, where nothing was thrown
  abbrev pub with_given_flags : List ℕ → Desc V → Change V → Change V
  with_given_flags name d change =
      option_map_or (λ cause. change)
      change.thrown (done (option_map_or (λ flags. with_flags name (changed_flags d flags) change.props) (flags_of name change.props) change.props))

-- the length that the value of `length` is, and a length as a value
module _ {V : Type 0} (stored : V → ℕ) (written : ℕ → V) where
  -- an array's length
  abbrev pub array_length : Properties V → ℕ
  array_length props = option_map_or (λ p. stored p.value) (property length_name props) 0

  -- the array with this length, where its elements past it can be deleted; else what can be deleted from the end is
  abbrev pub with_length : ℕ → Properties V → Change V
  with_length n props =
      let least = least_length n props in
      record {
        props = with_value length_name (written least) (kept_below least props);
        thrown = if least == n then None else Some NotConfigurable;
      }

  -- the array is as long as it must be to have this index
  abbrev pub lengthened : ℕ → Properties V → Properties V
  lengthened i props = with_value length_name (written (i + 1)) props

  -- an element is put; one at or past the length makes the array longer
  abbrev pub put_element : List ℕ → ℕ → V → Properties V → Change V
  put_element name i v props =
      if nat_lt i (array_length props) then done (with_put name v props)
      else if has_fixed_length props then refused props ReadOnly
      else done (lengthened i (with_put name v props))

  -- a value is put that CanPut lets through, which gives this length or none
  abbrev pub put_in_array : Option ℕ → List ℕ → V → Properties V → Change V
  put_in_array length name v props =
      if same_name name length_name then option_map_or (λ n. with_length n props) length (refused props BadLength)
      else option_map_or (λ i. put_element name i v props) (index_of name) (done (with_put name v props))

  module _ (missing : V) where
    -- an element at or past the length is defined, and the array grows
    abbrev pub define_past : Bool → Bool → List ℕ → ℕ → Desc V → Properties V → Change V
    define_past extensible other name i d props =
        option_map_or (λ cause. refused props cause) (define_refusal extensible (flags_of name props) d other)
        (done (lengthened i (with_defined missing name d props)))

    -- an element is defined
    abbrev pub define_element : Bool → Bool → List ℕ → ℕ → Desc V → Properties V → Change V
    define_element extensible other name i d props =
        if nat_lt i (array_length props) then define_plain missing extensible other name d props
        else if has_fixed_length props then refused props ReadOnly
        else define_past extensible other name i d props

    -- the length is defined by a value that gives this length or none: after Define's own tests it is set as by a put, and
    -- then the flags change
    abbrev pub define_length_value : Bool → Bool → Option ℕ → List ℕ → Desc V → Properties V → Change V
    define_length_value extensible other length name d props =
        option_map_or (λ cause. refused props cause) (define_refusal extensible (flags_of name props) d other)
        (option_map_or (λ n. with_given_flags name d (with_length n props)) length (refused props BadLength))

    -- the length is defined
    abbrev pub define_length : Bool → Bool → Option ℕ → List ℕ → Desc V → Properties V → Change V
    define_length extensible other length name d props =
        option_map_or (λ v. define_length_value extensible other length name d props)
        d.value (define_plain missing extensible other name d props)

    -- a property of an array is defined
    abbrev pub define_in_array : Bool → Bool → Option ℕ → List ℕ → Desc V → Properties V → Change V
    define_in_array extensible other length name d props =
        if same_name name length_name then define_length extensible other length name d props
        else option_map_or (λ i. define_element extensible other name i d props)
        (index_of name) (define_plain missing extensible other name d props)
