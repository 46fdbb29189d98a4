-- Where the members of a value are looked up (ECMA-262 5.1 §8.7).
use Rattle.std.specs.Prelude.{ℕ, List, Bool, true, false, Option, Some, slice_index_or, []}
use Rattle.std.specs.Option.{option_map}
use Rattle.njs_value.specs.declared.TextId.{TextId}
use Rattle.njs_value.specs.declared.Value.{Value}
use Rattle.njs_value.specs.declared.Value.TheVariants as value
use Rattle.njs_meaning.specs.Values.{PlainValue, Simple, ObjectAt}
use Rattle.njs_meaning.specs.Errors.{place_of}
use Rattle.njs_meaning.specs.Members.{prototype_for}

-- the text with a number
abbrev pub text_at : List (List ℕ) → TextId → List ℕ
text_at texts t = slice_index_or texts t.0 []

-- all values but undefined and null have members
abbrev pub has_members : Value → Bool
has_members value.Undefined = false
has_members value.Null = false
has_members (value.Bool b) = true
has_members (value.Num n) = true
has_members (value.Str t) = true
has_members (value.Obj o) = true

-- the number of the object that a value takes its members from
abbrev pub start_of : PlainValue → Option ℕ
start_of (Simple p) = option_map place_of (prototype_for p)
start_of (ObjectAt o) = Some o
