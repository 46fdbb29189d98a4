-- What the rows of the first heap's table make, one after another.
use Rattle.std.specs.Prelude.{◌≡◌, ℕ, ◌+◌, List, [], ◌∷◌, ◌++◌, ◌&&◌, Bool, true, nat_lt, nat_le, length, Option, fold, codes}
use Rattle.std.specs.Option.{option_map_or}
use Rattle.std.specs.Str.{chars}
use Rattle.njs_value.specs.declared.Class.{Class}
use Rattle.njs_value.specs.declared.Value.{Value}
use Rattle.njs_props.specs.declared.map.Property.{Property}
use Rattle.njs_meaning.specs.declared.prototypes.Prototype.{Prototype}
use Rattle.njs_meaning.specs.Values.{length_value}
use Rattle.njs_meaning.specs.PlainHeap.{PlainObject}
use Rattle.njs_meaning.specs.Objects.{first_props}
use Rattle.njs_meaning.specs.Errors.{place_of, hidden}
use Rattle.njs_convert.specs.declared.first.FirstObject.{FirstObject}
use Rattle.njs_convert.specs.declared.first.FirstObject.TheVariants.{Plain, Errors}
use Rattle.njs_convert.specs.FirstHeap.{prototype_object, error_prototype}

-- the properties of a prototype of errors
abbrev pub named_props : Value → Value → List (List ℕ × Property Value)
named_props name message = (codes "name", record { value = name; flags = hidden }) ∷ (codes "message", record { value = message; flags = hidden }) ∷ []

-- the objects with a new one of a class behind them
abbrev pub with_plain : Class → Option Prototype → List PlainObject → List PlainObject
with_plain class up objects = objects ++ prototype_object class up (first_props length_value class) ∷ []

-- the objects with the one of a row behind them
abbrev pub made : List PlainObject → FirstObject → List PlainObject
made objects (Plain class up) = with_plain class up objects
made objects (Errors up name) = objects ++ error_prototype up (chars name.now) ∷ []

-- those of all rows
pub record HasMade (rows : List FirstObject) (old new : List PlainObject) : Type 0 where
  pub by : new ≡ fold made old rows

-- the prototype of a row is one of so many objects, and a name is short enough for a text
abbrev pub row_fits : ℕ → FirstObject → Bool
row_fits n (Plain class up) = option_map_or (λ up. nat_lt (place_of up) n) up true
row_fits n (Errors up name) = nat_lt (place_of up) n && nat_le (length name.now) 32

-- the prototype of each row is one of so many objects or of an earlier row
abbrev pub rows_fit : ℕ → List FirstObject → Bool
rows_fit n [] = true
rows_fit n (row ∷ rows) = row_fits n row && rows_fit (n + 1) rows
