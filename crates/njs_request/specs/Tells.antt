-- How the steps of an answer show what the definition gives.
use Rattle.std.specs.Prelude.{◌≡◌, ℕ, List, Bool, true, false}
use Rattle.njs_value.specs.declared.Value.{Value}
use Rattle.njs_value.specs.declared.Value.TheVariants.{Undefined, Null, Bool as Truth, Num, Str, Obj}

-- a text shows itself
abbrev pub ShowsContent : List ℕ → List ℕ → Type 0
ShowsContent t text = t ≡ text

-- any text may be given
abbrev pub AnyText : List ℕ → Type 0
AnyText t = Unit {0}

abbrev pub is_undefined : Value → Bool
is_undefined Undefined = true
is_undefined Null = false
is_undefined (Truth b) = false
is_undefined (Num n) = false
is_undefined (Str t) = false
is_undefined (Obj o) = false
