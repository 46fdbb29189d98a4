-- What is asked of a value, and of what an object is beside its properties.
use Rattle.std.specs.Prelude.{Bool, true, false}
use Rattle.njs_value.specs.declared.Value.{Value}
use Rattle.njs_value.specs.declared.Value.TheVariants as value
use Rattle.njs_shared.specs.declared.object.Inner.{Inner}
use Rattle.njs_shared.specs.declared.object.Inner.TheVariants as inner

-- an object
abbrev pub is_object : Value → Bool
is_object value.Undefined = false
is_object value.Null = false
is_object (value.Bool b) = false
is_object (value.Num n) = false
is_object (value.Str t) = false
is_object (value.Obj o) = true

-- a function
abbrev pub is_function_part : Inner → Bool
is_function_part inner.Plain = false
is_function_part (inner.Script unit code scope) = true
is_function_part (inner.BuiltIn row) = true
is_function_part (inner.Bound target this args) = true
is_function_part (inner.ZoneNumber zone) = false
