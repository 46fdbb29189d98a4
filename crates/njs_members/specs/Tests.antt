-- What is asked of what an object is beside its properties.
use Rattle.std.specs.Prelude.{Bool, true, false}
use Rattle.njs_shared.specs.declared.object.Inner.{Inner}
use Rattle.njs_shared.specs.declared.object.Inner.TheVariants as inner

-- a function
abbrev pub is_function_part : Inner → Bool
is_function_part inner.Plain = false
is_function_part (inner.Script unit code scope) = true
is_function_part (inner.BuiltIn row) = true
is_function_part (inner.Bound target this args) = true
is_function_part (inner.ZoneNumber zone) = false
