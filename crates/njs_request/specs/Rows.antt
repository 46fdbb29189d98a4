-- The rows of requests in the table of built-in functions.
use Rattle.std.specs.Prelude.{◌≡◌, List, Bool, false}
use Rattle.njs_value.specs.declared.Row.{Row}
use Rattle.njs_meaning.specs.Values.{PlainValue}
use Rattle.njs_meaning.specs.State.{State, Outcome}
use Rattle.njs_meaning.specs.Running.{Calls}
use Rattle.njs_request.specs.Return.{return}

-- the row of `return`
abbrev pub return_row : Row
return_row = record { 0 = 256 }

-- the rows that are answered here
abbrev pub IsRow : Row → Type 0
IsRow row = row ≡ return_row

-- what they answer, whether or not the call came by `new`
abbrev pub answers : Calls → Row → PlainValue → List PlainValue → Bool → State → Outcome PlainValue
answers calls row this args made s = return calls.call this args s

-- none of them may be called by `new`
abbrev pub constructs : Row → Bool
constructs row = false
