-- Names in scopes (ECMA-262 5.1 §10.2).
use Rattle.std.specs.Prelude.{ℕ, zero, suc, List, [], ◌∷◌, ◌++◌, length, true, false, Option, Some, None, if◌then◌else◌, slice_get, slice_set}
use Rattle.std.specs.Option.{option_map_or, option_and_then}
use Rattle.njs_value.specs.declared.Cause.TheVariants.{ReadOnly}
use Rattle.njs_value.specs.declared.ScopeId.{ScopeId}
use Rattle.njs_props.specs.Names.{same_name}
use Rattle.njs_meaning.specs.Primitives.{Undefined}
use Rattle.njs_meaning.specs.Values.{PlainValue, Simple}
use Rattle.njs_meaning.specs.PlainHeap.{PlainScope, Variable}
use Rattle.njs_meaning.specs.State.{State, Outcome, Gives}
use Rattle.njs_meaning.specs.Errors.{throw}
use Rattle.njs_meaning.specs.Running.{Runs, throw_not_defined}

-- the numbers of the scopes from one outwards, at most n of them: with as many steps as there are scopes these are all,
-- since the chain ends
abbrev pub outwards : ℕ → List PlainScope → ℕ → List ℕ
outwards zero scopes at = []
outwards (suc n) scopes at =
    option_map_or (λ scope. at ∷ option_map_or (λ up. outwards n scopes up.0) scope.parent []) (slice_get scopes at) []

-- the variable of a name
abbrev pub variable : List ℕ → List Variable → Option Variable
variable name [] = None
variable name (v ∷ vs) = if same_name name v.name then Some v else variable name vs

-- the variables, with a value for a name
abbrev pub with_value : List ℕ → PlainValue → List Variable → List Variable
with_value name value [] = []
with_value name value (v ∷ vs) = if same_name name v.name then record v { value = value } ∷ vs else v ∷ with_value name value vs

-- the variable of a name in the scope with a number
abbrev pub variable_at : List ℕ → List PlainScope → ℕ → Option Variable
variable_at name scopes at = option_and_then (λ scope. variable name scope.variables) (slice_get scopes at)

-- where a name stands that was found: the number of the scope, and the variable
pub record Found : Type 0 where
  pub scope : ℕ
  pub variable : Variable

-- a name in the nearest of the scopes that has it (§10.2.2.1)
abbrev pub found_in : List ℕ → List PlainScope → List ℕ → Option Found
found_in name scopes [] = None
found_in name scopes (at ∷ rest) =
    option_map_or (λ v. Some (record { scope = at; variable = v })) (variable_at name scopes at) (found_in name scopes rest)

abbrev pub find : List ℕ → List PlainScope → ScopeId → Option Found
find name scopes scope = found_in name scopes (outwards (length scopes) scopes scope.0)

-- the scopes, with a value for a name in the scope with a number
abbrev pub with_variable : List ℕ → PlainValue → List PlainScope → ℕ → List PlainScope
with_variable name value scopes at =
    option_map_or (λ scope. slice_set scopes at (record scope { variables = with_value name value scope.variables })) (slice_get scopes at) scopes

-- the value of a name (§8.7.1)
abbrev pub read_name : List ℕ → Runs PlainValue
read_name name x s =
    option_map_or (λ found. Gives found.variable.value s) (find name s.scopes x.scope) (throw_not_defined name s)

-- a value for a name (§8.7.2)
abbrev pub assign_found : List ℕ → PlainValue → Found → State → Outcome PlainValue
assign_found name value found s =
    if found.variable.assignable then Gives value (record s { scopes = with_variable name value s.scopes found.scope }) else throw ReadOnly s

abbrev pub assign_name : List ℕ → PlainValue → Runs PlainValue
assign_name name value x s =
    option_map_or (λ found. assign_found name value found s) (find name s.scopes x.scope) (throw_not_defined name s)

-- a name without a value yet, and one with a value
abbrev pub unbound : List ℕ → Variable
unbound name = record { name = name; value = Simple Undefined; assignable = true }

abbrev pub bound : List ℕ → PlainValue → Variable
bound name value = record { name = name; value = value; assignable = true }

abbrev pub fixed : List ℕ → PlainValue → Variable
fixed name value = record { name = name; value = value; assignable = false }

-- the number of the next scope, and the state with it
abbrev pub next_scope : State → ScopeId
next_scope s = record { 0 = length s.scopes }

abbrev pub with_scope : ScopeId → List Variable → State → State
with_scope parent variables s = record s { scopes = s.scopes ++ record { parent = Some parent; variables = variables } ∷ [] }
