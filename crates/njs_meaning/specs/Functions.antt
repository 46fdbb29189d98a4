-- Functions of scripts: their objects (ECMA-262 5.1 §13.2), what a call of one begins with (§10.4.3, §10.5, §10.6), and calls of any
-- value (§13.2.1, §13.2.2, §15.3.4.5).
use Rattle.std.specs.Prelude.{ℕ, zero, suc, ◌+◌, List, [], ◌∷◌, ◌++◌, length, map, Bool, true, false, Option, Some, None, if◌then◌else◌, slice_get, codes}
use Rattle.std.specs.Fmt.{decimal}
use Rattle.std.specs.List.{list_any}
use Rattle.std.specs.Option.{option_map_or}
use Rattle.njs_value.specs.declared.Cause.TheVariants.{NotFunction, NotConstructor, CallDepth}
use Rattle.njs_value.specs.declared.Class.{Class}
use Rattle.njs_value.specs.declared.Class.TheVariants as class
use Rattle.njs_value.specs.declared.Flags.{Flags}
use Rattle.njs_value.specs.declared.ObjId.{ObjId}
use Rattle.njs_value.specs.declared.Row.{Row}
use Rattle.njs_value.specs.declared.ScopeId.{ScopeId}
use Rattle.njs_props.specs.declared.map.Property.{Property}
use Rattle.njs_props.specs.Names.{length_name, same_name}
use Rattle.njs_meaning.specs.declared.prototypes.Prototype.{Prototype}
use Rattle.njs_meaning.specs.declared.prototypes.Prototype.TheVariants as prototype
use Rattle.njs_meaning.specs.Primitives.{Undefined}
use Rattle.njs_meaning.specs.Values.{PlainValue, Simple, ObjectAt, length_value}
use Rattle.njs_meaning.specs.PlainHeap.{PlainObject, PlainInner, Plain, Script, BuiltIn, Bound, ZoneNumber, Variable}
use Rattle.njs_meaning.specs.Properties.{all_flags, only_writable}
use Rattle.njs_meaning.specs.Chains.{get}
use Rattle.njs_meaning.specs.State.{State, Outcome, Gives, Call, and_then}
use Rattle.njs_meaning.specs.Errors.{place_of, throw, hidden}
use Rattle.njs_meaning.specs.Conversions.{is_callable}
use Rattle.njs_meaning.specs.Running.{Calls, Runs, charge, one_and, with_object}
use Rattle.njs_meaning.specs.Scopes.{bound, next_scope, with_scope, assign_name}
use Rattle.njs_meaning.specs.Completions.{Completion, returned}
use Rattle.njs_meaning.specs.Parts.{Declared}

-- a function of a script: what its object says, the names of its scope, and its body
pub record Function : Type 0 where
  pub name : Option (List ℕ)
  pub params : List (List ℕ)
  pub declared : List Declared
  pub takes_arguments : Bool
  pub vars : List (List ℕ)
  pub body : Runs Completion

-- no flags
abbrev pub no_flags : Flags
no_flags = record { writable = false; enumerable = false; configurable = false }

abbrev pub prototype_name : List ℕ
prototype_name = codes "prototype"

-- an ordinary object
abbrev pub object_with : Class → Prototype → List (List ℕ × Property PlainValue) → PlainInner → PlainObject
object_with class up props inner = record {
  class = class;
  prototype = Some (record { 0 = place_of up });
  extensible = true;
  props = props;
  inner = inner;
}

-- the object of a function with so many parameters, and the object under its `prototype`, which comes next
abbrev pub function_object : ℕ → ℕ → PlainInner → PlainObject
function_object params next inner = object_with class.Function prototype.Function (
    (length_name, record { value = length_value params; flags = no_flags })
    ∷ (prototype_name, record { value = ObjectAt next; flags = only_writable }) ∷ []) inner

abbrev pub prototype_object : ℕ → PlainObject
prototype_object f = object_with class.Object prototype.Object ((codes "constructor", record { value = ObjectAt f; flags = hidden }) ∷ []) Plain

-- a function that is made in a scope
abbrev pub with_function : ℕ → PlainInner → State → State
with_function params inner s =
    with_object (prototype_object (length s.objects)) (with_object (function_object params (length s.objects + 1) inner) s)

abbrev pub made_in : ScopeId → ℕ → ℕ → Runs PlainValue
made_in scope number params x s =
    charge 1 (λ s. Gives (ObjectAt (length s.objects)) (with_function params (Script x.unit number scope) s)) s

-- ---- what a call begins with

-- each name once, at its first place
abbrev pub each_once : List (List ℕ) → List (List ℕ) → List (List ℕ)
each_once before [] = []
each_once before (name ∷ names) =
    if list_any (same_name name) before then each_once before names else name ∷ each_once (name ∷ before) names

abbrev pub arguments_name : List ℕ
arguments_name = codes "arguments"

-- the names of a function's scope: its parameters, the functions that it declares, `arguments` where it names it, and its `var`s
abbrev pub scope_names : List (List ℕ) → List Declared → Bool → List (List ℕ) → List (List ℕ)
scope_names params declared takes_arguments vars =
    each_once [] (params ++ map (λ d. d.name) declared ++ (if takes_arguments then arguments_name ∷ [] else []) ++ vars)

abbrev pub names_of_scope : Function → List (List ℕ)
names_of_scope f = scope_names f.params f.declared f.takes_arguments f.vars

-- the variables, where the parameters have their arguments
abbrev pub parameter_value : List (List ℕ) → List PlainValue → List ℕ → PlainValue
parameter_value [] args name = Simple Undefined
parameter_value (p ∷ params) [] name = Simple Undefined
parameter_value (p ∷ params) (v ∷ args) name = if same_name p name then v else parameter_value params args name

abbrev pub first_variables : Function → List PlainValue → List Variable
first_variables f args = map (λ name. bound name (parameter_value f.params args name)) (names_of_scope f)

-- the elements of `arguments` (§10.6)
abbrev pub numbered : ℕ → List PlainValue → List (List ℕ × Property PlainValue)
numbered i [] = []
numbered i (v ∷ vs) = (decimal i, record { value = v; flags = all_flags }) ∷ numbered (i + 1) vs

abbrev pub arguments_object : List PlainValue → PlainObject
arguments_object args =
    object_with class.Arguments prototype.Object
    (numbered 0 args ++ (length_name, record { value = length_value (length args); flags = hidden }) ∷ []) Plain

-- the declared functions are made, in order of the text; the last of a name wins
abbrev pub with_declared : List Declared → Runs PlainValue → Runs PlainValue
with_declared [] go x s = go x s
with_declared (d ∷ ds) go x s =
    and_then (made_in x.scope d.number d.params x s) (λ f s.
    and_then (assign_name d.name f x s) (λ v s. with_declared ds go x s))

abbrev pub with_arguments : List PlainValue → Runs PlainValue → Runs PlainValue
with_arguments args go x s =
    charge (one_and (length args) 8) (λ s.
    and_then (assign_name arguments_name (ObjectAt (length s.objects)) x (with_object (arguments_object args) s)) (λ v s. go x s)) s

-- from the scope on
abbrev pub run_body : Function → List PlainValue → Runs PlainValue
run_body f args x s =
    with_declared f.declared (λ x s.
    (if f.takes_arguments then with_arguments args else (λ go. go)) (λ x s.
    and_then (f.body x s) (λ c s. Gives (returned c) s)) x s) x s

-- a call of a function of a script: it costs ticks by the names of its scope
abbrev pub run_function : Calls → ℕ → ScopeId → Function → PlainValue → List PlainValue → State → Outcome PlainValue
run_function calls unit scope f this args s =
    charge (one_and (length (names_of_scope f)) 8) (λ s.
    run_body f args (record { calls = calls; unit = unit; scope = next_scope s; this = this }) (with_scope scope (first_variables f args) s)) s

-- ---- calls

-- the functions of all modules, and what the built-in functions answer: whether they are called by `new` is the last argument
pub record Program : Type 0 where
  pub functions : List (List Function)
  pub answers : Calls → Row → PlainValue → List PlainValue → Bool → State → Outcome PlainValue
  pub constructs : Row → Bool

abbrev pub functions_of : Program → ℕ → List Function
functions_of program unit = option_map_or (λ fs. fs) (slice_get program.functions unit) []

abbrev pub call_script : Program → Calls → ℕ → ℕ → ScopeId → PlainValue → List PlainValue → State → Outcome PlainValue
call_script program calls unit number scope this args s =
    option_map_or (λ f. run_function calls unit scope f this args s) (slice_get (functions_of program unit) number) (throw NotFunction s)

-- a call, by what the function is beside its properties
abbrev pub call_inner : Program → Calls → PlainInner → PlainValue → List PlainValue → State → Outcome PlainValue
call_inner program calls Plain this args s = throw NotFunction s
call_inner program calls (Script unit number scope) this args s = call_script program calls unit number scope this args s
call_inner program calls (BuiltIn row) this args s = program.answers calls row this args false s
call_inner program calls (Bound target bound_this first) this args s = charge 1 (calls.call (ObjectAt target.0) bound_this (first ++ args)) s
call_inner program calls (ZoneNumber zone) this args s = throw NotFunction s

-- what can be called by `new`: a bound function where its target can
abbrev pub constructs_inner : Program → (ℕ → Bool) → PlainInner → Bool
constructs_inner program target_constructs Plain = false
constructs_inner program target_constructs (Script unit number scope) = true
constructs_inner program target_constructs (BuiltIn row) = program.constructs row
constructs_inner program target_constructs (Bound target this first) = target_constructs target.0
constructs_inner program target_constructs (ZoneNumber zone) = false

-- through at most n bound functions: with as many steps as there are objects these are all, since the way ends
abbrev pub is_constructor : Program → ℕ → List PlainObject → ℕ → Bool
is_constructor program zero objects at = false
is_constructor program (suc n) objects at =
    option_map_or (λ o. constructs_inner program (is_constructor program n objects) o.inner) (slice_get objects at) false

-- a new object of a function: its prototype is the object under `prototype`, if one is there (§13.2.2)
abbrev pub prototype_from : PlainValue → ObjId
prototype_from (ObjectAt o) = record { 0 = o }
prototype_from (Simple p) = record { 0 = place_of prototype.Object }

abbrev pub new_from : PlainValue → PlainObject
new_from up = record { class = class.Object; prototype = Some (prototype_from up); extensible = true; props = []; inner = Plain }

-- an object that was returned takes its place
abbrev pub or_made : ℕ → PlainValue → PlainValue
or_made made (ObjectAt o) = ObjectAt o
or_made made (Simple p) = ObjectAt made

abbrev pub construct_script : Program → Calls → ℕ → ℕ → ScopeId → ℕ → List PlainValue → State → Outcome PlainValue
construct_script program calls unit number scope at args s =
    let made = length s.objects in
    and_then (call_script program calls unit number scope (ObjectAt made) args (with_object (new_from (get (Simple Undefined) prototype_name s.objects at)) s))
    (λ v s. Gives (or_made made v) s)

abbrev pub construct_inner : Program → Calls → ℕ → PlainInner → List PlainValue → State → Outcome PlainValue
construct_inner program calls at Plain args s = throw NotConstructor s
construct_inner program calls at (Script unit number scope) args s = construct_script program calls unit number scope at args s
construct_inner program calls at (BuiltIn row) args s = program.answers calls row (Simple Undefined) args true s
construct_inner program calls at (Bound target this first) args s = charge 1 (calls.construct (ObjectAt target.0) (first ++ args)) s
construct_inner program calls at (ZoneNumber zone) args s = throw NotConstructor s

-- an object by its number
abbrev pub inner_at : List PlainObject → ℕ → PlainInner
inner_at objects at = option_map_or (λ o. o.inner) (slice_get objects at) Plain

abbrev pub call_object : Program → Option Calls → ℕ → PlainValue → List PlainValue → State → Outcome PlainValue
call_object program further f this args s =
    if is_callable s.objects (ObjectAt f)
    then option_map_or (λ calls. call_inner program calls (inner_at s.objects f) this args s) further (throw CallDepth s)
    else throw NotFunction s

abbrev pub call_value : Program → Option Calls → Call
call_value program further (ObjectAt f) this args s = call_object program further f this args s
call_value program further (Simple p) this args s = throw NotFunction s

abbrev pub construct_object : Program → Option Calls → ℕ → List PlainValue → State → Outcome PlainValue
construct_object program further f args s =
    if is_constructor program (length s.objects) s.objects f
    then option_map_or (λ calls. construct_inner program calls f (inner_at s.objects f) args s) further (throw CallDepth s)
    else throw NotConstructor s

abbrev pub construct_value : Program → Option Calls → PlainValue → List PlainValue → State → Outcome PlainValue
construct_value program further (ObjectAt f) args s = construct_object program further f args s
construct_value program further (Simple p) args s = throw NotConstructor s

abbrev pub with_further : Program → Option Calls → Calls
with_further program further = record { call = call_value program further; construct = construct_value program further }

-- calls, where at most so many may be active within them
abbrev pub calls_at : Program → ℕ → Calls
calls_at program zero = with_further program None
calls_at program (suc n) = with_further program (Some (calls_at program n))
