-- Calls of values, and of functions of scripts: the program that codes are of, and the scopes that calls begin with.
use Rattle.std.specs.Prelude.{◌≡◌, ◌≤◌, ℕ, zero, suc, List, [], ◌∷◌, length, map, Bool, true, false, Option, Some, None, slice_get, Result}
use Rattle.njs_tree.specs.declared.tree.Script.{Script}
use Rattle.njs_tree.specs.Accepted.{IsAccepted}
use Rattle.njs_tree.specs.Early.{repeats}
use Rattle.njs_value.specs.declared.Cause.{Cause}
use Rattle.njs_value.specs.declared.Cause.TheVariants.{NotFunction, NotConstructor}
use Rattle.njs_value.specs.declared.ObjId.{ObjId}
use Rattle.njs_value.specs.declared.Row.{Row}
use Rattle.njs_value.specs.declared.ScopeId.{ScopeId}
use Rattle.njs_value.specs.declared.Value.{Value}
use Rattle.njs_value.specs.declared.Value.TheVariants as value
use Rattle.njs_shared.specs.declared.object.Scope.{Scope}
use Rattle.njs_shared.specs.Heap.{Heap, sizes}
use Rattle.njs_shared.specs.Fits.{FitsValue}
use Rattle.njs_clone.specs.Content.{content}
use Rattle.njs_clone.specs.StandsFor.{plain_objects}
use Rattle.njs_code.specs.declared.code.Code.{Code}
use Rattle.njs_code.specs.declared.code.FunctionCode.{FunctionCode}
use Rattle.njs_meaning.specs.Primitives.{Undefined}
use Rattle.njs_meaning.specs.Values.{PlainValue, Simple, ObjectAt}
use Rattle.njs_meaning.specs.PlainHeap.{PlainObject, PlainInner, Variable}
use Rattle.njs_meaning.specs.Conversions.{is_callable}
use Rattle.njs_meaning.specs.State.{State, Outcome}
use Rattle.njs_meaning.specs.Running.{Calls}
use Rattle.njs_meaning.specs.Replies.{Known}
use Rattle.njs_meaning.specs.Places.{Bindings}
use Rattle.njs_meaning.specs.Scopes.{with_scope}
use Rattle.njs_meaning.specs.Functions.{Function, Program, call_script, construct_script, call_inner, construct_inner, inner_at, is_constructor}
use Rattle.njs_meaning.specs.Meaning.{functions_of}
use Rattle.njs_convert.specs.declared.stop.Stop.{Stop}
use Rattle.njs_convert.specs.Tells.{Tells, ShowsValue, Grows, FitsAnswer, Lent}
use Rattle.njs_simul.specs.Stacks.{Frame}
use Rattle.njs_simul.specs.Compiled.{code_of}
use Rattle.njs_simul.specs.Fits.{Good}
use Rattle.njs_simul.specs.Program.{names_in, starting}
use Rattle.njs_simul.specs.Runs.{Runs}
use Rattle.njs_interp.specs.declared.own.Way.{Way}
use Rattle.njs_interp.specs.declared.own.Way.TheVariants as way
use Rattle.njs_interp.specs.Sits.{SlotsFrom}
use Rattle.njs_interp.specs.Hosts.{Answers, FitsProgram}
use Rattle.njs_interp.specs.Tells.{IsFrame}

-- ---- programs

-- no function of a script has two parameters of one name (ECMA-262 5.1 §13.1)
pub record DistinctParameters (script : Script) : Type 0 where
  pub each : (number : ℕ) (f : Function) → slice_get (functions_of script) number ≡ Some f → repeats f.params ≡ false

-- so it is of every script that is accepted
abbrev pub AcceptedAreDistinct : Type 0
AcceptedAreDistinct = (script : Script) → IsAccepted script → DistinctParameters script

-- a program of scripts: codes are theirs, for the names of the outermost scope, and the names around their functions are known
pub record CodesOf (codes : List Code) (k : Known) (program : Program) : Type 0 where
  pub scripts : List Script
  pub outermost : Bindings
  pub functions : program.functions ≡ map functions_of scripts
  pub codes_are : codes ≡ map (λ script. code_of script outermost) scripts
  pub around : k.around ≡ names_in scripts outermost
  pub distinct : (unit : ℕ) (script : Script) → slice_get scripts unit ≡ Some script → DistinctParameters script

-- a program whose built-in functions are a host's
pub record IsProgram (means : Answers) (constructs : Row → Bool) (codes : List Code) (k : Known) (program : Program) : Type 0 where
  pub of_codes : CodesOf codes k program
  pub answers : program.answers ≡ means
  pub constructs_are : program.constructs ≡ constructs

-- ---- scopes of calls

-- the slots of a call's scope: as many as it has names, of which the first, the parameters, have the arguments
abbrev pub filled : {V : Type 0} → V → ℕ → ℕ → List V → List V
filled none zero params args = []
filled none (suc n) zero args = none ∷ filled none n zero args
filled none (suc n) (suc params) [] = none ∷ filled none n params []
filled none (suc n) (suc params) (v ∷ args) = v ∷ filled none n params args

abbrev pub scope_filled : ScopeId → ℕ → ℕ → List Value → Scope
scope_filled parent slots params args = record { parent = Some parent; slots = filled value.Undefined slots params args }

-- the slots of a function's own scope
abbrev pub own_slots : List ℕ → ℕ
own_slots [] = 0
own_slots (own ∷ around) = own

-- a function of a module is there, and a scope with the slots that it counts on around it
abbrev pub StandsThere : (ℕ → ℕ → Option (List ℕ)) → List Scope → ℕ → ℕ → ScopeId → Type 0
StandsThere counts scopes unit number scope = (slots : List ℕ) × (counts unit number ≡ Some slots) × SlotsFrom slots scopes scope.0

-- the code of a function ran in a new scope below another: the answer tells the outcome in which a run of it ends, from every
-- state that the machine stood for, with that scope
pub record RunsInScope (k : Known) (follows : Calls → Type 0) (agrees : Type 0) (stands holds stopped : State → Type 0) (unit : ℕ) (this : Value) (args : List Value) (f : FunctionCode) (parent : ScopeId) (old new : Heap) (r : Result Value Stop) : Type 0 where
  pub by : (calls : Calls) (frame : Frame) (outcome : Outcome PlainValue) (variables : List Variable) (s : State) → follows calls → agrees → frame.calls ≡ calls → IsFrame old.texts unit this args frame → stands s
      → map (λ (v : Variable). v.value) variables ≡ filled (Simple Undefined) (own_slots f.slots) f.params (map (content old.texts) args)
      → Runs (Good k.around) frame f.ops outcome f.ops (starting (length s.scopes)) (with_scope parent variables s)
      → Tells holds stopped new.texts (ShowsValue new.texts) r outcome

-- ---- calls of objects

-- a call of a function of a script, or an object made by it
abbrev pub script_by : Program → Calls → List (List ℕ) → Way → ℕ → ℕ → ScopeId → ℕ → List PlainValue → State → Outcome PlainValue
script_by program calls texts (way.Call this) unit number scope f args s = call_script program calls unit number scope (content texts this) args s
script_by program calls texts way.New unit number scope f args s = construct_script program calls unit number scope f args s

-- the same of a built-in function
abbrev pub row_by : Answers → Calls → List (List ℕ) → Way → Row → List PlainValue → State → Outcome PlainValue
row_by means calls texts (way.Call this) row args s = means calls row (content texts this) args false s
row_by means calls texts way.New row args s = means calls row (Simple Undefined) args true s

-- how a bound function leads to what it is bound to
abbrev pub bound_way : Way → Value → Way
bound_way (way.Call this) bound_this = way.Call bound_this
bound_way way.New bound_this = way.New

-- whether an object can be called by `new`
abbrev pub can_construct : Program → List PlainObject → PlainValue → Bool
can_construct program objects (Simple p) = false
can_construct program objects (ObjectAt f) = is_constructor program (length objects) objects f

-- whether a value may be called so
abbrev pub may_enter : Program → Way → List PlainObject → PlainValue → Bool
may_enter program (way.Call this) objects f = is_callable objects f
may_enter program way.New objects f = can_construct program objects f

-- the object that a value is, where it may be called so
abbrev pub IsEntered : Program → Heap → Value → Way → Option ObjId → Type 0
IsEntered program h callee way None = may_enter program way (plain_objects h) (content h.texts callee) ≡ false
IsEntered program h callee way (Some object) = (callee ≡ value.Obj object) × (may_enter program way (plain_objects h) (content h.texts callee) ≡ true)

-- what is thrown where it may not
abbrev pub refusal : Way → Cause
refusal (way.Call this) = NotFunction
refusal way.New = NotConstructor

-- a call of an object, or `new`, by what it is beside its properties
abbrev pub entered_by : Program → Calls → List (List ℕ) → Way → ℕ → PlainInner → List PlainValue → State → Outcome PlainValue
entered_by program calls texts (way.Call this) f inner args s = call_inner program calls inner (content texts this) args s
entered_by program calls texts way.New f inner args s = construct_inner program calls f inner args s

abbrev pub entered : Program → Calls → List (List ℕ) → Way → ℕ → List PlainValue → State → Outcome PlainValue
entered program calls texts way f args s = entered_by program calls texts way f (inner_at s.objects f) args s

-- ---- runs that are entered

-- what no call changes of the interpreter's own caller
abbrev pub lent_by : (fuel host : ℕ) → (ℕ → ℕ → Option (List ℕ)) → Lent
lent_by fuel host counts = record { names = fuel ∷ host ∷ []; counts = counts }

-- what a call leaves, whatever comes of it: the host's replies and machines that fit, no fewer objects, scopes and texts, and no
-- more ticks
pub record Entered (rows : Row → Type 0) (counts : ℕ → ℕ → Option (List ℕ)) (before after : Known → Type 0) (zones : ℕ) (old new : Heap) (r : Result Value Stop) (ticks left count counted : ℕ) : Type 0 where
  pub agrees : (k : Known) → after k → before k
  pub fits : FitsProgram rows zones counts new
  pub grows : Grows old new
  pub value : FitsAnswer (FitsValue (sizes new)) (sizes new) r
  pub spent : left ≤ ticks
  pub steps : count ≤ counted
