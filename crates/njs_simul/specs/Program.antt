-- The code of whole scripts does what they mean (ECMA-262 5.1 §10.4, §13.2.1).
use Rattle.std.specs.Prelude.{◌≡◌, ℕ, List, [], ◌∷◌, length, map, Bool, Some, slice_get}
use Rattle.std.specs.Option.{option_map_or}
use Rattle.njs_tree.specs.declared.tree.Script.{Script}
use Rattle.njs_code.specs.declared.code.FunctionCode.{FunctionCode}
use Rattle.njs_value.specs.declared.Row.{Row}
use Rattle.njs_meaning.specs.Primitives.{Undefined}
use Rattle.njs_meaning.specs.Values.{PlainValue, Simple}
use Rattle.njs_meaning.specs.State.{State}
use Rattle.njs_meaning.specs.Running.{Calls, Runs as Meaning}
use Rattle.njs_meaning.specs.Places.{Bindings, Around, assignable}
use Rattle.njs_meaning.specs.Functions.{Function, names_of_scope, run_body, with_declared, Program, calls_at}
use Rattle.njs_meaning.specs.Meaning.{run_items, script_part}
use Rattle.njs_meaning.specs.Meaning as means
use Rattle.njs_simul.specs.Stacks.{Stacks, context}
use Rattle.njs_simul.specs.EmissionOfStatements.{slots_of}
use Rattle.njs_simul.specs.Compiled.{Placed, items_part, module_around, code_of}
use Rattle.njs_simul.specs.Fits.{Names, Scoped, Good, Fared, CallsFare}
use Rattle.njs_simul.specs.Laws.{Running, GoesOn}

-- what stands as a call begins: its scope
abbrev pub starting : ℕ → Stacks
starting scope = record { operands = []; scopes = scope ∷ []; lists = []; endings = [] }

-- code that runs as this means, from its first operation, in a scope with the innermost of these names
abbrev pub RunsFrom : (env : Names) (unit : ℕ) → Around → (List PlainValue → Meaning PlainValue) → FunctionCode → Type 0
RunsFrom env unit names m code =
    (run : Running env unit) (scope : ℕ) (s : State) → run.code ≡ code.ops → Scoped names s.scopes scope → Good env s
    → m run.frame.args (context run.frame (starting scope)) s ≡ run.outcome → GoesOn env unit run code.ops (starting scope) s

-- the code of a function: its parameters, the slots that it counts on, and what it does
pub record FunctionMeans (env : Names) (unit : ℕ) (around : Around) (f : Function) (code : FunctionCode) : Type 0 where
  pub params : code.params ≡ length f.params
  pub slots : code.slots ≡ slots_of (assignable (names_of_scope f) ∷ around)
  pub runs : RunsFrom env unit (assignable (names_of_scope f) ∷ around) (run_body f) code

-- the names of the scopes around a module's functions, by their numbers
abbrev pub around_in : List Placed → Around → ℕ → Around
around_in fs around number = option_map_or (λ f. (f around).around) (slice_get fs number) []

abbrev pub names_around : Script → Bindings → ℕ → Around
names_around script outermost =
    let part = items_part script.items in around_in (part.functions 0) (module_around part outermost)

-- of several modules
abbrev pub names_in : List Script → Bindings → Names
names_in scripts outermost unit = option_map_or (λ script. names_around script outermost) (slice_get scripts unit) (λ number. [])

-- the body of a module, in its scope
abbrev pub module_body : Script → Meaning PlainValue
module_body script = with_declared ((script_part script).declared 0) (run_items (Simple Undefined) ((script_part script).means 0))

-- the code of a script does what the script means
pub record ScriptMeans (env : Names) (unit : ℕ) (script : Script) (outermost : Bindings) : Type 0 where
  pub count : length (code_of script outermost).functions ≡ length (means.functions_of script)
  pub functions : (number : ℕ) (f : Function) (code : FunctionCode) → slice_get (means.functions_of script) number ≡ Some f → slice_get (code_of script outermost).functions number ≡ Some code
      → FunctionMeans env unit (env unit number) f code
  pub body : RunsFrom env unit (module_around (items_part script.items) outermost) (λ args. module_body script) (code_of script outermost).body

-- what built-in functions answer leads from good states to good ones
abbrev pub AnswersFare : Names → Program → Type 0
AnswersFare env program =
    (calls : Calls) → CallsFare env calls → (row : Row) (this : PlainValue) (args : List PlainValue) (by_new : Bool) (s : State) → Good env s → Fared env s (program.answers calls row this args by_new s)

-- the program of several scripts: each code does what its script means, and calls lead from good states to good ones
pub record ProgramMeans (scripts : List Script) (outermost : Bindings) : Type 0 where
  pub scripts_mean : (unit : ℕ) (script : Script) → slice_get scripts unit ≡ Some script → ScriptMeans (names_in scripts outermost) unit script outermost
  pub calls_fare : (program : Program) → program.functions ≡ map means.functions_of scripts → AnswersFare (names_in scripts outermost) program
      → (n : ℕ) → CallsFare (names_in scripts outermost) (calls_at program n)

abbrev pub CodeMeans : Type 0
CodeMeans = (scripts : List Script) (outermost : Bindings) → ProgramMeans scripts outermost
