-- What a host runs: the body of a module, a call, or a built-in function, and how that ends.
use Rattle.std.specs.Prelude.{◌≡◌, ℕ, List, [], ◌∷◌, map, false, Some, slice_get, Result, Ok, Err}
use Rattle.std.specs.List.{AllByRecursion}
use Rattle.std.specs.Option.{option_map_or}
use Rattle.njs_tree.specs.declared.tree.Script.{Script}
use Rattle.njs_value.specs.declared.Row.{Row}
use Rattle.njs_value.specs.declared.Value.{Value}
use Rattle.njs_shared.specs.declared.object.Scope.{Scope}
use Rattle.njs_shared.specs.Heap.{Heap, sizes}
use Rattle.njs_shared.specs.Fits.{FitsValue}
use Rattle.njs_clone.specs.Content.{content}
use Rattle.njs_code.specs.declared.code.Code.{Code}
use Rattle.njs_meaning.specs.Primitives.{Undefined}
use Rattle.njs_meaning.specs.Values.{PlainValue, Simple}
use Rattle.njs_meaning.specs.Places.{Bindings}
use Rattle.njs_meaning.specs.Running.{Calls}
use Rattle.njs_meaning.specs.Replies.{Known}
use Rattle.njs_meaning.specs.State as plain
use Rattle.njs_meaning.specs.State.{State, Gives}
use Rattle.njs_meaning.specs.Functions.{Program}
use Rattle.njs_meaning.specs.Meaning.{run_module}
use Rattle.njs_convert.specs.declared.stop.Stop.{Stop}
use Rattle.njs_convert.specs.declared.stop.Stop.TheVariants as stop
use Rattle.njs_simul.specs.Fits.{Scoped}
use Rattle.njs_interp.specs.declared.entry.Entry.{Entry}
use Rattle.njs_interp.specs.declared.entry.Entry.TheVariants as entry
use Rattle.njs_interp.specs.declared.entry.Outcome.{Outcome}
use Rattle.njs_interp.specs.declared.entry.Outcome.TheVariants as outcome
use Rattle.njs_interp.specs.Hosts.{behind_own}
use Rattle.njs_interp.specs.Sits.{SlotsFrom}
use Rattle.njs_interp.specs.Standing.{Stands}

-- the states that a machine, its ticks and its host stand for, where the outermost scope has these names
pub record StandsIn (keeps : Known → State → Type 0) (ticks : ℕ) (k : Known) (outermost : Bindings) (h : Heap) (s : State) : Type 0 where
  pub stands : Stands keeps ticks k h s
  pub scoped : Scoped (outermost ∷ []) s.scopes 0

-- the body of a module of these
abbrev pub module_by : List Script → Calls → ℕ → State → plain.Outcome PlainValue
module_by scripts calls unit s = option_map_or (λ script. run_module calls unit script s) (slice_get scripts unit) (Gives (Simple Undefined) s)

-- what is run, where calls mean these
abbrev pub entry_by : Program → List Script → Calls → List (List ℕ) → Entry → State → plain.Outcome PlainValue
entry_by program scripts calls texts (entry.Body unit) s = module_by scripts calls unit s
entry_by program scripts calls texts (entry.Call callee this args) s = calls.call (content texts callee) (content texts this) (map (content texts) args.now) s
entry_by program scripts calls texts (entry.Row row this args) s = program.answers calls row (content texts this) (map (content texts) args.now) false s

-- the body of a module is there, and the outermost scope with the slots that it counts on
abbrev pub BodyThere : List Code → List Scope → ℕ → Type 0
BodyThere codes scopes unit = (code : Code) × (slice_get codes unit ≡ Some code) × (around : List ℕ) × (behind_own code.body.slots ≡ Some around) × SlotsFrom around scopes 0

-- what is run is there, and its values are the machine's
abbrev pub FitsEntry : (Row → Type 0) → List Code → Heap → Entry → Type 0
FitsEntry rows codes h (entry.Body unit) = BodyThere codes h.scopes unit
FitsEntry rows codes h (entry.Call callee this args) = FitsValue (sizes h) callee × FitsValue (sizes h) this × AllByRecursion (FitsValue (sizes h)) args.now
FitsEntry rows codes h (entry.Row row this args) = rows row × FitsValue (sizes h) this × AllByRecursion (FitsValue (sizes h)) args.now

-- how a run ended, as an answer
abbrev pub answer_of : Outcome → Result Value Stop
answer_of (outcome.Normal v) = Ok v
answer_of (outcome.Throw v) = Err (stop.Throw v)
answer_of outcome.Fuel = Err stop.Fuel
answer_of outcome.NoMemory = Err stop.NoMemory
