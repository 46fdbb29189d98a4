-- The bodies of modules: the names of their scopes, what they lead to, and runs of their code.
use Rattle.std.proofs.Common.{◌≡◌, ℕ, ◌+◌, List, [], ◌∷◌, ◌++◌, length, map, Some, true, slice_get, refl, sym, ap, ◌∙◌, subst, arith}
use Rattle.std.specs.Option.{option_map_or}
use Rattle.std.proofs.lemmas.List.{length-map}
use Rattle.njs_tree.specs.declared.tree.Script.{Script}
use Rattle.njs_code.specs.declared.code.Code.{Code}
use Rattle.njs_code.specs.declared.code.FunctionCode.{FunctionCode}
use Rattle.njs_meaning.specs.Primitives.{Undefined}
use Rattle.njs_meaning.specs.Values.{PlainValue, Simple}
use Rattle.njs_meaning.specs.PlainHeap.{Variable}
use Rattle.njs_meaning.specs.State.{State, Outcome, Gives}
use Rattle.njs_meaning.specs.Running.{Calls}
use Rattle.njs_meaning.specs.Places.{Bindings, Around, assignable}
use Rattle.njs_meaning.specs.Parts.{Declared}
use Rattle.njs_meaning.specs.Scopes.{unbound, with_scope}
use Rattle.njs_meaning.specs.Functions.{Program, each_once}
use Rattle.njs_meaning.specs.Replies.{Known}
use Rattle.njs_meaning.specs.Meaning.{Item_means, script_part, module_names, run_module}
use Rattle.njs_simul.specs.Stacks.{Frame}
use Rattle.njs_simul.specs.EmissionOfStatements.{CodedPart}
use Rattle.njs_simul.specs.Compiled.{Placed, items_part, module_around, code_of}
use Rattle.njs_simul.specs.Fits.{Names, Scoped, Good, Fared, CallsFare}
use Rattle.njs_simul.specs.Program.{starting, names_around, names_in}
use Rattle.njs_simul.specs.Runs.{Runs}
use Rattle.njs_simul.proofs.FineExpressions.{EachFine}
use Rattle.njs_simul.proofs.FineFunctions.{EachStandsIn, bindings_of_unbound, fared_run_module}
use Rattle.njs_simul.proofs.Kept.{fares_scope, scoped_inner}
use Rattle.njs_simul.proofs.Modules.{ItemTied}
use Rattle.njs_simul.proofs.Pairs.{Each}
use Rattle.njs_simul.proofs.Program.{items_tied, program_means}
use Rattle.njs_simul.proofs.TiedParts.{Knows}
use Rattle.njs_interp.specs.Hosts.{behind_own}
use Rattle.njs_interp.specs.Calling.{CodesOf, filled, own_slots}
use Rattle.njs_interp.specs.Entries.{module_by}
use Rattle.njs_interp.proofs.Parameters.{unbound_filled}
use Rattle.njs_interp.proofs.Scripts.{script_there}

each_fine : (env : Names) (unit : ℕ) (names : Around) (ms : List Item_means) (cs : List CodedPart) → Each (ItemTied env unit names) ms cs → EachFine env unit names ms
each_fine env unit names [] [] t = tt
each_fine env unit names (m ∷ ms) (c ∷ cs) t = (t.0.fine, each_fine env unit names ms cs t.1)
each_fine env unit names [] (c ∷ cs) t = absurd t
each_fine env unit names (m ∷ ms) [] t = absurd t

module _ (scripts : List Script) (outermost : Bindings) (unit : ℕ) (script : Script) (there : slice_get scripts unit ≡ Some script) where
  abbrev env : Names
  env = names_in scripts outermost

  abbrev placed : List Placed
  placed = (items_part script.items).functions 0

  abbrev around : Around
  around = module_around (items_part script.items) outermost

  abbrev pub body : FunctionCode
  body = (code_of script outermost).body

  abbrev pub names : List (List ℕ)
  names = module_names script

  known : (number : ℕ) (f : Placed) → slice_get placed number ≡ Some f → env unit number ≡ (f around).around
  known number f is =
      ap (λ o. option_map_or (λ script. names_around script outermost) o (λ number. []) number) there
      ∙ ap (λ o. option_map_or (λ (f : Placed). (f around).around) o []) is

  knows : Knows env unit placed 0 around
  knows at f is = let e : at ≡ 0 + at = omega arith in subst (λ number. env unit number ≡ (f around).around) e (known at f is)

  -- the names of the scope, and the outermost ones
  around_is : around ≡ assignable names ∷ (outermost ∷ [])
  around_is =
      let t = items_tied env unit script.items in
      ap (λ (ds : List Declared). assignable (each_once [] (map (λ d. d.name) ds ++ (items_part script.items).vars)) ∷ (outermost ∷ [])) (sym (t.declared 0))
      ∙ ap (λ vars. assignable (each_once [] (map (λ d. d.name) ((script_part script).declared 0) ++ vars)) ∷ (outermost ∷ [])) (sym t.vars)

  body_count : own_slots body.slots ≡ length names
  body_count = ap (λ (a : Around). own_slots (map length a)) around_is ∙ length-map names (λ (name : List ℕ). (name, true))

  pub body_around : behind_own body.slots ≡ Some (length outermost ∷ [])
  body_around = refl

  pub body_filled : (args : List PlainValue) → map (λ (v : Variable). v.value) (map unbound names) ≡ filled (Simple Undefined) (own_slots body.slots) body.params args
  body_filled args = unbound_filled names args ∙ ap (λ n. filled (Simple Undefined) n 0 args) (sym body_count)

  module _ (calls : Calls) (fare : CallsFare env calls) (s : State) (scoped : Scoped (outermost ∷ []) s.scopes 0) (good : Good env s) where
    -- a module leads from good states to good ones
    pub module_fares : Fared env s (run_module calls unit script s)
    module_fares =
        let t = items_tied env unit script.items in
        fared_run_module env calls fare unit script (outermost ∷ [])
        (subst (λ ds. EachStandsIn env unit (assignable names ∷ (outermost ∷ [])) ds) (sym (t.declared 0)) (subst (λ a. EachStandsIn env unit a ((items_part script.items).declared 0)) around_is (t.declares 0 around knows)))
        (subst (λ a. EachFine env unit a ((script_part script).means 0)) around_is (each_fine env unit around ((script_part script).means 0) ((items_part script.items).means 0) (t.means 0 around knows)))
        s scoped good

    abbrev pub module_frame : Frame
    module_frame = record { calls = calls; unit = unit; this = Simple Undefined; args = [] }

    -- and the code of its body runs as it means
    pub body_runs : Runs (Good env) module_frame body.ops (run_module calls unit script s) body.ops (starting (length s.scopes)) (with_scope (record { 0 = 0 }) (map unbound names) s)
    body_runs =
        let variables = map unbound names in
        ((program_means scripts outermost).scripts_mean unit script there).body (record { frame = module_frame; code = body.ops; outcome = run_module calls unit script s; fare = fare; unit_is = refl })
        (length s.scopes) (with_scope (record { 0 = 0 }) variables s) refl
        (subst (λ a. Scoped a (with_scope (record { 0 = 0 }) variables s).scopes (length s.scopes)) (sym around_is) (scoped_inner (outermost ∷ []) (assignable names) (record { 0 = 0 }) variables s (bindings_of_unbound names) scoped))
        (fares_scope env (record { 0 = 0 }) variables s good).good refl

-- ---- by the codes of a program

-- a run of the code of a module's body, and what it means
pub record ModuleRuns (scripts : List Script) (env : Names) (calls : Calls) (unit : ℕ) (code : Code) (s : State) : Type 0 where
  pub variables : List Variable
  pub outcome : Outcome PlainValue
  pub meant : module_by scripts calls unit s ≡ outcome
  pub fares : Fared env s outcome
  pub filled_by : (args : List PlainValue) → map (λ (v : Variable). v.value) variables ≡ filled (Simple Undefined) (own_slots code.body.slots) code.body.params args
  pub runs : Runs (Good env) (record { calls = calls; unit = unit; this = Simple Undefined; args = [] }) code.body.ops outcome code.body.ops (starting (length s.scopes)) (with_scope (record { 0 = 0 }) variables s)

pub module_runs : (codes : List Code) (k : Known) (program : Program) (of : CodesOf codes k program) (unit : ℕ) (code : Code) → slice_get codes unit ≡ Some code → (calls : Calls) → CallsFare k.around calls
    → (s : State) → Scoped (of.outermost ∷ []) s.scopes 0 → Good k.around s → ModuleRuns of.scripts k.around calls unit code s
module_runs codes k program of unit code here calls fare s scoped good =
    let script = script_there codes k program of unit code here in
    let env : Names = names_in of.scripts of.outermost in
    let fare' : CallsFare env calls = subst (λ (env : Names). CallsFare env calls) of.around fare in
    let good' : Good env s = subst (λ (env : Names). Good env s) of.around good in
    subst (λ (env : Names). ModuleRuns of.scripts env calls unit code s) (sym of.around)
    (subst (λ (c : Code). ModuleRuns of.scripts env calls unit c s) script.2 (record {
      variables = map unbound (module_names script.0);
      outcome = run_module calls unit script.0 s;
      meant = ap (λ found. option_map_or (λ (script : Script). run_module calls unit script s) found (Gives (Simple Undefined) s)) script.1;
      fares = module_fares of.scripts of.outermost unit script.0 script.1 calls fare' s scoped good';
      filled_by = body_filled of.scripts of.outermost unit script.0 script.1;
      runs = body_runs of.scripts of.outermost unit script.0 script.1 calls fare' s scoped good';
    }))
