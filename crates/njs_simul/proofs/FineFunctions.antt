-- What functions and modules mean leads from good states to good ones, and so do calls, however many may be active.
use Rattle.std.proofs.Common.{◌≡◌, ℕ, zero, suc, List, [], ◌∷◌, ◌++◌, length, map, Option, Some, None, Bool, true, false, refl, ap, slice_get, if◌then◌else◌}
use Rattle.std.specs.Option.{option_map_or}
use Rattle.njs_tree.specs.declared.tree.Script.{Script as ScriptTree}
use Rattle.njs_value.specs.declared.Cause.TheVariants.{NotFunction, NotConstructor, CallDepth}
use Rattle.njs_value.specs.declared.Row.{Row}
use Rattle.njs_value.specs.declared.ScopeId.{ScopeId}
use Rattle.njs_meaning.specs.Primitives.{Undefined}
use Rattle.njs_meaning.specs.Values.{PlainValue, Simple, ObjectAt}
use Rattle.njs_meaning.specs.PlainHeap.{PlainObject, PlainInner, Plain, Script, BuiltIn, Bound, ZoneNumber, Variable}
use Rattle.njs_meaning.specs.Places.{Bindings, Around, bindings_of, assignable}
use Rattle.njs_meaning.specs.Chains.{get}
use Rattle.njs_meaning.specs.State.{State, Outcome, Gives, and_then}
use Rattle.njs_meaning.specs.Errors.{throw}
use Rattle.njs_meaning.specs.Conversions.{is_callable}
use Rattle.njs_meaning.specs.Running.{Calls, Context, Runs, one_and, with_object}
use Rattle.njs_meaning.specs.Scopes.{bound, unbound, next_scope, with_scope, assign_name}
use Rattle.njs_meaning.specs.References.{Expression, evaluated}
use Rattle.njs_meaning.specs.Completions.{Completion, Statement, returned}
use Rattle.njs_meaning.specs.Parts.{Declared}
use Rattle.njs_meaning.specs.Functions.{Function, made_in, names_of_scope, arguments_name, parameter_value, first_variables, arguments_object, with_declared, with_arguments, run_body, run_function, Program, functions_of, call_script, call_inner, prototype_name, new_from, or_made, construct_script, construct_inner, inner_at, is_constructor, call_value, construct_value, with_further, calls_at}
use Rattle.njs_meaning.specs.Meaning.{Ending, Done, Exported, Ended, Item_means, ending_of, statement_item, export_item, after_item, run_items, script_part, module_names, run_module}
use Rattle.njs_simul.specs.Fits.{Scoped, Names, FitsInner, Good, Fares, Fared, CallsFare}
use Rattle.njs_simul.specs.Laws.{Fine}
use Rattle.njs_simul.proofs.Kept.{scoped_keeps, scoped_inner, fares_refl, fares_trans, fared_from, fared_then, fared_if, fared_charge, fares_scope, fares_object, fared_throw}
use Rattle.njs_simul.proofs.FineSteps.{fared_assign_name}
use Rattle.njs_simul.proofs.FineExpressions.{EachFine, fine_evaluated, made_so}
use Rattle.njs_simul.proofs.FineStatements.{StatementFine}

-- each declared function stands in scopes with these names
abbrev pub EachStandsIn : Names → ℕ → Around → List Declared → Type 0
EachStandsIn env unit names [] = Unit {0}
EachStandsIn env unit names (d ∷ ds) = (env unit d.number ≡ names) × EachStandsIn env unit names ds

-- a function is fine in its own scope
pub record FunctionFine (env : Names) (unit : ℕ) (around : Around) (f : Function) : Type 0 where
  pub declared : EachStandsIn env unit (assignable (names_of_scope f) ∷ around) f.declared
  pub body : Fine env unit (assignable (names_of_scope f) ∷ around) f.body

-- each function of each module is, in the scopes around it, and what built-in functions answer leads from good states to good ones
pub record ProgramFine (env : Names) (program : Program) : Type 0 where
  pub functions : (unit number : ℕ) (f : Function) → slice_get (functions_of program unit) number ≡ Some f → FunctionFine env unit (env unit number) f
  pub answers : (calls : Calls) → CallsFare env calls → (row : Row) (this : PlainValue) (args : List PlainValue) (by_new : Bool) (s : State) → Good env s
      → Fared env s (program.answers calls row this args by_new s)

-- ---- the names of scopes

pub bindings_of_bound : (value : List ℕ → PlainValue) (names : List (List ℕ)) → bindings_of (map (λ name. bound name (value name)) names) ≡ assignable names
bindings_of_bound value [] = refl
bindings_of_bound value (name ∷ names) = ap (λ bs. (name, true) ∷ bs) (bindings_of_bound value names)

pub bindings_of_unbound : (names : List (List ℕ)) → bindings_of (map unbound names) ≡ assignable names
bindings_of_unbound [] = refl
bindings_of_unbound (name ∷ names) = ap (λ bs. (name, true) ∷ bs) (bindings_of_unbound names)

module _ (env : Names) (unit : ℕ) (names : Around) where
  -- ---- what a body begins with

  pub fine_with_declared : (ds : List Declared) (go : Runs PlainValue) → EachStandsIn env unit names ds → Fine env unit names go → Fine env unit names (with_declared ds go)
  fine_with_declared [] go all h = h
  fine_with_declared (d ∷ ds) go all h = λ x s calls same scoped g.
      fared_then env (made_in x.scope d.number d.params x s) (λ f s. and_then (assign_name d.name f x s) (λ v s. with_declared ds go x s))
      (made_so env unit names x.scope d.number d.params names x s same all.0 scoped g)
      (λ f t k. fared_then env (assign_name d.name f x t) (λ v s. with_declared ds go x s) (fared_assign_name env d.name f x t k.good)
      (λ v u l. fine_with_declared ds go all.1 h x u calls same (scoped_keeps names x.scope.0 (scoped_keeps names x.scope.0 scoped k.keeps) l.keeps) l.good))

  pub fine_with_arguments : (args : List PlainValue) (go : Runs PlainValue) → Fine env unit names go → Fine env unit names (with_arguments args go)
  fine_with_arguments args go h = λ x s calls same scoped g.
      fared_charge env (one_and (length args) 8)
      (λ s. and_then (assign_name arguments_name (ObjectAt (length s.objects)) x (with_object (arguments_object args) s)) (λ v s. go x s)) s g
      (λ t f. let made = with_object (arguments_object args) t in
      let k : Fares env t made = fares_object env (arguments_object args) t tt f.good in
      let kept = fares_trans env f k in
      fared_from env (and_then (assign_name arguments_name (ObjectAt (length t.objects)) x made) (λ v s. go x s))
      (fared_then env (assign_name arguments_name (ObjectAt (length t.objects)) x made) (λ v s. go x s)
      (fared_assign_name env arguments_name (ObjectAt (length t.objects)) x made k.good)
      (λ v u l. h x u calls same (scoped_keeps names x.scope.0 (scoped_keeps names x.scope.0 scoped kept.keeps) l.keeps) l.good)) k)

  fine_if_arguments : (takes : Bool) (args : List PlainValue) (go : Runs PlainValue) → Fine env unit names go
      → Fine env unit names (λ x s. (if takes then with_arguments args else (λ go. go)) go x s)
  fine_if_arguments true args go h = fine_with_arguments args go h
  fine_if_arguments false args go h = h

  pub fine_returned : (body : Runs Completion) → Fine env unit names body → Fine env unit names (λ x s. and_then (body x s) (λ c s. Gives (returned c) s))
  fine_returned body h = λ x s calls same scoped g.
      fared_then env (body x s) (λ c s. Gives (returned c) s) (h x s calls same scoped g) (λ c t f. fares_refl env t f.good)

  pub fine_run_body : (f : Function) (args : List PlainValue) → EachStandsIn env unit names f.declared → Fine env unit names f.body → Fine env unit names (run_body f args)
  fine_run_body f args all h =
      let go : Runs PlainValue = λ x s. and_then (f.body x s) (λ c s. Gives (returned c) s) in
      fine_with_declared f.declared (λ x s. (if f.takes_arguments then with_arguments args else (λ go. go)) go x s) all
      (fine_if_arguments f.takes_arguments args go (fine_returned f.body h))

  -- ---- modules

  fared_after_item : (v : PlainValue) (e : Ending) (next : PlainValue → State → Outcome PlainValue) (s : State) → Good env s → ((w : PlainValue) → Fared env s (next w s))
      → Fared env s (after_item v e next s)
  fared_after_item v Done next s g h = h v
  fared_after_item v (Exported w) next s g h = h w
  fared_after_item v (Ended w) next s g h = fares_refl env s g

  pub fine_run_items : (v : PlainValue) (items : List Item_means) → EachFine env unit names items → Fine env unit names (run_items v items)
  fine_run_items v [] all = λ x s calls same scoped g. fares_refl env s g
  fine_run_items v (i ∷ items) all = λ x s calls same scoped g.
      fared_then env (i x s) (λ e. after_item v e (λ w. run_items w items x)) (all.0 x s calls same scoped g)
      (λ e t f. fared_after_item v e (λ w. run_items w items x) t f.good
      (λ w. fine_run_items w items all.1 x t calls same (scoped_keeps names x.scope.0 scoped f.keeps) f.good))

  pub fine_statement_item : (a : Statement) → StatementFine env unit names a → Fine env unit names (statement_item a)
  fine_statement_item a h = λ x s calls same scoped g.
      fared_then env (a [] x s) (λ c s. Gives (ending_of c) s) (h [] x s calls same scoped g) (λ c t f. fares_refl env t f.good)

  pub fine_export_item : (a : Expression) → Fine env unit names a → Fine env unit names (export_item a)
  fine_export_item a h = λ x s calls same scoped g.
      fared_then env (evaluated a x s) (λ v s. Gives (Exported v) s) (fine_evaluated env unit names a h x s calls same scoped g) (λ v t f. fares_refl env t f.good)

module _ (env : Names) where
  -- what runs in a new scope
  pub fared_in_scope : (unit : ℕ) (around : Around) (bindings : Bindings) (run : Runs PlainValue) → Fine env unit (bindings ∷ around) run
      → (calls : Calls) → CallsFare env calls → (this : PlainValue) (scope : ScopeId) (variables : List Variable) → bindings_of variables ≡ bindings
      → (s : State) → Scoped around s.scopes scope.0 → Good env s
      → Fared env s (run (record { calls = calls; unit = unit; scope = next_scope s; this = this }) (with_scope scope variables s))
  fared_in_scope unit around bindings run h calls fare this scope variables named s scoped g =
      let t = with_scope scope variables s in
      let f : Fares env s t = fares_scope env scope variables s g in
      let x : Context = record { calls = calls; unit = unit; scope = next_scope s; this = this } in
      fared_from env (run x t) (h x t fare refl (scoped_inner around bindings scope variables s named scoped) f.good) f

  pub fared_run_function : (calls : Calls) → CallsFare env calls → (unit : ℕ) (around : Around) (scope : ScopeId) (f : Function) → FunctionFine env unit around f
      → (this : PlainValue) (args : List PlainValue) (s : State) → Scoped around s.scopes scope.0 → Good env s → Fared env s (run_function calls unit scope f this args s)
  fared_run_function calls fare unit around scope f fine this args s scoped g =
      let names = assignable (names_of_scope f) in
      fared_charge env (one_and (length (names_of_scope f)) 8)
      (λ s. run_body f args (record { calls = calls; unit = unit; scope = next_scope s; this = this }) (with_scope scope (first_variables f args) s)) s g
      (λ t k. fared_in_scope unit around names (run_body f args) (fine_run_body env unit (names ∷ around) f args fine.declared fine.body) calls fare this scope
      (first_variables f args) (bindings_of_bound (parameter_value f.params args) (names_of_scope f)) t (scoped_keeps around scope.0 scoped k.keeps) k.good)

  -- a module, below the scopes that stand around it
  pub fared_run_module : (calls : Calls) → CallsFare env calls → (unit : ℕ) (script : ScriptTree) (around : Around)
      → EachStandsIn env unit (assignable (module_names script) ∷ around) ((script_part script).declared 0)
      → EachFine env unit (assignable (module_names script) ∷ around) ((script_part script).means 0)
      → (s : State) → Scoped around s.scopes 0 → Good env s → Fared env s (run_module calls unit script s)
  fared_run_module calls fare unit script around all items s scoped g =
      let names = assignable (module_names script) in
      let run = run_items (Simple Undefined) ((script_part script).means 0) in
      fared_in_scope unit around names (with_declared ((script_part script).declared 0) run)
      (fine_with_declared env unit (names ∷ around) ((script_part script).declared 0) run all
      (fine_run_items env unit (names ∷ around) (Simple Undefined) ((script_part script).means 0) items))
      calls fare (Simple Undefined) (record { 0 = 0 }) (map unbound (module_names script)) (bindings_of_unbound (module_names script)) s scoped g

  -- ---- calls

  fits_by : (scopes : State) (q : Option PlainObject) → ((o : PlainObject) → q ≡ Some o → FitsInner env o.inner scopes.scopes)
      → FitsInner env (option_map_or (λ o. o.inner) q Plain) scopes.scopes
  fits_by s None h = tt
  fits_by s (Some o) h = h o refl

  pub fits_at : (at : ℕ) (s : State) → Good env s → FitsInner env (inner_at s.objects at) s.scopes
  fits_at at s g = fits_by s (slice_get s.objects at) (g.each at)

  module _ (program : Program) (fine : ProgramFine env program) where
    module _ (calls : Calls) (fare : CallsFare env calls) where
      pub fared_call_script : (unit number : ℕ) (scope : ScopeId) (this : PlainValue) (args : List PlainValue) (s : State) → Scoped (env unit number) s.scopes scope.0 → Good env s
          → Fared env s (call_script program calls unit number scope this args s)
      fared_call_script unit number scope this args s scoped g = by (slice_get (functions_of program unit) number) refl
        where
          by : (q : Option Function) → slice_get (functions_of program unit) number ≡ q
              → Fared env s (option_map_or (λ f. run_function calls unit scope f this args s) q (throw NotFunction s))
          by None is = fared_throw env NotFunction s g
          by (Some f) is = fared_run_function calls fare unit (env unit number) scope f (fine.functions unit number f is) this args s scoped g

      pub fared_call_inner : (inner : PlainInner) (this : PlainValue) (args : List PlainValue) (s : State) → FitsInner env inner s.scopes → Good env s
          → Fared env s (call_inner program calls inner this args s)
      fared_call_inner Plain this args s fits g = fared_throw env NotFunction s g
      fared_call_inner (Script unit number scope) this args s fits g = fared_call_script unit number scope this args s fits g
      fared_call_inner (BuiltIn row) this args s fits g = fine.answers calls fare row this args false s g
      fared_call_inner (Bound target bound_this first) this args s fits g =
          fared_charge env 1 (calls.call (ObjectAt target.0) bound_this (first ++ args)) s g (λ t f. fare.call (ObjectAt target.0) bound_this (first ++ args) t f.good)
      fared_call_inner (ZoneNumber zone) this args s fits g = fared_throw env NotFunction s g

      pub fared_construct_script : (unit number : ℕ) (scope : ScopeId) (at : ℕ) (args : List PlainValue) (s : State) → Scoped (env unit number) s.scopes scope.0 → Good env s
          → Fared env s (construct_script program calls unit number scope at args s)
      fared_construct_script unit number scope at args s scoped g =
          let made = length s.objects in
          let new = new_from (get (Simple Undefined) prototype_name s.objects at) in
          let t = with_object new s in
          let f : Fares env s t = fares_object env new s tt g in
          fared_from env (and_then (call_script program calls unit number scope (ObjectAt made) args t) (λ v s. Gives (or_made made v) s))
          (fared_then env (call_script program calls unit number scope (ObjectAt made) args t) (λ v s. Gives (or_made made v) s)
          (fared_call_script unit number scope (ObjectAt made) args t (scoped_keeps (env unit number) scope.0 scoped f.keeps) f.good)
          (λ v u k. fares_refl env u k.good)) f

      pub fared_construct_inner : (at : ℕ) (inner : PlainInner) (args : List PlainValue) (s : State) → FitsInner env inner s.scopes → Good env s
          → Fared env s (construct_inner program calls at inner args s)
      fared_construct_inner at Plain args s fits g = fared_throw env NotConstructor s g
      fared_construct_inner at (Script unit number scope) args s fits g = fared_construct_script unit number scope at args s fits g
      fared_construct_inner at (BuiltIn row) args s fits g = fine.answers calls fare row (Simple Undefined) args true s g
      fared_construct_inner at (Bound target this first) args s fits g =
          fared_charge env 1 (calls.construct (ObjectAt target.0) (first ++ args)) s g (λ t f. fare.construct (ObjectAt target.0) (first ++ args) t f.good)
      fared_construct_inner at (ZoneNumber zone) args s fits g = fared_throw env NotConstructor s g

    -- where further calls may be active, they lead from good states to good ones
    abbrev pub FurtherFare : Option Calls → Type 0
    FurtherFare None = Unit {0}
    FurtherFare (Some calls) = CallsFare env calls

    call_by : (further : Option Calls) → FurtherFare further → (f : ℕ) (this : PlainValue) (args : List PlainValue) (s : State) → Good env s
        → Fared env s (option_map_or (λ calls. call_inner program calls (inner_at s.objects f) this args s) further (throw CallDepth s))
    call_by None fare f this args s g = fared_throw env CallDepth s g
    call_by (Some calls) fare f this args s g = fared_call_inner calls fare (inner_at s.objects f) this args s (fits_at f s g) g

    pub fared_call_value : (further : Option Calls) → FurtherFare further → (f this : PlainValue) (args : List PlainValue) (s : State) → Good env s
        → Fared env s (call_value program further f this args s)
    fared_call_value further fare (ObjectAt f) this args s g =
        fared_if env s (is_callable s.objects (ObjectAt f)) (option_map_or (λ calls. call_inner program calls (inner_at s.objects f) this args s) further (throw CallDepth s))
        (throw NotFunction s) (call_by further fare f this args s g) (fared_throw env NotFunction s g)
    fared_call_value further fare (Simple p) this args s g = fared_throw env NotFunction s g

    construct_by : (further : Option Calls) → FurtherFare further → (f : ℕ) (args : List PlainValue) (s : State) → Good env s
        → Fared env s (option_map_or (λ calls. construct_inner program calls f (inner_at s.objects f) args s) further (throw CallDepth s))
    construct_by None fare f args s g = fared_throw env CallDepth s g
    construct_by (Some calls) fare f args s g = fared_construct_inner calls fare f (inner_at s.objects f) args s (fits_at f s g) g

    pub fared_construct_value : (further : Option Calls) → FurtherFare further → (f : PlainValue) (args : List PlainValue) (s : State) → Good env s
        → Fared env s (construct_value program further f args s)
    fared_construct_value further fare (ObjectAt f) args s g =
        fared_if env s (is_constructor program (length s.objects) s.objects f)
        (option_map_or (λ calls. construct_inner program calls f (inner_at s.objects f) args s) further (throw CallDepth s))
        (throw NotConstructor s) (construct_by further fare f args s g) (fared_throw env NotConstructor s g)
    fared_construct_value further fare (Simple p) args s g = fared_throw env NotConstructor s g

    pub further_fare : (further : Option Calls) → FurtherFare further → CallsFare env (with_further program further)
    further_fare further fare = record { call = fared_call_value further fare; construct = fared_construct_value further fare }

    -- however many calls may be active
    pub calls_fare : (n : ℕ) → CallsFare env (calls_at program n)
    calls_fare zero = further_fare None tt
    calls_fare (suc n) = further_fare (Some (calls_at program n)) (calls_fare n)
