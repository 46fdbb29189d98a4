-- What calls of a program leave of the dictionaries: by its code, as many calls as may be active.
use Rattle.std.proofs.Common.{◌≡◌, ℕ, zero, suc, List, [], ◌∷◌, ◌++◌, length, map, true, false, Option, Some, None, refl, sym, subst, slice_get, arith}
use Rattle.std.specs.Option.{option_map_or}
use Rattle.njs_tree.specs.declared.tree.Script.{Script}
use Rattle.njs_value.specs.declared.Cause.TheVariants.{NotFunction, NotConstructor, CallDepth}
use Rattle.njs_value.specs.declared.ScopeId.{ScopeId}
use Rattle.njs_code.specs.declared.code.FunctionCode.{FunctionCode}
use Rattle.njs_meaning.specs.Primitives.{Undefined}
use Rattle.njs_meaning.specs.Values.{PlainValue, Simple, ObjectAt}
use Rattle.njs_meaning.specs.PlainHeap.{PlainInner, Plain, Script as Scripted, BuiltIn, Bound, ZoneNumber}
use Rattle.njs_meaning.specs.Chains.{get}
use Rattle.njs_meaning.specs.Places.{Bindings, Around, assignable}
use Rattle.njs_meaning.specs.State.{State, Gives}
use Rattle.njs_meaning.specs.Errors.{throw}
use Rattle.njs_meaning.specs.Conversions.{is_callable}
use Rattle.njs_meaning.specs.Running.{Calls, Context, one_and, with_object}
use Rattle.njs_meaning.specs.Scopes.{next_scope, with_scope}
use Rattle.njs_meaning.specs.Functions.{Function, Program, functions_of, names_of_scope, first_variables, parameter_value, prototype_name, run_body, run_function, call_script, call_inner, construct_script, construct_inner, new_from, or_made, inner_at, is_constructor, call_value, construct_value, with_further, calls_at}
use Rattle.njs_meaning.specs.Meaning as means
use Rattle.njs_meaning.specs.Replies.{state_of}
use Rattle.njs_simul.specs.Compiled.{code_of}
use Rattle.njs_simul.specs.Fits.{Names, Scoped, FitsInner, Good, Fares, CallsFare}
use Rattle.njs_simul.specs.Laws.{Running}
use Rattle.njs_simul.specs.Program.{FunctionMeans, names_in, AnswersFare}
use Rattle.njs_simul.specs.Asking.{CallsEnd, AnswersEnd}
use Rattle.njs_simul.proofs.Kept.{scoped_keeps, scoped_inner, fares_scope, fares_object}
use Rattle.njs_simul.proofs.FineFunctions.{bindings_of_bound, fits_at}
use Rattle.njs_simul.proofs.Program.{mapped_from, program_means}
use Rattle.njs_simul.proofs.AskingSteps.{IsThrough, To, stays, to_then, to_if, to_throw, to_paid_on}
use Rattle.njs_simul.proofs.AskingRuns.{run_to}

there_too : {A B : Type 0} (xs : List A) (ys : List B) (at : ℕ) (x : A) → length ys ≡ length xs → slice_get xs at ≡ Some x → (y : B) × (slice_get ys at ≡ Some y)
there_too [] ys at x same is = absurd (cc)
there_too (a ∷ xs) [] at x same is = absurd (omega (arith, same))
there_too (a ∷ xs) (b ∷ ys) zero x same is = (b, refl)
there_too (a ∷ xs) (b ∷ ys) (suc at) x same is = there_too xs ys at x (omega (arith, same)) is

module _ (R : State → State → Type 0) (through : IsThrough R) (scripts : List Script) (outermost : Bindings) where
  abbrev env : Names
  env = names_in scripts outermost

  -- ---- functions of scripts, by their code

  run_function_to : (calls : Calls) → CallsFare env calls → CallsEnd R env calls → (unit : ℕ) (around : Around) (f : Function) (code : FunctionCode) → FunctionMeans env unit around f code
      → (scope : ScopeId) (this : PlainValue) (args : List PlainValue) (s : State) → Scoped around s.scopes scope.0 → Good env s → To R through s (run_function calls unit scope f this args s)
  run_function_to calls fare ends unit around f code is scope this args s scoped good =
      to_paid_on R through env (one_and (length (names_of_scope f)) 8)
      (λ s. run_body f args (record { calls = calls; unit = unit; scope = next_scope s; this = this }) (with_scope scope (first_variables f args) s)) s good
      (λ t fares.
      let u = with_scope scope (first_variables f args) t in
      let x : Context = record { calls = calls; unit = unit; scope = next_scope t; this = this } in
      let run : Running env unit = record {
        frame = record { calls = calls; unit = unit; this = this; args = args };
        code = code.ops;
        outcome = run_body f args x u;
        fare = fare;
        unit_is = refl;
      } in
      let inner = scoped_inner around (assignable (names_of_scope f)) scope (first_variables f args) t (bindings_of_bound (parameter_value f.params args) (names_of_scope f)) (scoped_keeps around scope.0 scoped fares.keeps) in
      let there : Fares env t u = fares_scope env scope (first_variables f args) t fares.good in
      through.join t u (state_of (run_body f args x u)) (through.same t u refl refl)
      (run_to R through env run.frame code.ops fare ends run.outcome (is.runs run (length t.scopes) u refl inner there.good refl)))

  -- the script of a function, and its code
  pub record Coded (unit number : ℕ) (f : Function) : Type 0 where
    pub code : FunctionCode
    pub means : FunctionMeans env unit (env unit number) f code

  coded_in : (unit number : ℕ) (f : Function) (script : Script) → slice_get scripts unit ≡ Some script → slice_get (means.functions_of script) number ≡ Some f → Coded unit number f
  coded_in unit number f script is there =
      let m = (program_means scripts outermost).scripts_mean unit script is in
      let c = there_too (means.functions_of script) (code_of script outermost).functions number f m.count there in
      record { code = c.0; means = m.functions number f c.0 there c.1 }

  coded_by : (unit number : ℕ) (f : Function) (found : Option (List Function)) → slice_get (map means.functions_of scripts) unit ≡ found → slice_get (option_map_or (λ fs. fs) found []) number ≡ Some f → Coded unit number f
  coded_by unit number f None is there = absurd (cc)
  coded_by unit number f (Some fs) is there =
      let m = mapped_from means.functions_of scripts unit fs is in
      coded_in unit number f m.0 m.1 (subst (λ fs. slice_get fs number ≡ Some f) (sym m.2) there)

  module _ (program : Program) (same : program.functions ≡ map means.functions_of scripts) (fares : AnswersFare env program) (answers : AnswersEnd R env program) where
    coded : (unit number : ℕ) (f : Function) → slice_get (functions_of program unit) number ≡ Some f → Coded unit number f
    coded unit number f there =
        coded_by unit number f (slice_get (map means.functions_of scripts) unit) refl (subst (λ fss. slice_get (option_map_or (λ fs. fs) (slice_get fss unit) []) number ≡ Some f) same there)

    -- ---- calls

    module _ (calls : Calls) (fare : CallsFare env calls) (ends : CallsEnd R env calls) where
      call_script_to : (unit number : ℕ) (scope : ScopeId) (this : PlainValue) (args : List PlainValue) (s : State) → Scoped (env unit number) s.scopes scope.0 → Good env s
          → To R through s (call_script program calls unit number scope this args s)
      call_script_to unit number scope this args s scoped g = by (slice_get (functions_of program unit) number) refl
        where
          by : (q : Option Function) → slice_get (functions_of program unit) number ≡ q → To R through s (option_map_or (λ f. run_function calls unit scope f this args s) q (throw NotFunction s))
          by None is = to_throw R through NotFunction s
          by (Some f) is = let c = coded unit number f is in run_function_to calls fare ends unit (env unit number) f c.code c.means scope this args s scoped g

      call_inner_to : (inner : PlainInner) (this : PlainValue) (args : List PlainValue) (s : State) → FitsInner env inner s.scopes → Good env s → To R through s (call_inner program calls inner this args s)
      call_inner_to Plain this args s fits g = to_throw R through NotFunction s
      call_inner_to (Scripted unit number scope) this args s fits g = call_script_to unit number scope this args s fits g
      call_inner_to (BuiltIn row) this args s fits g = answers calls fare ends row this args false s g
      call_inner_to (Bound target bound_this first) this args s fits g =
          to_paid_on R through env 1 (calls.call (ObjectAt target.0) bound_this (first ++ args)) s g (λ t f. ends.call (ObjectAt target.0) bound_this (first ++ args) t f.good)
      call_inner_to (ZoneNumber zone) this args s fits g = to_throw R through NotFunction s

      construct_script_to : (unit number : ℕ) (scope : ScopeId) (at : ℕ) (args : List PlainValue) (s : State) → Scoped (env unit number) s.scopes scope.0 → Good env s
          → To R through s (construct_script program calls unit number scope at args s)
      construct_script_to unit number scope at args s scoped g =
          let made = length s.objects in
          let object = new_from (get (Simple Undefined) prototype_name s.objects at) in
          let t = with_object object s in
          let f : Fares env s t = fares_object env object s tt g in
          let o = call_script program calls unit number scope (ObjectAt made) args t in
          to_then R through s o (λ v s. Gives (or_made made v) s)
          (through.join s t (state_of o) (through.same s t refl refl) (call_script_to unit number scope (ObjectAt made) args t (scoped_keeps (env unit number) scope.0 scoped f.keeps) f.good)) (λ v u. stays R through u)

      construct_inner_to : (at : ℕ) (inner : PlainInner) (args : List PlainValue) (s : State) → FitsInner env inner s.scopes → Good env s → To R through s (construct_inner program calls at inner args s)
      construct_inner_to at Plain args s fits g = to_throw R through NotConstructor s
      construct_inner_to at (Scripted unit number scope) args s fits g = construct_script_to unit number scope at args s fits g
      construct_inner_to at (BuiltIn row) args s fits g = answers calls fare ends row (Simple Undefined) args true s g
      construct_inner_to at (Bound target this first) args s fits g =
          to_paid_on R through env 1 (calls.construct (ObjectAt target.0) (first ++ args)) s g (λ t f. ends.construct (ObjectAt target.0) (first ++ args) t f.good)
      construct_inner_to at (ZoneNumber zone) args s fits g = to_throw R through NotConstructor s

    -- where further calls may be active, they end so
    abbrev FurtherEnd : Option Calls → Type 0
    FurtherEnd None = Unit {0}
    FurtherEnd (Some calls) = CallsFare env calls × CallsEnd R env calls

    call_by : (further : Option Calls) → FurtherEnd further → (f : ℕ) (this : PlainValue) (args : List PlainValue) (s : State) → Good env s
        → To R through s (option_map_or (λ calls. call_inner program calls (inner_at s.objects f) this args s) further (throw CallDepth s))
    call_by None t f this args s g = to_throw R through CallDepth s
    call_by (Some calls) t f this args s g = call_inner_to calls t.0 t.1 (inner_at s.objects f) this args s (fits_at env f s g) g

    construct_by : (further : Option Calls) → FurtherEnd further → (f : ℕ) (args : List PlainValue) (s : State) → Good env s
        → To R through s (option_map_or (λ calls. construct_inner program calls f (inner_at s.objects f) args s) further (throw CallDepth s))
    construct_by None t f args s g = to_throw R through CallDepth s
    construct_by (Some calls) t f args s g = construct_inner_to calls t.0 t.1 f (inner_at s.objects f) args s (fits_at env f s g) g

    call_value_to : (further : Option Calls) → FurtherEnd further → (f this : PlainValue) (args : List PlainValue) (s : State) → Good env s → To R through s (call_value program further f this args s)
    call_value_to further t (ObjectAt f) this args s g =
        to_if R through s (is_callable s.objects (ObjectAt f)) (option_map_or (λ calls. call_inner program calls (inner_at s.objects f) this args s) further (throw CallDepth s)) (throw NotFunction s)
        (call_by further t f this args s g) (to_throw R through NotFunction s)
    call_value_to further t (Simple p) this args s g = to_throw R through NotFunction s

    construct_value_to : (further : Option Calls) → FurtherEnd further → (f : PlainValue) (args : List PlainValue) (s : State) → Good env s → To R through s (construct_value program further f args s)
    construct_value_to further t (ObjectAt f) args s g =
        to_if R through s (is_constructor program (length s.objects) s.objects f)
        (option_map_or (λ calls. construct_inner program calls f (inner_at s.objects f) args s) further (throw CallDepth s)) (throw NotConstructor s)
        (construct_by further t f args s g) (to_throw R through NotConstructor s)
    construct_value_to further t (Simple p) args s g = to_throw R through NotConstructor s

    further_end : (further : Option Calls) → FurtherEnd further → CallsEnd R env (with_further program further)
    further_end further t = record { call = call_value_to further t; construct = construct_value_to further t }

    -- however many calls may be active
    pub calls_end : (n : ℕ) → CallsEnd R env (calls_at program n)
    calls_end zero = further_end None tt
    calls_end (suc n) = further_end (Some (calls_at program n)) ((program_means scripts outermost).calls_fare program same fares n, calls_end n)
