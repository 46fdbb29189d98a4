-- What functions and modules mean, and calls of a program, end from every state as what built-in functions answer does.
use Rattle.std.proofs.Common.{◌≡◌, ℕ, zero, suc, List, [], ◌∷◌, ◌++◌, length, map, Option, Some, None, Bool, true, false, if◌then◌else◌, refl, sym, subst, slice_get}
use Rattle.std.specs.Option.{option_map_or}
use Rattle.njs_tree.specs.declared.tree.Script.{Script}
use Rattle.njs_tree.specs.declared.tree.Item.{Item}
use Rattle.njs_tree.specs.declared.tree.Item.TheVariants as items
use Rattle.njs_value.specs.declared.Cause.TheVariants.{NotFunction, NotConstructor, CallDepth}
use Rattle.njs_value.specs.declared.ScopeId.{ScopeId}
use Rattle.njs_meaning.specs.Primitives.{Undefined}
use Rattle.njs_meaning.specs.Values.{PlainValue, Simple, ObjectAt}
use Rattle.njs_meaning.specs.PlainHeap.{PlainInner, Plain, Script as Scripted, BuiltIn, Bound, ZoneNumber}
use Rattle.njs_meaning.specs.Chains.{get}
use Rattle.njs_meaning.specs.State.{State, Outcome, Gives, and_then}
use Rattle.njs_meaning.specs.Errors.{throw}
use Rattle.njs_meaning.specs.Conversions.{is_callable}
use Rattle.njs_meaning.specs.Running.{Calls, Context, Runs, one_and, with_object}
use Rattle.njs_meaning.specs.Scopes.{unbound, next_scope, with_scope, assign_name}
use Rattle.njs_meaning.specs.References.{evaluated}
use Rattle.njs_meaning.specs.Completions.{returned}
use Rattle.njs_meaning.specs.Parts.{Declared}
use Rattle.njs_meaning.specs.Functions.{Function, made_in, names_of_scope, first_variables, arguments_name, arguments_object, with_declared, with_arguments, run_body, run_function, Program, functions_of, call_script, call_inner, prototype_name, new_from, or_made, construct_script, construct_inner, inner_at, is_constructor, call_value, construct_value, with_further, calls_at}
use Rattle.njs_meaning.specs.Meaning as means
use Rattle.njs_meaning.specs.Meaning.{Ending, Done, Exported, Ended, Item_means, ending_of, after_item, run_items, script_part, module_names, run_module}
use Rattle.njs_meaning.specs.Replies.{state_of}
use Rattle.njs_simul.specs.Asking.{CallsAlwaysEnd, AnswersAlwaysEnd}
use Rattle.njs_simul.proofs.Program.{mapped_from}
use Rattle.njs_simul.proofs.AskingSteps.{IsThrough, To, stays, to_then, to_if, to_charge, to_throw, to_made_in}
use Rattle.njs_simul.proofs.AlwaysExpressions.{Every, Always, to_assign_name, always_evaluated}
use Rattle.njs_simul.proofs.AlwaysStatements.{StatementAlways}
use Rattle.njs_simul.proofs.AlwaysParts.{FunctionAlways, PartAlways, part_leaf, part_one, part_two}
use Rattle.njs_simul.proofs.AlwaysTrees.{always_expression, always_statement}

every_at : {A : Type 0} (is : A → Type 0) (xs : List A) → Every is xs → (at : ℕ) (x : A) → slice_get xs at ≡ Some x → is x
every_at is [] h at x there = absurd (cc)
every_at is (y ∷ xs) h zero x there = let same : y ≡ x = cc in subst is same h.0
every_at is (y ∷ xs) h (suc at) x there = every_at is xs h.1 at x there

module _ (R : State → State → Type 0) (through : IsThrough R) where
  -- ---- what a body begins with

  always_with_declared : (ds : List Declared) (go : Runs PlainValue) → Always R go → Always R (with_declared ds go)
  always_with_declared [] go h = h
  always_with_declared (d ∷ ds) go h = λ x s calls.
      to_then R through s (made_in x.scope d.number d.params x s) (λ f s. and_then (assign_name d.name f x s) (λ v s. with_declared ds go x s)) (to_made_in R through x.scope d.number d.params x s)
      (λ f t. to_then R through t (assign_name d.name f x t) (λ v s. with_declared ds go x s) (to_assign_name R through d.name f x t) (λ v u. always_with_declared ds go h x u calls))

  always_with_arguments : (args : List PlainValue) (go : Runs PlainValue) → Always R go → Always R (with_arguments args go)
  always_with_arguments args go h = λ x s calls.
      to_charge R through (one_and (length args) 8)
      (λ s. and_then (assign_name arguments_name (ObjectAt (length s.objects)) x (with_object (arguments_object args) s)) (λ v s. go x s)) s
      (λ t is. let made = with_object (arguments_object args) t in
      let o = assign_name arguments_name (ObjectAt (length t.objects)) x made in
      to_then R through t o (λ v s. go x s)
      (through.join t made (state_of o) (through.same t made refl refl) (to_assign_name R through arguments_name (ObjectAt (length t.objects)) x made)) (λ v u. h x u calls))

  always_if_arguments : (takes : Bool) (args : List PlainValue) (go : Runs PlainValue) → Always R go → Always R (λ x s. (if takes then with_arguments args else (λ go. go)) go x s)
  always_if_arguments true args go h = always_with_arguments args go h
  always_if_arguments false args go h = h

  always_run_body : (f : Function) (args : List PlainValue) → FunctionAlways R f → Always R (run_body f args)
  always_run_body f args h =
      let go : Runs PlainValue = λ x s. and_then (f.body x s) (λ c s. Gives (returned c) s) in
      always_with_declared f.declared (λ x s. (if f.takes_arguments then with_arguments args else (λ go. go)) go x s)
      (always_if_arguments f.takes_arguments args go (λ x s calls. to_then R through s (f.body x s) (λ c s. Gives (returned c) s) (h x s calls) (λ c t. stays R through t)))

  to_run_function : (calls : Calls) → CallsAlwaysEnd R calls → (unit : ℕ) (scope : ScopeId) (f : Function) → FunctionAlways R f → (this : PlainValue) (args : List PlainValue) (s : State)
      → To R through s (run_function calls unit scope f this args s)
  to_run_function calls ends unit scope f h this args s =
      to_charge R through (one_and (length (names_of_scope f)) 8)
      (λ s. run_body f args (record { calls = calls; unit = unit; scope = next_scope s; this = this }) (with_scope scope (first_variables f args) s)) s
      (λ t is. let u = with_scope scope (first_variables f args) t in
      let x : Context = record { calls = calls; unit = unit; scope = next_scope t; this = this } in
      through.join t u (state_of (run_body f args x u)) (through.same t u refl refl) (always_run_body f args h x u ends))

  -- ---- modules

  to_after_item : (v : PlainValue) (e : Ending) (next : PlainValue → State → Outcome PlainValue) (s : State) → ((w : PlainValue) → To R through s (next w s)) → To R through s (after_item v e next s)
  to_after_item v Done next s h = h v
  to_after_item v (Exported w) next s h = h w
  to_after_item v (Ended w) next s h = stays R through s

  always_run_items : (v : PlainValue) (is : List Item_means) → Every (Always R) is → Always R (run_items v is)
  always_run_items v [] all = λ x s calls. stays R through s
  always_run_items v (i ∷ is) all = λ x s calls.
      to_then R through s (i x s) (λ e. after_item v e (λ w. run_items w is x)) (all.0 x s calls)
      (λ e t. to_after_item v e (λ w. run_items w is x) t (λ w. always_run_items w is all.1 x t calls))

  always_item : (i : Item) → PartAlways R (Always R) (means.item_part i)
  always_item (items.Stmt a) =
      part_one R (StatementAlways R) (Always R) (means.statement a) means.statement_item
      (λ a h x s calls. to_then R through s (a [] x s) (λ c s. Gives (ending_of c) s) (h [] x s calls) (λ c t. stays R through t)) (always_statement R through a)
  always_item (items.Export line a) =
      part_one R (Always R) (Always R) (means.expression a) means.export_item
      (λ a h x s calls. to_then R through s (evaluated a x s) (λ v s. Gives (Exported v) s) (always_evaluated R through a h x s calls) (λ v t. stays R through t)) (always_expression R through a)

  always_items : (is : List Item) → PartAlways R (Every (Always R)) (means.items_part is)
  always_items [] = part_leaf R (Every (Always R)) [] tt
  always_items (i ∷ is) = part_two R (Always R) (Every (Always R)) (Every (Always R)) (means.item_part i) (means.items_part is) (λ a rest. a ∷ rest) (λ a rest h k. (h, k)) (always_item i) (always_items is)

  pub to_run_module : (calls : Calls) → CallsAlwaysEnd R calls → (unit : ℕ) (script : Script) (s : State) → To R through s (run_module calls unit script s)
  to_run_module calls ends unit script s =
      let part = script_part script in
      let run = run_items (Simple Undefined) (part.means 0) in
      let t = with_scope (record { 0 = 0 }) (map unbound (module_names script)) s in
      let x : Context = record { calls = calls; unit = unit; scope = next_scope s; this = Simple Undefined } in
      through.join s t (state_of (with_declared (part.declared 0) run x t)) (through.same s t refl refl)
      (always_with_declared (part.declared 0) run (always_run_items (Simple Undefined) (part.means 0) ((always_items script.items).means 0)) x t ends)

  -- ---- calls

  module _ (scripts : List Script) (program : Program) (same : program.functions ≡ map means.functions_of scripts) (answers : AnswersAlwaysEnd R program) where
    function_by : (number : ℕ) (f : Function) (unit : ℕ) (found : Option (List Function)) → slice_get (map means.functions_of scripts) unit ≡ found → slice_get (option_map_or (λ fs. fs) found []) number ≡ Some f
        → FunctionAlways R f
    function_by number f unit None is there = absurd (cc)
    function_by number f unit (Some fs) is there =
        let m = mapped_from means.functions_of scripts unit fs is in
        every_at (FunctionAlways R) (means.functions_of m.0) ((always_items m.0.items).functions 0) number f (subst (λ fs. slice_get fs number ≡ Some f) (sym m.2) there)

    function_there : (unit number : ℕ) (f : Function) → slice_get (functions_of program unit) number ≡ Some f → FunctionAlways R f
    function_there unit number f there =
        function_by number f unit (slice_get (map means.functions_of scripts) unit) refl (subst (λ fss. slice_get (option_map_or (λ fs. fs) (slice_get fss unit) []) number ≡ Some f) same there)

    module _ (calls : Calls) (ends : CallsAlwaysEnd R calls) where
      to_call_script : (unit number : ℕ) (scope : ScopeId) (this : PlainValue) (args : List PlainValue) (s : State) → To R through s (call_script program calls unit number scope this args s)
      to_call_script unit number scope this args s = by (slice_get (functions_of program unit) number) refl
        where
          by : (q : Option Function) → slice_get (functions_of program unit) number ≡ q → To R through s (option_map_or (λ f. run_function calls unit scope f this args s) q (throw NotFunction s))
          by None is = to_throw R through NotFunction s
          by (Some f) is = to_run_function calls ends unit scope f (function_there unit number f is) this args s

      to_call_inner : (inner : PlainInner) (this : PlainValue) (args : List PlainValue) (s : State) → To R through s (call_inner program calls inner this args s)
      to_call_inner Plain this args s = to_throw R through NotFunction s
      to_call_inner (Scripted unit number scope) this args s = to_call_script unit number scope this args s
      to_call_inner (BuiltIn row) this args s = answers calls ends row this args false s
      to_call_inner (Bound target bound_this first) this args s =
          to_charge R through 1 (calls.call (ObjectAt target.0) bound_this (first ++ args)) s (λ t is. ends.call (ObjectAt target.0) bound_this (first ++ args) t)
      to_call_inner (ZoneNumber zone) this args s = to_throw R through NotFunction s

      to_construct_script : (unit number : ℕ) (scope : ScopeId) (at : ℕ) (args : List PlainValue) (s : State) → To R through s (construct_script program calls unit number scope at args s)
      to_construct_script unit number scope at args s =
          let made = length s.objects in
          let t = with_object (new_from (get (Simple Undefined) prototype_name s.objects at)) s in
          let o = call_script program calls unit number scope (ObjectAt made) args t in
          to_then R through s o (λ v s. Gives (or_made made v) s)
          (through.join s t (state_of o) (through.same s t refl refl) (to_call_script unit number scope (ObjectAt made) args t)) (λ v u. stays R through u)

      to_construct_inner : (at : ℕ) (inner : PlainInner) (args : List PlainValue) (s : State) → To R through s (construct_inner program calls at inner args s)
      to_construct_inner at Plain args s = to_throw R through NotConstructor s
      to_construct_inner at (Scripted unit number scope) args s = to_construct_script unit number scope at args s
      to_construct_inner at (BuiltIn row) args s = answers calls ends row (Simple Undefined) args true s
      to_construct_inner at (Bound target this first) args s = to_charge R through 1 (calls.construct (ObjectAt target.0) (first ++ args)) s (λ t is. ends.construct (ObjectAt target.0) (first ++ args) t)
      to_construct_inner at (ZoneNumber zone) args s = to_throw R through NotConstructor s

    -- where further calls may be active, they end so
    abbrev FurtherEnd : Option Calls → Type 0
    FurtherEnd None = Unit {0}
    FurtherEnd (Some calls) = CallsAlwaysEnd R calls

    call_by : (further : Option Calls) → FurtherEnd further → (f : ℕ) (this : PlainValue) (args : List PlainValue) (s : State)
        → To R through s (option_map_or (λ calls. call_inner program calls (inner_at s.objects f) this args s) further (throw CallDepth s))
    call_by None ends f this args s = to_throw R through CallDepth s
    call_by (Some calls) ends f this args s = to_call_inner calls ends (inner_at s.objects f) this args s

    construct_by : (further : Option Calls) → FurtherEnd further → (f : ℕ) (args : List PlainValue) (s : State)
        → To R through s (option_map_or (λ calls. construct_inner program calls f (inner_at s.objects f) args s) further (throw CallDepth s))
    construct_by None ends f args s = to_throw R through CallDepth s
    construct_by (Some calls) ends f args s = to_construct_inner calls ends f (inner_at s.objects f) args s

    to_call_value : (further : Option Calls) → FurtherEnd further → (f this : PlainValue) (args : List PlainValue) (s : State) → To R through s (call_value program further f this args s)
    to_call_value further ends (ObjectAt f) this args s =
        to_if R through s (is_callable s.objects (ObjectAt f)) (option_map_or (λ calls. call_inner program calls (inner_at s.objects f) this args s) further (throw CallDepth s)) (throw NotFunction s)
        (call_by further ends f this args s) (to_throw R through NotFunction s)
    to_call_value further ends (Simple p) this args s = to_throw R through NotFunction s

    to_construct_value : (further : Option Calls) → FurtherEnd further → (f : PlainValue) (args : List PlainValue) (s : State) → To R through s (construct_value program further f args s)
    to_construct_value further ends (ObjectAt f) args s =
        to_if R through s (is_constructor program (length s.objects) s.objects f) (option_map_or (λ calls. construct_inner program calls f (inner_at s.objects f) args s) further (throw CallDepth s))
        (throw NotConstructor s) (construct_by further ends f args s) (to_throw R through NotConstructor s)
    to_construct_value further ends (Simple p) args s = to_throw R through NotConstructor s

    further_end : (further : Option Calls) → FurtherEnd further → CallsAlwaysEnd R (with_further program further)
    further_end further ends = record { call = to_call_value further ends; construct = to_construct_value further ends }

    -- however many calls may be active
    pub calls_always_end : (n : ℕ) → CallsAlwaysEnd R (calls_at program n)
    calls_always_end zero = further_end None tt
    calls_always_end (suc n) = further_end (Some (calls_at program n)) (calls_always_end n)
