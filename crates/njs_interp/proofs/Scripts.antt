-- The functions of scripts, and runs of their code in the scopes of calls.
use Rattle.std.proofs.Common.{◌≡◌, ℕ, ◌-◌, ◌<◌, ◌≤◌, List, [], ◌∷◌, length, map, Bool, true, false, Option, Some, None, Result, Err, slice_get, refl, sym, ap, ◌∙◌, subst, arith, inl, inr}
use Rattle.std.specs.Prelude.{nat_lt, if◌then◌else◌}
use Rattle.std.specs.Option.{option_map, option_map_or, option_and_then}
use Rattle.std.proofs.lemmas.Bool.{le-ltb, lt-ltb}
use Rattle.std.proofs.lemmas.List.{length-map}
use Rattle.std.proofs.lemmas.Option.{slice_get-map, slice_get_within, slice_get_cases}
use Rattle.njs_tree.specs.declared.tree.Script.{Script}
use Rattle.njs_tree.specs.Early.{repeats}
use Rattle.njs_value.specs.declared.Cause.TheVariants.{NotFunction}
use Rattle.njs_value.specs.declared.ScopeId.{ScopeId}
use Rattle.njs_value.specs.declared.Value.{Value}
use Rattle.njs_code.specs.declared.code.Code.{Code}
use Rattle.njs_code.specs.declared.code.FunctionCode.{FunctionCode}
use Rattle.njs_code.specs.Facts.{HasParams}
use Rattle.njs_meaning.specs.Primitives.{Undefined}
use Rattle.njs_meaning.specs.Values.{PlainValue, Simple}
use Rattle.njs_meaning.specs.PlainHeap.{Variable}
use Rattle.njs_meaning.specs.State.{State, Outcome, Spent}
use Rattle.njs_meaning.specs.Errors.{throw}
use Rattle.njs_meaning.specs.Replies.{Known, state_of}
use Rattle.njs_meaning.specs.Running.{Calls, charge, one_and}
use Rattle.njs_meaning.specs.Places.{assignable}
use Rattle.njs_meaning.specs.Scopes.{with_scope, next_scope}
use Rattle.njs_meaning.specs.Functions.{Function, Program, functions_of, names_of_scope, first_variables, run_body, run_function, call_script, parameter_value}
use Rattle.njs_meaning.specs.Meaning as means
use Rattle.njs_convert.specs.declared.stop.Stop.{Stop}
use Rattle.njs_convert.specs.declared.stop.Stop.TheVariants.{Fuel}
use Rattle.njs_convert.specs.Tells.{Tells, ShowsValue}
use Rattle.njs_simul.specs.Stacks.{Frame}
use Rattle.njs_simul.specs.Compiled.{code_of}
use Rattle.njs_simul.specs.Fits.{Names, Scoped, Good, CallsFare}
use Rattle.njs_simul.specs.Program.{starting, FunctionMeans, ScriptMeans, names_in}
use Rattle.njs_simul.specs.Runs.{Runs}
use Rattle.njs_simul.proofs.FineFunctions.{bindings_of_bound}
use Rattle.njs_simul.proofs.Kept.{fares_scope, scoped_inner}
use Rattle.njs_simul.proofs.Program.{program_means}
use Rattle.njs_interp.specs.Hosts.{behind_own, counts_of}
use Rattle.njs_interp.specs.Stepping.{CountsAre}
use Rattle.njs_interp.specs.Standing.{CallsKeep}
use Rattle.njs_interp.specs.Calling.{CodesOf, own_slots, filled}
use Rattle.njs_interp.proofs.Kept.{map-at}
use Rattle.njs_interp.proofs.Parameters.{first_filled}
use Rattle.njs_interp.proofs.Turning.{run_stopped}

-- ---- a function of a module

is_within : {A : Type 0} (xs : List A) (at : ℕ) → at < length xs → (x : A) × (slice_get xs at ≡ Some x)
is_within xs at below = elim ((slice_get_cases xs at).1) [
  | inl found ↦ (found.0, found.2)
  | inr past ↦ absurd (omega (arith, below, past.0))
]

pub some_is : {A : Type 0} (x y : A) → Some x ≡ Some y → x ≡ y
some_is x y is = cc

map_there : {A B : Type 0} (f : A → B) (xs : List A) (at : ℕ) (x : A) → slice_get xs at ≡ Some x → slice_get (map f xs) at ≡ Some (f x)
map_there f xs at x there = slice_get-map f xs at ∙ ap (option_map f) there

-- a function of a program, and what its code does
pub record FunctionIs (env : Names) (program : Program) (unit number : ℕ) (code : FunctionCode) : Type 0 where
  pub function : Function
  pub found : slice_get (functions_of program unit) number ≡ Some function
  pub means : FunctionMeans env unit (env unit number) function code
  pub distinct : repeats function.params ≡ false

module _ (codes : List Code) (k : Known) (program : Program) (is : CodesOf codes k program) where
  module _ (unit : ℕ) (code : Code) (there : slice_get codes unit ≡ Some code) where
    abbrev compiled : Script → Code
    compiled script = code_of script is.outermost

    pub script_there : (script : Script) × (slice_get is.scripts unit ≡ Some script) × (compiled script ≡ code)
    script_there = map-at compiled is.scripts unit code (ap (λ cs. slice_get cs unit) (sym is.codes_are) ∙ there)

    functions_are : functions_of program unit ≡ means.functions_of script_there.0
    functions_are =
        ap (λ fss. option_map_or (λ (fs : List Function). fs) (slice_get fss unit) []) is.functions
        ∙ ap (λ found. option_map_or (λ (fs : List Function). fs) found []) (map_there means.functions_of is.scripts unit script_there.0 script_there.1)

    module _ (number : ℕ) (f : FunctionCode) (here : slice_get code.functions number ≡ Some f) where
      abbrev env : Names
      env = names_in is.scripts is.outermost

      script_means : ScriptMeans env unit script_there.0 is.outermost
      script_means = (program_means is.scripts is.outermost).scripts_mean unit script_there.0 script_there.1

      coded : slice_get (compiled script_there.0).functions number ≡ Some f
      coded = ap (λ (c : Code). slice_get c.functions number) script_there.2 ∙ here

      within : number < length (means.functions_of script_there.0)
      within = omega (arith, slice_get_within (compiled script_there.0).functions number f coded, script_means.count)

      pub function_is : FunctionIs k.around program unit number f
      function_is =
          let found = is_within (means.functions_of script_there.0) number within in
          subst (λ env. FunctionIs env program unit number f) (sym is.around) (record {
            function = found.0;
            found = ap (λ fs. slice_get fs number) functions_are ∙ found.1;
            means = script_means.functions number found.0 f found.1 coded;
            distinct = (is.distinct unit script_there.0 script_there.1).each number found.0 found.1;
          })

-- ---- what is there

-- the code of a module, and a function of it
pub record CodeThere (codes : List Code) (unit number : ℕ) (slots : List ℕ) : Type 0 where
  pub code : Code
  pub found : slice_get codes unit ≡ Some code
  pub function : FunctionCode
  pub there : slice_get code.functions number ≡ Some function
  pub around : behind_own function.slots ≡ Some slots

pub code_there : (codes : List Code) (unit number : ℕ) (slots : List ℕ) → counts_of codes unit number ≡ Some slots → CodeThere codes unit number slots
code_there codes unit number slots counted = by_code (slice_get codes unit) refl counted
  where
    by_function : (code : Code) → slice_get codes unit ≡ Some code → (f : Option FunctionCode) → slice_get code.functions number ≡ f
        → option_and_then (λ (f : FunctionCode). behind_own f.slots) f ≡ Some slots → CodeThere codes unit number slots
    by_function code found None there counted = cc
    by_function code found (Some f) there counted = record { code = code; found = found; function = f; there = there; around = counted }

    by_code : (code : Option Code) → slice_get codes unit ≡ code
        → option_and_then (λ (code : Code). option_and_then (λ (f : FunctionCode). behind_own f.slots) (slice_get code.functions number)) code ≡ Some slots → CodeThere codes unit number slots
    by_code None found counted = cc
    by_code (Some code) found counted = by_function code found (slice_get code.functions number) refl counted

-- counts are those of a module's functions
pub counts_are : (codes : List Code) (unit : ℕ) (code : Code) → slice_get codes unit ≡ Some code → CountsAre (counts_of codes) unit code.functions
counts_are codes unit code found = record {
  each = λ number f there.
      ap (option_and_then (λ (code : Code). option_and_then (λ (f : FunctionCode). behind_own f.slots) (slice_get code.functions number))) found
      ∙ ap (option_and_then (λ (f : FunctionCode). behind_own f.slots)) there;
}

-- slots with those around them
pub own_of : (slots around : List ℕ) → behind_own slots ≡ Some around → slots ≡ own_slots slots ∷ around
own_of [] around is = cc
own_of (own ∷ rest) around is = let same : rest ≡ around = cc in ap (λ l. own ∷ l) same

-- as many slots as parameters, at least
pub own_params : (slots : List ℕ) (params : ℕ) → HasParams slots params → params ≤ own_slots slots
own_params [] params has = let never : None ≡ Some has.own = has.found in cc
own_params (own ∷ around) params has = let same : own ≡ has.own = cc in omega (arith, same, has.fit)

-- the code that is there, and the function
pub function_there : (codes : List Code) (unit number : ℕ) (slots : List ℕ) → counts_of codes unit number ≡ Some slots → (code : Code) → slice_get codes unit ≡ Some code
    → (f : FunctionCode) × (slice_get code.functions number ≡ Some f) × (behind_own f.slots ≡ Some slots)
function_there codes unit number slots counted code here =
    let there = code_there codes unit number slots counted in
    let same : there.code ≡ code = some_is there.code code (sym there.found ∙ here) in
    (there.function, subst (λ (c : Code). slice_get c.functions number ≡ Some there.function) same there.there, there.around)

pub around_there : (codes : List Code) (unit number : ℕ) (slots : List ℕ) → counts_of codes unit number ≡ Some slots → (code : Code) → slice_get codes unit ≡ Some code
    → (f : FunctionCode) → slice_get code.functions number ≡ Some f → behind_own f.slots ≡ Some slots
around_there codes unit number slots counted code here f is =
    let there = function_there codes unit number slots counted code here in
    let same : there.0 ≡ f = some_is there.0 f (sym there.1 ∙ is) in
    subst (λ (f : FunctionCode). behind_own f.slots ≡ Some slots) same there.2

-- ---- ticks

module _ (after stopped : State → Type 0) (texts : List (List ℕ)) (n ticks left : ℕ) (go : State → Outcome PlainValue) (s : State) (own : s.ticks ≡ ticks) where
  abbrev paid : State
  paid = record s { ticks = s.ticks - n }

  -- what was paid for follows
  pub paid_tells : (r : Result Value Stop) → n ≤ ticks → left ≡ ticks - n → Tells after stopped texts (ShowsValue texts) r (go (record s { ticks = left })) → Tells after stopped texts (ShowsValue texts) r (charge n go s)
  paid_tells r enough is told =
      let free : nat_lt s.ticks n ≡ false = le-ltb s.ticks n (omega (arith, enough, own)) in
      let taken : left ≡ s.ticks - n = is ∙ ap (λ t. t - n) (sym own) in
      subst (λ b. Tells after stopped texts (ShowsValue texts) r (if b then Spent s else go paid)) (sym free)
      (subst (λ t. Tells after stopped texts (ShowsValue texts) r (go (record s { ticks = t }))) taken told)

  -- the ticks are spent
  pub spent_tells : (r : Result Value Stop) → r ≡ Err Fuel → ticks < n → left ≡ ticks → after (record s { ticks = left }) → Tells after stopped texts (ShowsValue texts) r (charge n go s)
  spent_tells r is short kept here =
      let few : nat_lt s.ticks n ≡ true = lt-ltb s.ticks n (omega (arith, short, own)) in
      let same : left ≡ s.ticks = kept ∙ sym own in
      subst (λ b. Tells after stopped texts (ShowsValue texts) r (if b then Spent s else go paid)) (sym few)
      (subst (λ r. Tells after stopped texts (ShowsValue texts) r (Spent s)) (sym is) (subst (λ t. after (record s { ticks = t })) same here))

-- ---- a call

module _ (env : Names) (program : Program) (unit number : ℕ) (code : FunctionCode) (is : FunctionIs env program unit number code) where
  abbrev f : Function
  f = is.function

  pub own_count : own_slots code.slots ≡ length (names_of_scope f)
  own_count = ap own_slots is.means.slots ∙ length-map (names_of_scope f) (λ (name : List ℕ). (name, true))

  module _ (calls : Calls) (scope : ScopeId) (this : PlainValue) (args : List PlainValue) where
    abbrev pub frame_of : Frame
    frame_of = record { calls = calls; unit = unit; this = this; args = args }

    -- in a scope of its own, from a state on
    abbrev pub body_from : State → Outcome PlainValue
    body_from t = run_body f args (record { calls = calls; unit = unit; scope = next_scope t; this = this }) (with_scope scope (first_variables f args) t)

    pub script_is : (s : State) → call_script program calls unit number scope this args s ≡ charge (one_and (length (names_of_scope f)) 8) body_from s
    script_is s = ap (λ found. option_map_or (λ f. run_function calls unit scope f this args s) found (throw NotFunction s)) is.found

    pub body_runs : (t : State) → CallsFare env calls → Scoped (env unit number) t.scopes scope.0 → Good env t
        → Runs (Good env) frame_of code.ops (body_from t) code.ops (starting (length t.scopes)) (with_scope scope (first_variables f args) t)
    body_runs t fare scoped good =
        let variables = first_variables f args in
        is.means.runs (record { frame = frame_of; code = code.ops; outcome = body_from t; fare = fare; unit_is = refl }) (length t.scopes) (with_scope scope variables t) refl
        (scoped_inner (env unit number) (assignable (names_of_scope f)) scope variables t (bindings_of_bound (parameter_value f.params args) (names_of_scope f)) scoped)
        (fares_scope env scope variables t good).good refl

    pub body_filled : map (λ (v : Variable). v.value) (first_variables f args) ≡ filled (Simple Undefined) (own_slots code.slots) code.params args
    body_filled =
        first_filled f args is.distinct
        ∙ ap (λ n. filled (Simple Undefined) n (length f.params) args) (sym own_count)
        ∙ ap (λ n. filled (Simple Undefined) (own_slots code.slots) n args) (sym is.means.params)

    -- a call keeps what is known after want of memory
    module _ (stopped : State → Type 0) (same : (s t : State) → t.zones ≡ s.zones → t.asked ≡ s.asked → stopped s → stopped t) (fare : CallsFare env calls) (keep : CallsKeep stopped calls) where
      body_keeps : (t : State) → Scoped (env unit number) t.scopes scope.0 → Good env t → stopped t → stopped (state_of (body_from t))
      body_keeps t scoped good before =
          let u = with_scope scope (first_variables f args) t in
          run_stopped env frame_of stopped fare keep same code.ops (body_from t) code.ops (starting (length t.scopes)) u (body_runs t fare scoped good) (same t u refl refl before)

      pub script_keeps : (s : State) → Scoped (env unit number) s.scopes scope.0 → Good env s → stopped s → stopped (state_of (call_script program calls unit number scope this args s))
      script_keeps s scoped good before =
          subst (λ o. stopped (state_of o)) (sym (script_is s)) (by (nat_lt s.ticks (one_and (length (names_of_scope f)) 8)))
        where
          paid : State
          paid = record s { ticks = s.ticks - one_and (length (names_of_scope f)) 8 }

          by : (few : Bool) → stopped (state_of (if few then Spent s else body_from paid))
          by true = before
          by false = body_keeps paid scoped (record { each = good.each }) (same s paid refl refl before)
