-- The code of functions and of the bodies of modules runs as they mean.
use Rattle.std.proofs.Common.{◌≡◌, ℕ, List, [], ◌∷◌, ◌++◌, length, Bool, true, false, None, refl, sym, subst, if◌then◌else◌, nat_lt, arith}
use Rattle.njs_code.specs.declared.op.Kind.TheVariants as kind
use Rattle.njs_code.specs.declared.op.Op.{Op}
use Rattle.njs_meaning.specs.Primitives.{Undefined}
use Rattle.njs_meaning.specs.Values.{PlainValue, Simple, ObjectAt}
use Rattle.njs_meaning.specs.State.{State, Outcome, Gives, Throws, Spent, Asks, and_then}
use Rattle.njs_meaning.specs.Running.{Context, one_and, with_object, Runs as Meaning}
use Rattle.njs_meaning.specs.Scopes.{assign_name}
use Rattle.njs_meaning.specs.Places.{Around}
use Rattle.njs_meaning.specs.References.{Reference, Of, Named}
use Rattle.njs_meaning.specs.Completions.{Completion, Normal, Returned, Broken, Continued, returned}
use Rattle.njs_meaning.specs.Parts.{Declared}
use Rattle.njs_meaning.specs.Functions.{Function, made_in, with_declared, with_arguments, arguments_name, arguments_object, run_body}
use Rattle.njs_simul.specs.Stacks.{Ended, Thrown, Stacks, context, with_operands, push, inner}
use Rattle.njs_simul.specs.Step.{Goes, on, operands_of}
use Rattle.njs_simul.specs.Runs.{LeadsOut, over}
use Rattle.njs_simul.specs.Emission.{Here, Emits, op, deeper, IsName}
use Rattle.njs_simul.specs.EmissionOfStatements as step
use Rattle.njs_simul.specs.EmissionOfStatements.{CodedStatement, CodedFunction, bind, declared, function_body, at_start, in_turn}
use Rattle.njs_simul.specs.Fits.{Names, Good, Fares, Scoped}
use Rattle.njs_simul.specs.Laws.{Stands, EndsWith, Comes, Fine, Running, GoesOn, GoesOut, Follows, RunsOn}
use Rattle.njs_simul.proofs.FineSteps.{fared_assign_name}
use Rattle.njs_simul.proofs.FineExpressions.{made_so}
use Rattle.njs_simul.proofs.FineFunctions.{EachStandsIn}
use Rattle.njs_simul.proofs.Kept.{fares_refl, fares_trans, fares_object, fares_less}
use Rattle.njs_simul.proofs.Runs.{next, comes_then}
use Rattle.njs_simul.proofs.Steps.{stands_kept, paid, over_it, step as takes, asks, Acts}
use Rattle.njs_simul.proofs.References.{assigns}
use Rattle.njs_simul.specs.Program.{starting}

-- a value that is what an expression is
comes_of : (outcome : Outcome PlainValue) (o : Outcome PlainValue) (goal : PlainValue → State → Type 0) (led : Reference → State → Type 0) (thrown : PlainValue → State → Type 0)
    → ((v : PlainValue) (t : State) → goal v t → led (Of v) t)
    → Comes outcome goal thrown o → Comes outcome led thrown (and_then o (λ v s. Gives (Of v) s))
comes_of outcome (Gives v t) goal led thrown go c = go v t c
comes_of outcome (Throws v t) goal led thrown go c = c
comes_of outcome (Spent t) goal led thrown go c = c
comes_of outcome (Asks zone q t) goal led thrown go c = c

bound_ends : (code : List Op) (name : List ℕ) (here : Here) (rest : List Op) → EndsWith code (bind name here rest) → EndsWith code rest
bound_ends code name here rest ends = next code _ rest (next code _ (op kind.Drop (deeper 1 here) rest) ends)

module _ (env : Names) (unit : ℕ) (names : Around) (run : Running env unit) (here : Here) (st : Stacks) (same : here.names ≡ names) where
  abbrev x : Context
  x = context run.frame st

  abbrev pub So : {B : Type 0} → (B → State → Type 0) → Outcome B → Type 0
  So goal o = Comes run.outcome goal (λ e t. GoesOut env unit run here (Thrown e) st t) o

  -- a value for a name
  pub binds : {B : Type 0} (goal : B → State → Type 0) (name : List ℕ) (v : PlainValue) (rest : List Op) (s : State) (f : PlainValue → State → Outcome B) → Stands env here st s
      → ((t : State) → Fares env s t → (w : PlainValue) → So goal (f w t) → GoesOn env unit run rest st t)
      → So goal (and_then (assign_name name v x s) f) → GoesOn env unit run (bind name here rest) (push v st) s
  binds goal name v rest s f stands go c =
      let drops = op kind.Drop (deeper 1 here) rest in
      assigns env unit run here drops st s stands (IsName name) (Named name) v refl
      (comes_then env run.outcome s (assign_name name v x s) f goal _ _ (fared_assign_name env name v x s stands.good)
      (λ w t fares c. takes env unit run kind.Drop (deeper 1 here) rest (push w st) t fares.good (go t fares w c)) c)

  -- the declared functions
  pub declares : (goal : PlainValue → State → Type 0) (ds : List Declared) (rest : List Op) (s : State) (go : Meaning PlainValue) → EachStandsIn env unit names ds → Stands env here st s
      → EndsWith run.code (declared ds here rest)
      → ((t : State) → EndsWith run.code rest → Fares env s t → So goal (go x t) → GoesOn env unit run rest st t)
      → So goal (with_declared ds go x s) → GoesOn env unit run (declared ds here rest) st s
  declares goal [] rest s go all stands ends k c = k s ends (fares_refl env s stands.good) c
  declares goal (d ∷ ds) rest s go all stands ends k c =
      let others = declared ds here rest in let bound = bind d.name here others in
      let names_same = subst (λ n. Scoped n s.scopes (inner st.scopes)) same stands.scoped in
      takes env unit run (kind.Closure d.number d.params None) here bound st s stands.good
      (asks env unit run here (and_then (made_in x.scope d.number d.params x s) (λ v s. Gives (Of v) s)) st st (λ r t. Goes bound (with_operands st (operands_of r ++ st.operands)) t) (over_it st)
      (comes_of run.outcome (made_in x.scope d.number d.params x s) (λ v t. GoesOn env unit run bound (push v st) t) _ _ (λ v t go. go)
      (comes_then env run.outcome s (made_in x.scope d.number d.params x s) (λ f s. and_then (assign_name d.name f x s) (λ v s. with_declared ds go x s)) goal _ _
      (made_so env unit names x.scope d.number d.params names x s run.unit_is all.0 names_same stands.good)
      (λ f t fares c. let stands' = stands_kept env here st s t stands fares in
      binds goal d.name f others t (λ v s. with_declared ds go x s) stands'
      (λ u fares' w c. let kept = fares_trans env fares fares' in
      declares goal ds rest u go all.1 (stands_kept env here st s u stands kept) (bound_ends run.code d.name here others (next run.code _ bound ends))
      (λ y ends fares2 c. k y ends (fares_trans env kept fares2) c) c) c) c)))

  -- `arguments`
  argued : {A : Type 0} (b : Bool) (rest : List Op) (s t : State) (goal : A → State → Type 0) (r : Outcome A)
      → (So goal r → GoesOn env unit run rest (push (ObjectAt (length t.objects)) st) (with_object (arguments_object run.frame.args) t))
      → So goal (if b then Spent s else r)
      → Acts env unit run here (on (if b then Spent s else Gives true t) st (λ paid s. Goes rest (push (ObjectAt (length s.objects)) st) (with_object (arguments_object run.frame.args) s)))
  argued true rest s t goal r go c = c
  argued false rest s t goal r go c = go c

  pub argues : (goal : PlainValue → State → Type 0) (takes_arguments : Bool) (rest : List Op) (s : State) (go : Meaning PlainValue) → Stands env here st s
      → EndsWith run.code (step.with_arguments takes_arguments here rest)
      → ((t : State) → EndsWith run.code rest → Fares env s t → So goal (go x t) → GoesOn env unit run rest st t)
      → So goal ((if takes_arguments then with_arguments run.frame.args else (λ go. go)) go x s) → GoesOn env unit run (step.with_arguments takes_arguments here rest) st s
  argues goal false rest s go stands ends k c = k s ends (fares_refl env s stands.good) c
  argues goal true rest s go stands ends k c =
      let args = run.frame.args in let count = one_and (length args) 8 in let bound = bind arguments_name here rest in
      let t = paid count s in let made = with_object (arguments_object args) t in
      let fewer : Fares env s t = fares_less env s t refl refl (omega arith) stands.good in
      let fares : Fares env s made = fares_trans env fewer (fares_object env (arguments_object args) t tt fewer.good) in
      takes env unit run kind.Arguments here bound st s stands.good
      (argued (nat_lt s.ticks count) bound s t goal (and_then (assign_name arguments_name (ObjectAt (length t.objects)) x made) (λ v s. go x s))
      (λ c. binds goal arguments_name (ObjectAt (length t.objects)) rest made (λ v s. go x s) (stands_kept env here st s made stands fares)
      (λ u fares' w c. k u (bound_ends run.code arguments_name here rest (next run.code _ bound ends)) (fares_trans env fares fares') c) c) c)

-- how a function ends
abbrev pub Final : (env : Names) (unit : ℕ) → Running env unit → PlainValue → State → Type 0
Final env unit run v t = Gives v t ≡ run.outcome

pub comes_final : (env : Names) (unit : ℕ) (run : Running env unit) (here : Here) (st : Stacks) (o : Outcome PlainValue) → here.around ≡ None → o ≡ run.outcome
    → Comes run.outcome (Final env unit run) (λ e t. GoesOut env unit run here (Thrown e) st t) o
comes_final env unit run here st (Gives v t) none is = is
comes_final env unit run here st (Throws v t) none is = subst (λ around. LeadsOut (Good env) run.frame run.code run.outcome around (Thrown v) st t) (sym none) (over (Thrown v) st t is)
comes_final env unit run here st (Spent t) none is = is
comes_final env unit run here st (Asks zone q t) none is = is

module _ (env : Names) (unit : ℕ) (names : Around) (run : Running env unit) (here : Here) (st : Stacks) where
  -- an ending that leads out of a function
  ends_so : (c : Completion) (t : State) → here.around ≡ None → Gives (returned c) t ≡ run.outcome → GoesOut env unit run here (Ended c) st t
  ends_so c t none is = subst (λ around. LeadsOut (Good env) run.frame run.code run.outcome around (Ended c) st t) (sym none) (over (Ended c) st t is)

  -- behind its statements a function gives undefined
  pub returns : (s : State) → here.around ≡ None → Good env s → Gives (Simple Undefined) s ≡ run.outcome
      → GoesOn env unit run (op kind.Undefined here (op kind.Return (deeper 1 here) [])) st s
  returns s none good is =
      takes env unit run kind.Undefined here (op kind.Return (deeper 1 here) []) st s good
      (takes env unit run kind.Return (deeper 1 here) [] (push (Simple Undefined) st) s good (ends_so (Returned (Simple Undefined)) s none is))

  follows_final : (c : Completion) (t : State) → here.around ≡ None → Good env t → Gives (returned c) t ≡ run.outcome
      → Follows env unit run here (op kind.Undefined here (op kind.Return (deeper 1 here) [])) st c t
  follows_final Normal t none good is = returns t none good is
  follows_final (Returned v) t none good is = ends_so (Returned v) t none is
  follows_final (Broken label) t none good is = ends_so (Broken label) t none is
  follows_final (Continued label) t none good is = ends_so (Continued label) t none is

  pub body_runs : (m : Meaning Completion) (emit : Emits) → RunsOn env unit names m emit → Fine env unit names m → here.names ≡ names → here.around ≡ None → (s : State) → Stands env here st s
      → EndsWith run.code (emit here (op kind.Undefined here (op kind.Return (deeper 1 here) [])))
      → Comes run.outcome (Final env unit run) (λ e t. GoesOut env unit run here (Thrown e) st t) (and_then (m (context run.frame st) s) (λ c s. Gives (returned c) s))
      → GoesOn env unit run (emit here (op kind.Undefined here (op kind.Return (deeper 1 here) []))) st s
  body_runs m emit runs fine same none s stands ends c =
      let x = context run.frame st in
      runs run here (op kind.Undefined here (op kind.Return (deeper 1 here) [])) st s same ends stands
      (comes_then env run.outcome s (m x s) (λ c s. Gives (returned c) s) (Final env unit run) _ _
      (fine x s run.fare run.unit_is (subst (λ n. Scoped n s.scopes (inner st.scopes)) same stands.scoped) stands.good)
      (λ d t fares is. follows_final d t none fares.good is) c)

-- a function's code, from its first operation
pub function_runs : (env : Names) (unit : ℕ) (names : Around) (f : Function) (ds : List Declared) (takes_arguments : Bool) (cs : List CodedStatement)
    → f.declared ≡ ds → f.takes_arguments ≡ takes_arguments → EachStandsIn env unit names ds → Fine env unit names f.body → RunsOn env unit names f.body (in_turn cs)
    → (run : Running env unit) (scope : ℕ) (s : State) → run.code ≡ function_body ds takes_arguments cs (at_start names) [] → Scoped names s.scopes scope → Good env s
    → run_body f run.frame.args (context run.frame (starting scope)) s ≡ run.outcome → GoesOn env unit run (function_body ds takes_arguments cs (at_start names) []) (starting scope) s
function_runs env unit names f ds takes_arguments cs declares_same takes_same all fine runs run scope s code scoped good is =
    let here = at_start names in let st = starting scope in let x = context run.frame st in
    let last = in_turn cs here (op kind.Undefined here (op kind.Return (deeper 1 here) [])) in
    let finish : Meaning PlainValue = λ x s. and_then (f.body x s) (λ c s. Gives (returned c) s) in
    let later : Meaning PlainValue = λ x s. (if takes_arguments then with_arguments run.frame.args else (λ go. go)) finish x s in
    let stands : Stands env here st s = record { operands = refl; scopes = refl; lists = refl; endings = refl; scoped = scoped; good = good } in
    let meant : with_declared ds later x s ≡ run.outcome =
    subst (λ b. with_declared ds (λ x s. (if b then with_arguments run.frame.args else (λ go. go)) finish x s) x s ≡ run.outcome) takes_same
    (subst (λ ds. with_declared ds (λ x s. (if f.takes_arguments then with_arguments run.frame.args else (λ go. go)) finish x s) x s ≡ run.outcome) declares_same is) in
    declares env unit names run here st refl (Final env unit run) ds (step.with_arguments takes_arguments here last) s later all stands ([], code)
    (λ t ends fares c. argues env unit names run here st refl (Final env unit run) takes_arguments last t finish (stands_kept env here st s t stands fares) ends
    (λ u ends fares' c. body_runs env unit names run here st f.body (in_turn cs) runs fine refl refl u (stands_kept env here st s u stands (fares_trans env fares fares')) ends c) c)
    (comes_final env unit run here st (with_declared ds later x s) refl meant)
