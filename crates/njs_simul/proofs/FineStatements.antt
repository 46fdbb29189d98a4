-- What statements mean leads from good states to good ones, where what their parts mean does: all but loops.
use Rattle.std.proofs.Common.{ℕ, List, [], ◌∷◌, ◌++◌, Option, Some, None, Bool, true, false, refl}
use Rattle.std.specs.Option.{option_map_or}
use Rattle.njs_meaning.specs.Values.{PlainValue, is_same}
use Rattle.njs_meaning.specs.Places.{Around}
use Rattle.njs_meaning.specs.State.{State, Outcome, Gives, Throws, Spent, Asks, and_then}
use Rattle.njs_meaning.specs.Conversions.{to_boolean}
use Rattle.njs_meaning.specs.Running.{Context, Runs, choose}
use Rattle.njs_meaning.specs.Scopes.{bound, next_scope, with_scope, assign_name}
use Rattle.njs_meaning.specs.References.{Expression, evaluated}
use Rattle.njs_meaning.specs.Completions.{Completion, Normal, Returned, Broken, Continued, Statement, unless_ended, and_on, in_turn, caught_by, done_at_last, after_switch}
use Rattle.njs_meaning.specs.Meaning.{declare, value_and_on, optional, if_else, value_or_undefined, return, throw_value, Branch, bodies, from_default, from_met, switch, handler, with_handler, with_last, try_catch, labelled, begun_statement, plain, ends_with}
use Rattle.njs_simul.specs.Fits.{Names, Good, Fares, Fared}
use Rattle.njs_simul.specs.Laws.{Given, Fine}
use Rattle.njs_simul.proofs.Kept.{scoped_keeps, scoped_inner, fares_refl, fared_from, fared_then, fared_choose, fared_charge, fares_scope}
use Rattle.njs_simul.proofs.FineSteps.{fared_assign_name}
use Rattle.njs_simul.proofs.FineExpressions.{HeldFine, EachNamedHeldFine, fine_evaluated}

-- a statement is fine, whatever labels stand before it
abbrev pub StatementFine : Names → ℕ → Around → Statement → Type 0
StatementFine env unit names m = (labels : List (List ℕ)) → Fine env unit names (m labels)

abbrev pub EachStatementFine : Names → ℕ → Around → List Statement → Type 0
EachStatementFine env unit names [] = Unit {0}
EachStatementFine env unit names (m ∷ ms) = StatementFine env unit names m × EachStatementFine env unit names ms

abbrev pub HeldStatementFine : Names → ℕ → Around → Option Statement → Type 0
HeldStatementFine env unit names None = Unit {0}
HeldStatementFine env unit names (Some m) = StatementFine env unit names m

-- the block of a `catch` stands in a scope with its name
abbrev pub CaughtFine : Names → ℕ → Around → Option (List ℕ × List Statement) → Type 0
CaughtFine env unit names None = Unit {0}
CaughtFine env unit names (Some caught) = EachStatementFine env unit (((caught.0, true) ∷ []) ∷ names) caught.1

abbrev pub LastFine : Names → ℕ → Around → Option (List Statement) → Type 0
LastFine env unit names None = Unit {0}
LastFine env unit names (Some last) = EachStatementFine env unit names last

pub record BranchFine (env : Names) (unit : ℕ) (names : Around) (b : Branch) : Type 0 where
  pub test : HeldFine env unit names b.test
  pub body : EachStatementFine env unit names b.body

abbrev pub EachBranchFine : Names → ℕ → Around → List Branch → Type 0
EachBranchFine env unit names [] = Unit {0}
EachBranchFine env unit names (b ∷ bs) = BranchFine env unit names b × EachBranchFine env unit names bs

-- ---- what is known of what is given

module _ (env : Names) where
  pub fared_then_so : {A B : Type 0} (is : A → Type 0) {s : State} (o : Outcome A) (f : A → State → Outcome B) → Fared env s o → Given is o
      → ((a : A) (t : State) → is a → Fares env s t → Fared env t (f a t)) → Fared env s (and_then o f)
  fared_then_so is (Gives a t) f h so next = fared_from env (f a t) (next a t so h) h
  fared_then_so is (Throws v t) f h so next = h
  fared_then_so is (Spent t) f h so next = h
  fared_then_so is (Asks zone op t) f h so next = h

pub given_then : {A B : Type 0} (is : B → Type 0) (o : Outcome A) (f : A → State → Outcome B) → ((a : A) (t : State) → Given is (f a t)) → Given is (and_then o f)
given_then is (Gives a t) f so = so a t
given_then is (Throws v t) f so = tt
given_then is (Spent t) f so = tt
given_then is (Asks zone op t) f so = tt

pub given_choose : {A : Type 0} (is : A → Type 0) (b : Bool) (f g : State → Outcome A) (s : State) → Given is (f s) → Given is (g s) → Given is (choose b f g s)
given_choose is true f g s h k = h
given_choose is false f g s h k = k

module _ (env : Names) where
  -- ---- endings

  pub fared_unless_ended : (c : Completion) (next : State → Outcome Completion) (s : State) → Good env s → Fared env s (next s) → Fared env s (unless_ended c next s)
  fared_unless_ended Normal next s g h = h
  fared_unless_ended (Returned v) next s g h = fares_refl env s g
  fared_unless_ended (Broken label) next s g h = fares_refl env s g
  fared_unless_ended (Continued label) next s g h = fares_refl env s g

  pub fared_caught_by : {s : State} (handler : PlainValue → State → Outcome Completion) (o : Outcome Completion) → Fared env s o
      → ((v : PlainValue) (t : State) → Fares env s t → Fared env t (handler v t)) → Fared env s (caught_by handler o)
  fared_caught_by handler (Gives c t) h by = h
  fared_caught_by handler (Throws v t) h by = fared_from env (handler v t) (by v t h) h
  fared_caught_by handler (Spent t) h by = h
  fared_caught_by handler (Asks zone op t) h by = h

  pub fared_done_at_last : {s : State} (last : State → Outcome Completion) (o : Outcome Completion) → Fared env s o
      → ((t : State) → Fares env s t → Fared env t (last t)) → Fared env s (done_at_last last o)
  fared_done_at_last last (Gives c t) h by =
      fared_from env (and_then (last t) (λ d. unless_ended d (Gives c)))
      (fared_then env (last t) (λ d. unless_ended d (Gives c)) (by t h) (λ d u f. fared_unless_ended d (Gives c) u f.good (fares_refl env u f.good))) h
  fared_done_at_last last (Throws v t) h by =
      fared_from env (and_then (last t) (λ d. unless_ended d (Throws v)))
      (fared_then env (last t) (λ d. unless_ended d (Throws v)) (by t h) (λ d u f. fared_unless_ended d (Throws v) u f.good (fares_refl env u f.good))) h
  fared_done_at_last last (Spent t) h by = h
  fared_done_at_last last (Asks zone op t) h by = h

module _ (env : Names) (unit : ℕ) (names : Around) where
  -- ---- one after the other

  pub fine_in_turn : (body : List Statement) → EachStatementFine env unit names body → Fine env unit names (in_turn body)
  fine_in_turn [] all = λ x s calls same scoped g. fares_refl env s g
  fine_in_turn (a ∷ rest) all = λ x s calls same scoped g.
      fared_then env (a [] x s) (λ c. unless_ended c (in_turn rest x)) (all.0 [] x s calls same scoped g)
      (λ c t f. fared_unless_ended env c (in_turn rest x) t f.good (fine_in_turn rest all.1 x t calls same (scoped_keeps names x.scope.0 scoped f.keeps) f.good))

  pub fine_plain : (run : Runs Completion) → Fine env unit names run → StatementFine env unit names (plain run)
  fine_plain run h = λ labels. h

  pub fine_ends_with : (c : Completion) → StatementFine env unit names (ends_with c)
  fine_ends_with c = λ labels x s calls same scoped g. fares_refl env s g

  pub fine_begun_statement : (a : Statement) → StatementFine env unit names a → StatementFine env unit names (begun_statement a)
  fine_begun_statement a h = λ labels x s calls same scoped g.
      fared_charge env 1 (a labels x) s g (λ t f. h labels x t calls same (scoped_keeps names x.scope.0 scoped f.keeps) f.good)

  pub fine_labelled : (label : List ℕ) (body : Statement) → StatementFine env unit names body → StatementFine env unit names (labelled label body)
  fine_labelled label body h = λ labels. h (label ∷ labels)

  -- ---- expressions and declarations

  pub fine_and_on : (run : Runs PlainValue) → Fine env unit names run → Fine env unit names (λ x s. and_on (run x s))
  fine_and_on run h = λ x s calls same scoped g. fared_then env (run x s) (λ v s. Gives Normal s) (h x s calls same scoped g) (λ v t f. fares_refl env t f.good)

  pub fine_value_and_on : (a : Expression) → Fine env unit names a → Fine env unit names (value_and_on a)
  fine_value_and_on a h = fine_and_on (evaluated a) (fine_evaluated env unit names a h)

  pub fine_declare : (vs : List (List ℕ × Option Expression)) → EachNamedHeldFine env unit names vs → Fine env unit names (declare vs)
  fine_declare [] all = λ x s calls same scoped g. fares_refl env s g
  fine_declare ((name, None) ∷ vs) all = fine_declare vs all.1
  fine_declare ((name, Some a) ∷ vs) all = λ x s calls same scoped g.
      fared_then env (evaluated a x s) (λ v s. and_then (assign_name name v x s) (λ w s. declare vs x s)) (fine_evaluated env unit names a all.0 x s calls same scoped g)
      (λ v t f. fared_then env (assign_name name v x t) (λ w s. declare vs x s) (fared_assign_name env name v x t f.good)
      (λ w u k. fine_declare vs all.1 x u calls same (scoped_keeps names x.scope.0 (scoped_keeps names x.scope.0 scoped f.keeps) k.keeps) k.good))

  -- ---- `if`, `return` and `throw`

  pub fine_optional : (a : Option Statement) → HeldStatementFine env unit names a → Fine env unit names (optional a)
  fine_optional None h = λ x s calls same scoped g. fares_refl env s g
  fine_optional (Some a) h = h []

  pub fine_if_else : (test : Expression) (body : Statement) (other : Option Statement) → Fine env unit names test → StatementFine env unit names body
      → HeldStatementFine env unit names other → StatementFine env unit names (if_else test body other)
  fine_if_else test body other h k l = λ labels x s calls same scoped g.
      fared_then env (evaluated test x s) (λ v. choose (to_boolean v) (body [] x) (optional other x)) (fine_evaluated env unit names test h x s calls same scoped g)
      (λ v t f. let inside = scoped_keeps names x.scope.0 scoped f.keeps in
      fared_choose env t (to_boolean v) (body [] x) (optional other x) (k [] x t calls same inside f.good) (fine_optional other l x t calls same inside f.good))

  pub fine_value_or_undefined : (a : Option Expression) → HeldFine env unit names a → Fine env unit names (value_or_undefined a)
  fine_value_or_undefined None h = λ x s calls same scoped g. fares_refl env s g
  fine_value_or_undefined (Some a) h = fine_evaluated env unit names a h

  pub fine_return : (a : Option Expression) → HeldFine env unit names a → StatementFine env unit names (return a)
  fine_return a h = λ labels x s calls same scoped g.
      fared_then env (value_or_undefined a x s) (λ v s. Gives (Returned v) s) (fine_value_or_undefined a h x s calls same scoped g) (λ v t f. fares_refl env t f.good)

  pub fine_throw_value : (a : Expression) → Fine env unit names a → StatementFine env unit names (throw_value a)
  fine_throw_value a h = λ labels x s calls same scoped g.
      fared_then env {B = Completion} (evaluated a x s) (λ v s. Throws v s) (fine_evaluated env unit names a h x s calls same scoped g) (λ v t f. fares_refl env t f.good)

  -- ---- `switch`

  each_and : (front back : List Statement) → EachStatementFine env unit names front → EachStatementFine env unit names back → EachStatementFine env unit names (front ++ back)
  each_and [] back h k = k
  each_and (a ∷ front) back h k = (h.0, each_and front back h.1 k)

  pub fine_bodies : (bs : List Branch) → EachBranchFine env unit names bs → EachStatementFine env unit names (bodies bs)
  fine_bodies [] all = tt
  fine_bodies (b ∷ bs) all = each_and b.body (bodies bs) all.0.body (fine_bodies bs all.1)

  default_by : (test : Option Expression) (otherwise here : List Statement) → EachStatementFine env unit names otherwise → EachStatementFine env unit names here
      → EachStatementFine env unit names (option_map_or (λ test. otherwise) test here)
  default_by None otherwise here h k = k
  default_by (Some test) otherwise here h k = h

  pub fine_from_default : (bs : List Branch) → EachBranchFine env unit names bs → EachStatementFine env unit names (from_default bs)
  fine_from_default [] all = tt
  fine_from_default (b ∷ bs) all = default_by b.test (from_default bs) (bodies (b ∷ bs)) (fine_from_default bs all.1) (fine_bodies (b ∷ bs) all)

  met_by : (v : PlainValue) (test : Option Expression) (here : List Statement) (next : Runs (List Statement)) → HeldFine env unit names test → Fine env unit names next
      → Fine env unit names (λ x s. option_map_or (λ test. and_then (evaluated test x s) (λ w. choose (is_same v w) (Gives here) (next x))) test (next x s))
  met_by v None here next h k = k
  met_by v (Some test) here next h k = λ x s calls same scoped g.
      fared_then env (evaluated test x s) (λ w. choose (is_same v w) (Gives here) (next x)) (fine_evaluated env unit names test h x s calls same scoped g)
      (λ w t f. fared_choose env t (is_same v w) (Gives here) (next x) (fares_refl env t f.good) (k x t calls same (scoped_keeps names x.scope.0 scoped f.keeps) f.good))

  pub fine_from_met : (v : PlainValue) (bs : List Branch) (otherwise : List Statement) → EachBranchFine env unit names bs → Fine env unit names (from_met v bs otherwise)
  fine_from_met v [] otherwise all = λ x s calls same scoped g. fares_refl env s g
  fine_from_met v (b ∷ bs) otherwise all = met_by v b.test (bodies (b ∷ bs)) (from_met v bs otherwise) all.0.test (fine_from_met v bs otherwise all.1)

  -- what is met are fine statements
  met_given : (v : PlainValue) (test : Option Expression) (here : List Statement) (next : Runs (List Statement)) (x : Context) (s : State)
      → EachStatementFine env unit names here → ((t : State) → Given (EachStatementFine env unit names) (next x t))
      → Given (EachStatementFine env unit names) (option_map_or (λ test. and_then (evaluated test x s) (λ w. choose (is_same v w) (Gives here) (next x))) test (next x s))
  met_given v None here next x s h k = k s
  met_given v (Some test) here next x s h k =
      given_then (EachStatementFine env unit names) (evaluated test x s) (λ w. choose (is_same v w) (Gives here) (next x))
      (λ w t. given_choose (EachStatementFine env unit names) (is_same v w) (Gives here) (next x) t h (k t))

  pub given_from_met : (v : PlainValue) (bs : List Branch) (otherwise : List Statement) (x : Context) (s : State) → EachBranchFine env unit names bs
      → EachStatementFine env unit names otherwise → Given (EachStatementFine env unit names) (from_met v bs otherwise x s)
  given_from_met v [] otherwise x s all h = h
  given_from_met v (b ∷ bs) otherwise x s all h =
      met_given v b.test (bodies (b ∷ bs)) (from_met v bs otherwise) x s (fine_bodies (b ∷ bs) all) (λ t. given_from_met v bs otherwise x t all.1 h)

  pub fine_switch : (value : Expression) (branches : List Branch) → Fine env unit names value → EachBranchFine env unit names branches
      → StatementFine env unit names (switch value branches)
  fine_switch value branches h all = λ labels x s calls same scoped g.
      let otherwise = from_default branches in
      fared_then env (evaluated value x s) (λ v s. and_then (from_met v branches otherwise x s) (λ run s. and_then (in_turn run x s) (λ c s. Gives (after_switch c) s)))
      (fine_evaluated env unit names value h x s calls same scoped g)
      (λ v t f. let inside = scoped_keeps names x.scope.0 scoped f.keeps in
      fared_then_so env (EachStatementFine env unit names) (from_met v branches otherwise x t) (λ run s. and_then (in_turn run x s) (λ c s. Gives (after_switch c) s))
      (fine_from_met v branches otherwise all x t calls same inside f.good)
      (given_from_met v branches otherwise x t all (fine_from_default branches all))
      (λ run u so k. fared_then env (in_turn run x u) (λ c s. Gives (after_switch c) s)
      (fine_in_turn run so x u calls same (scoped_keeps names x.scope.0 inside k.keeps) k.good) (λ c w l. fares_refl env w l.good)))

module _ (env : Names) (unit : ℕ) (names : Around) where
  -- ---- `try`

  pub fine_handler : (name : List ℕ) (body : List Statement) → EachStatementFine env unit (((name, true) ∷ []) ∷ names) body
      → (v : PlainValue) → Fine env unit names (λ x. handler name body x v)
  fine_handler name body all v = λ x s calls same scoped g.
      let variables = bound name v ∷ [] in
      let t = with_scope x.scope variables s in
      let f : Fares env s t = fares_scope env x.scope variables s g in
      fared_from env (handler name body x v s)
      (fine_in_turn env unit (((name, true) ∷ []) ∷ names) body all (record x { scope = next_scope s }) t calls same
      (scoped_inner names ((name, true) ∷ []) x.scope variables s refl scoped) f.good) f

  pub fine_with_handler : (caught : Option (List ℕ × List Statement)) (block : Runs Completion) → CaughtFine env unit names caught → Fine env unit names block
      → Fine env unit names (with_handler caught block)
  fine_with_handler None block all h = h
  fine_with_handler (Some caught) block all h = λ x s calls same scoped g.
      fared_caught_by env (handler caught.0 caught.1 x) (block x s) (h x s calls same scoped g)
      (λ v t f. fine_handler caught.0 caught.1 all v x t calls same (scoped_keeps names x.scope.0 scoped f.keeps) f.good)

  pub fine_with_last : (last : Option (List Statement)) (block : Runs Completion) → LastFine env unit names last → Fine env unit names block
      → Fine env unit names (with_last last block)
  fine_with_last None block all h = h
  fine_with_last (Some last) block all h = λ x s calls same scoped g.
      fared_done_at_last env (in_turn last x) (block x s) (h x s calls same scoped g)
      (λ t f. fine_in_turn env unit names last all x t calls same (scoped_keeps names x.scope.0 scoped f.keeps) f.good)

  pub fine_try_catch : (body : List Statement) (caught : Option (List ℕ × List Statement)) (last : Option (List Statement)) → EachStatementFine env unit names body
      → CaughtFine env unit names caught → LastFine env unit names last → StatementFine env unit names (try_catch body caught last)
  fine_try_catch body caught last h k l = λ labels.
      fine_with_last last (with_handler caught (in_turn body)) l (fine_with_handler caught (in_turn body) k (fine_in_turn env unit names body h))
