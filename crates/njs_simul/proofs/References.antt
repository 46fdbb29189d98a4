-- References in a run: what is fetched, assigned, called, deleted.
use Rattle.std.proofs.Common.{ℕ, List, [], ◌∷◌, ◌++◌, Bool, true, false, sym, subst, if◌then◌else◌}
use Rattle.njs_tree.specs.declared.tree.UnaryOp.TheVariants as sign
use Rattle.njs_code.specs.declared.op.Kind.TheVariants as kind
use Rattle.njs_code.specs.declared.op.Op.{Op}
use Rattle.njs_meaning.specs.Primitives.{Undefined}
use Rattle.njs_meaning.specs.Values.{PlainValue, Simple}
use Rattle.njs_meaning.specs.State.{State, Outcome, Gives, and_then}
use Rattle.njs_meaning.specs.Running.{Context}
use Rattle.njs_meaning.specs.Scopes.{read_name, assign_name}
use Rattle.njs_meaning.specs.Places.{Around, place_in}
use Rattle.njs_meaning.specs.References.{Reference, Of, Named, Member, Expression, value_of, assigned, deleted, this_of, is_unbound, evaluated}
use Rattle.njs_meaning.specs.Operations.{type_of}
use Rattle.njs_meaning.specs.Meaning.{type_of_reference}
use Rattle.njs_simul.specs.Stacks.{Thrown, Stacks, context, with_operands, push, inner}
use Rattle.njs_simul.specs.Step.{Goes, operands_of}
use Rattle.njs_simul.specs.Emission.{Here, Emits, op, deeper, Form, IsValue, IsName, IsMember, width, load, store, fetch, fetch_kept, assign_to, method, delete_at, Coded, value}
use Rattle.njs_simul.specs.Emission as emit
use Rattle.njs_simul.specs.Fits.{Names, Good, Fared, Scoped}
use Rattle.njs_simul.specs.Laws.{Stands, Comes, HasForm, Running, GoesOn, GoesOut, RunsAs, ExpressionTied}
use Rattle.njs_simul.proofs.Runs.{comes_then, comes_on, comes_all}
use Rattle.njs_simul.proofs.Kept.{fares_refl}
use Rattle.njs_simul.proofs.FineSteps.{fared_read_name}
use Rattle.njs_simul.proofs.Steps.{stands_kept, over_it, over_some, Acts, step, asks}
use Rattle.njs_simul.proofs.Slots.{load_acts, store_acts, type_acts}

module _ (env : Names) (unit : ℕ) (run : Running env unit) (here : Here) (rest : List Op) (st : Stacks) (s : State) (stands : Stands env here st s) where
  -- what comes of a value that is pushed
  abbrev pub Pushes : Outcome PlainValue → Type 0
  Pushes o = Comes run.outcome (λ v t. GoesOn env unit run rest (push v st) t) (λ v t. GoesOut env unit run here (Thrown v) st t) o

  abbrev x : Context
  x = context run.frame st

  abbrev with_reference : Reference → Stacks
  with_reference r = with_operands st (operands_of r ++ st.operands)

  pub loads : (name : List ℕ) → Pushes (read_name name x s) → GoesOn env unit run (op (load name (place_in name here.names)) here rest) st s
  loads name c =
      step env unit run (load name (place_in name here.names)) here rest st s stands.good
      (subst (λ a. Acts env unit run here a) (sym (load_acts run.frame run.code here.names name rest st s stands.scoped))
      (asks env unit run here (read_name name x s) st st (λ v t. Goes rest (push v st) t) (over_it st) c))

  -- the value in place of the reference
  pub fetches : (form : Form) (r : Reference) → HasForm form r → Pushes (value_of r x s) → GoesOn env unit run (fetch form here rest) (with_reference r) s
  fetches IsValue r (v, is) c = subst (λ r. Pushes (value_of r x s) → GoesOn env unit run rest (with_reference r) s) (sym is) (λ c. c) c
  fetches (IsName name) r is c =
      subst (λ r. Pushes (value_of r x s) → GoesOn env unit run (fetch (IsName name) here rest) (with_reference r) s) (sym is) (λ c. loads name c) c
  fetches IsMember r (base, name, is) c =
      subst (λ r. Pushes (value_of r x s) → GoesOn env unit run (fetch IsMember here rest) (with_reference r) s) (sym is)
      (λ c. step env unit run kind.Get (deeper 2 here) rest (with_reference (Member base name)) s stands.good c) c

  -- the value on top of it
  abbrev pub PushesOn : Reference → Outcome PlainValue → Type 0
  PushesOn r o = Comes run.outcome (λ v t. GoesOn env unit run rest (push v (with_reference r)) t) (λ v t. GoesOut env unit run here (Thrown v) st t) o

  pub fetches_kept : (form : Form) (r : Reference) → HasForm form r → PushesOn r (value_of r x s) → GoesOn env unit run (fetch_kept form here rest) (with_reference r) s
  fetches_kept IsValue r (v, is) c =
      subst (λ r. PushesOn r (value_of r x s) → GoesOn env unit run (fetch_kept IsValue here rest) (with_reference r) s) (sym is)
      (λ c. step env unit run (kind.Tuck 0) (deeper 1 here) rest (with_reference (Of v)) s stands.good c) c
  fetches_kept (IsName name) r is c =
      subst (λ r. PushesOn r (value_of r x s) → GoesOn env unit run (fetch_kept (IsName name) here rest) (with_reference r) s) (sym is) (λ c. loads name c) c
  fetches_kept IsMember r (base, name, is) c =
      subst (λ r. PushesOn r (value_of r x s) → GoesOn env unit run (fetch_kept IsMember here rest) (with_reference r) s) (sym is)
      (λ c. step env unit run kind.GetKept (deeper 2 here) rest (with_reference (Member base name)) s stands.good c) c

  -- a value on top goes into the reference below it
  pub assigns : (form : Form) (r : Reference) (v : PlainValue) → HasForm form r → Pushes (assigned r v x s) → GoesOn env unit run (assign_to form here rest) (push v (with_reference r)) s
  assigns IsValue r v (w, is) c =
      subst (λ r. Pushes (assigned r v x s) → GoesOn env unit run (assign_to IsValue here rest) (push v (with_reference r)) s) (sym is)
      (λ c. step env unit run kind.Nip (deeper 2 here) rest (push v (with_reference (Of w))) s stands.good c) c
  assigns (IsName name) r v is c =
      subst (λ r. Pushes (assigned r v x s) → GoesOn env unit run (assign_to (IsName name) here rest) (push v (with_reference r)) s) (sym is)
      (λ c. step env unit run (store name (place_in name here.names)) (deeper 1 here) rest (push v st) s stands.good
      (subst (λ a. Acts env unit run here a) (sym (store_acts run.frame run.code here.names name rest st s v stands.scoped))
      (asks env unit run here (assign_name name v x s) (push v st) st (λ w t. Goes rest (push w st) t) (over_some (v ∷ []) st) c))) c
  assigns IsMember r v (base, name, is) c =
      subst (λ r. Pushes (assigned r v x s) → GoesOn env unit run (assign_to IsMember here rest) (push v (with_reference r)) s) (sym is)
      (λ c. step env unit run kind.Put (deeper 3 here) rest (push v (with_reference (Member base name))) s stands.good
      (asks env unit run here (assigned (Member base name) v x s) st st (λ w t. Goes rest (push w st) t) (over_it st) c)) c

  pub deletes : (form : Form) (r : Reference) → HasForm form r → Pushes (deleted r x s) → GoesOn env unit run (delete_at form here rest) (with_reference r) s
  deletes IsValue r (v, is) c =
      subst (λ r. Pushes (deleted r x s) → GoesOn env unit run (delete_at IsValue here rest) (with_reference r) s) (sym is)
      (λ c. step env unit run kind.Drop (deeper 1 here) (op (kind.Bool true) here rest) (with_reference (Of v)) s stands.good
      (step env unit run (kind.Bool true) here rest st s stands.good c)) c
  deletes (IsName name) r is c =
      subst (λ r. Pushes (deleted r x s) → GoesOn env unit run (delete_at (IsName name) here rest) (with_reference r) s) (sym is)
      (λ c. step env unit run (kind.Bool true) here rest st s stands.good c) c
  deletes IsMember r (base, name, is) c =
      subst (λ r. Pushes (deleted r x s) → GoesOn env unit run (delete_at IsMember here rest) (with_reference r) s) (sym is)
      (λ c. step env unit run kind.DeleteMember (deeper 2 here) rest (with_reference (Member base name)) s stands.good
      (asks env unit run here (deleted (Member base name) x s) st st (λ w t. Goes rest (push w st) t) (over_it st) c)) c

-- ---- references with what follows

module _ (env : Names) (unit : ℕ) (run : Running env unit) (here : Here) (rest : List Op) (st : Stacks) (s : State) (stands : Stands env here st s) where
  abbrev x' : Context
  x' = context run.frame st

  abbrev reference : Reference → Stacks
  reference r = with_operands st (operands_of r ++ st.operands)

  -- what is called, on top of its `this`
  abbrev pub PushesMethod : Reference → Type 0
  PushesMethod r = Comes run.outcome (λ v t. GoesOn env unit run rest (with_operands st (v ∷ this_of r ∷ st.operands)) t) (λ v t. GoesOut env unit run here (Thrown v) st t) (value_of r x' s)

  pub methods : (form : Form) (r : Reference) → HasForm form r → PushesMethod r → GoesOn env unit run (method form here rest) (reference r) s
  methods IsValue r (v, is) c =
      subst (λ r. PushesMethod r → GoesOn env unit run (method IsValue here rest) (reference r) s) (sym is)
      (λ c. step env unit run kind.Receiver (deeper 1 here) rest (reference (Of v)) s stands.good c) c
  methods (IsName name) r is c =
      subst (λ r. PushesMethod r → GoesOn env unit run (method (IsName name) here rest) (reference r) s) (sym is)
      (λ c. loads env unit run here (op kind.Receiver (deeper 1 here) rest) st s stands name
      (comes_on env run.outcome s (read_name name x' s) _ _ _ (fared_read_name env name x' s stands.good)
      (λ v t fares goal. step env unit run kind.Receiver (deeper 1 here) rest (push v st) t fares.good goal) c)) c
  methods IsMember r (base, name, is) c =
      subst (λ r. PushesMethod r → GoesOn env unit run (method IsMember here rest) (reference r) s) (sym is)
      (λ c. step env unit run kind.Method (deeper 2 here) rest (reference (Member base name)) s stands.good c) c

  -- `typeof`
  types : (v : PlainValue) (t : State) → Good env t
      → Comes run.outcome (λ v t. GoesOn env unit run rest (push v st) t) (λ v t. GoesOut env unit run here (Thrown v) st t) (type_of v t)
      → GoesOn env unit run (op (kind.Unary sign.TypeOf) (deeper 1 here) rest) (push v st) t
  types v t g c =
      step env unit run (kind.Unary sign.TypeOf) (deeper 1 here) rest (push v st) t g
      (asks env unit run here (type_of v t) st st (λ v t. Goes rest (push v st) t) (over_it st) c)

  fared_asked : (unbound : Bool) (name : List ℕ) → Fared env s (if unbound then Gives (Simple Undefined) s else read_name name x' s)
  fared_asked true name = fares_refl env s stands.good
  fared_asked false name = fared_read_name env name x' s stands.good

  comes_asked : (unbound : Bool) (name : List ℕ) (goal : PlainValue → State → Type 0) (thrown : PlainValue → State → Type 0)
      → Comes run.outcome goal thrown (if unbound then type_of (Simple Undefined) s else and_then (read_name name x' s) type_of)
      → Comes run.outcome goal thrown (and_then (if unbound then Gives (Simple Undefined) s else read_name name x' s) type_of)
  comes_asked true name goal thrown c = c
  comes_asked false name goal thrown c = c

  pub types_of : (form : Form) (r : Reference) → HasForm form r → Pushes env unit run here rest st s stands (type_of_reference r x' s)
      → GoesOn env unit run (emit.type_of form here rest) (reference r) s
  types_of IsValue r (v, is) c =
      subst (λ r. Pushes env unit run here rest st s stands (type_of_reference r x' s) → GoesOn env unit run (emit.type_of IsValue here rest) (reference r) s) (sym is)
      (λ c. types v s stands.good c) c
  types_of (IsName name) r is c =
      subst (λ r. Pushes env unit run here rest st s stands (type_of_reference r x' s) → GoesOn env unit run (emit.type_of (IsName name) here rest) (reference r) s) (sym is)
      (λ c. let unbound = is_unbound (Named name) x' s in let rest' = op (kind.Unary sign.TypeOf) (deeper 1 here) rest in
      step env unit run (emit.value_for_type name (place_in name here.names)) here rest' st s stands.good
      (subst (λ a. Acts env unit run here a) (sym (type_acts run.frame run.code here.names name rest' st s stands.scoped))
      (asks env unit run here (if unbound then Gives (Simple Undefined) s else read_name name x' s) st st (λ v t. Goes rest' (push v st) t) (over_it st)
      (comes_then env run.outcome s (if unbound then Gives (Simple Undefined) s else read_name name x' s) type_of _ _ _ (fared_asked unbound name)
      (λ v t fares c. types v t fares.good c) (comes_asked unbound name _ _ c))))) c
  types_of IsMember r (base, name, is) c =
      subst (λ r. Pushes env unit run here rest st s stands (type_of_reference r x' s) → GoesOn env unit run (emit.type_of IsMember here rest) (reference r) s) (sym is)
      (λ c. step env unit run kind.Get (deeper 2 here) (op (kind.Unary sign.TypeOf) (deeper 1 here) rest) (reference (Member base name)) s stands.good
      (types _ s stands.good c)) c

-- the value of an expression runs as it means
abbrev pub Any : PlainValue → Type 0
Any v = Unit {0}

abbrev pub alone : PlainValue → List PlainValue
alone v = v ∷ []

pub value_runs : (env : Names) (unit : ℕ) (names : Around) (m : Expression) (c : Coded) → ExpressionTied env unit names m c → RunsAs env unit names Any alone (evaluated m) (value c)
value_runs env unit names m c tied run here rest st s same ends stands comes =
    let x = context run.frame st in
    tied.runs run here (fetch c.form here rest) st s same ends stands
    (comes_then env run.outcome s (m x s) (λ r. value_of r x) (λ v t. Any v → GoesOn env unit run rest (push v st) t) _ (λ v t. GoesOut env unit run here (Thrown v) st t)
    (tied.fine x s run.fare run.unit_is (subst (λ n. Scoped n s.scopes (inner st.scopes)) same stands.scoped) stands.good)
    (λ r t fares c'. λ has. fetches env unit run here rest st t (stands_kept env here st s t stands fares) c.form r has
    (comes_all run.outcome (value_of r x t) _ _ _ (λ v u go. go tt) c')) comes)
