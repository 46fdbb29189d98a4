-- Parts of expressions one after the other.
use Rattle.std.proofs.Common.{◌≡◌, ℕ, suc, ◌-◌, List, ◌∷◌, ◌++◌, Bool, true, false, refl, sym, subst, if◌then◌else◌, nat_lt}
use Rattle.njs_code.specs.declared.op.Op.{Op}
use Rattle.njs_meaning.specs.Primitives.{Characters}
use Rattle.njs_meaning.specs.Values.{PlainValue, Simple}
use Rattle.njs_meaning.specs.State.{State, Outcome, Gives, Throws, Spent, Asks, and_then}
use Rattle.njs_meaning.specs.Running.{charge, Runs as Meaning}
use Rattle.njs_meaning.specs.Places.{Around}
use Rattle.njs_meaning.specs.References.{Reference, Of, Expression, evaluated}
use Rattle.njs_meaning.specs.Meaning.{given}
use Rattle.njs_simul.specs.Stacks.{Thrown, Stacks, context, with_operands, push, inner}
use Rattle.njs_simul.specs.Step.{operands_of}
use Rattle.njs_simul.specs.Emission.{Here, Emits, deeper, Form, IsValue, IsName, IsMember, width, fetch, fetch_size, fetch_kept, assign_to, method, method_size, delete_at, delete_size, type_of, type_size, Coded, coded, value, value_size}
use Rattle.njs_simul.specs.Fits.{Names, Fares, Scoped}
use Rattle.njs_simul.specs.Laws.{Stands, EndsWith, Comes, Given, HasForm, Front, Writes, Fine, Running, GoesOn, GoesOut, ExpressionTied}
use Rattle.njs_simul.proofs.FineExpressions.{fine_evaluated, fine_begun}
use Rattle.njs_simul.proofs.Runs.{Over, comes_then, comes_all}
use Rattle.njs_simul.proofs.Steps.{front_none, front_op, front_then, behind_front, stands_push, out_over, begun_runs, begun_writes}
use Rattle.njs_simul.proofs.References.{Any, value_runs}

-- a throw that leads out with less on top
pub comes_over : (env : Names) (unit : ℕ) (run : Running env unit) (here : Here) (low all : Stacks) → Over low all → {A : Type 0} (r : Outcome A) (goal : A → State → Type 0)
    → Comes run.outcome goal (λ e t. GoesOut env unit run here (Thrown e) low t) r → Comes run.outcome goal (λ e t. GoesOut env unit run here (Thrown e) all t) r
comes_over env unit run here low all more (Gives a s) goal c = c
comes_over env unit run here low all more (Throws v s) goal c = out_over env unit run here (Thrown v) low all s more c
comes_over env unit run here low all more (Spent s) goal c = c
comes_over env unit run here low all more (Asks zone q s) goal c = c

-- what runs as a value
abbrev pub ValueRuns : Names → ℕ → Around → Meaning PlainValue → Emits → Type 0
ValueRuns env unit names m emit =
    (run : Running env unit) (here : Here) (rest : List Op) (st : Stacks) (s : State)
    → here.names ≡ names → EndsWith run.code (emit here rest) → Stands env here st s
    → Comes run.outcome (λ v t. GoesOn env unit run rest (push v st) t) (λ e t. GoesOut env unit run here (Thrown e) st t) (m (context run.frame st) s)
    → GoesOn env unit run (emit here rest) st s

-- ---- what is given has its form

given_values : (o : Outcome PlainValue) → Given (HasForm IsValue) (and_then o (λ v s. Gives (Of v) s))
given_values (Gives v s) = (v, refl)
given_values (Throws v s) = tt
given_values (Spent s) = tt
given_values (Asks zone q s) = tt

given_charged : {A : Type 0} (is : A → Type 0) (b : Bool) (s : State) (o : Outcome A) → Given is o → Given is (if b then Spent s else o)
given_charged is true s o g = tt
given_charged is false s o g = g

pub given_begun : {A : Type 0} (is : A → Type 0) (m : State → Outcome A) → ((s : State) → Given is (m s)) → (s : State) → Given is (charge 1 m s)
given_begun is m g s = given_charged is (nat_lt s.ticks 1) s (m (record s { ticks = s.ticks - 1 })) (g (record s { ticks = s.ticks - 1 }))

comes_given : (outcome : Outcome PlainValue) (o : Outcome PlainValue) (goal : Reference → State → Type 0) (thrown : PlainValue → State → Type 0)
    → Comes outcome (λ r t. HasForm IsValue r → goal r t) thrown (and_then o (λ v s. Gives (Of v) s)) → Comes outcome (λ v t. goal (Of v) t) thrown o
comes_given outcome (Gives v s) goal thrown c = c (v, refl)
comes_given outcome (Throws v s) goal thrown c = c
comes_given outcome (Spent s) goal thrown c = c
comes_given outcome (Asks zone q s) goal thrown c = c

-- an expression that is a value
pub coded_tied : (env : Names) (unit : ℕ) (names : Around) (m : Meaning PlainValue) (count : ℕ) (emit : Emits) → Writes count emit → Fine env unit names (given m) → ValueRuns env unit names m emit
    → ExpressionTied env unit names (λ x s. charge 1 (given m x) s) (coded count emit)
coded_tied env unit names m count emit writes fine runs = record {
  writes = begun_writes count emit writes;
  fine = fine_begun env unit names (given m) fine;
  forms = λ x. given_begun (HasForm IsValue) (given m x) (λ s. given_values (m x s));
  runs = begun_runs env unit names (HasForm IsValue) operands_of (given m) emit (λ run here rest st s same ends stands c.
      runs run here rest st s same ends stands
      (comes_given run.outcome (m (context run.frame st) s) (λ r t. GoesOn env unit run rest (with_operands st (operands_of r ++ st.operands)) t)
      (λ e t. GoesOut env unit run here (Thrown e) st t) c));
}

-- ---- what is written

fetch_front : (form : Form) → Writes (fetch_size form) (fetch form)
fetch_front IsValue here rest = front_none rest
fetch_front (IsName name) here rest = front_op 0 _ rest rest (front_none rest)
fetch_front IsMember here rest = front_op 0 _ rest rest (front_none rest)

one_front : (o : Op) (rest : List Op) → Front 1 (o ∷ rest) rest
one_front o rest = front_op 0 o rest rest (front_none rest)

pub kept_writes : (form : Form) → Writes 1 (fetch_kept form)
kept_writes IsValue here rest = one_front _ rest
kept_writes (IsName name) here rest = one_front _ rest
kept_writes IsMember here rest = one_front _ rest

pub kept_front : (form : Form) (here : Here) (count : ℕ) (middle rest : List Op) → Front count middle rest → Front (suc count) (fetch_kept form here middle) rest
kept_front IsValue here count middle rest f = front_op count _ middle rest f
kept_front (IsName name) here count middle rest f = front_op count _ middle rest f
kept_front IsMember here count middle rest f = front_op count _ middle rest f

pub assign_front : (form : Form) (here : Here) (count : ℕ) (middle rest : List Op) → Front count middle rest → Front (suc count) (assign_to form here middle) rest
assign_front IsValue here count middle rest f = front_op count _ middle rest f
assign_front (IsName name) here count middle rest f = front_op count _ middle rest f
assign_front IsMember here count middle rest f = front_op count _ middle rest f

pub assign_writes : (form : Form) → Writes 1 (assign_to form)
assign_writes IsValue here rest = one_front _ rest
assign_writes (IsName name) here rest = one_front _ rest
assign_writes IsMember here rest = one_front _ rest

pub method_writes : (form : Form) → Writes (method_size form) (method form)
method_writes IsValue here rest = one_front _ rest
method_writes (IsName name) here rest = front_op 1 _ _ rest (one_front _ rest)
method_writes IsMember here rest = one_front _ rest

pub delete_writes : (form : Form) → Writes (delete_size form) (delete_at form)
delete_writes IsValue here rest = front_op 1 _ _ rest (one_front _ rest)
delete_writes (IsName name) here rest = one_front _ rest
delete_writes IsMember here rest = one_front _ rest

pub type_writes : (form : Form) → Writes (type_size form) (type_of form)
type_writes IsValue here rest = one_front _ rest
type_writes (IsName name) here rest = front_op 1 _ _ rest (one_front _ rest)
type_writes IsMember here rest = front_op 1 _ _ rest (one_front _ rest)

pub value_writes : (c : Coded) → Writes c.size c.target → Writes (value_size c) (value c)
value_writes c w here rest = front_then c.size (fetch_size c.form) (c.target here (fetch c.form here rest)) (fetch c.form here rest) rest (w here (fetch c.form here rest)) (fetch_front c.form here rest)

-- ---- a part, and what follows it

module _ (env : Names) (unit : ℕ) (names : Around) (m : Expression) (c : Coded) (tied : ExpressionTied env unit names m c) (run : Running env unit) (here : Here) (rest : List Op) (st : Stacks) (s : State) (same : here.names ≡ names)
    (stands : Stands env here st s) (low : Stacks) (more : Over low st) {B : Type 0} (goal : B → State → Type 0) where
  abbrev pub Then : Outcome B → Type 0
  Then o = Comes run.outcome goal (λ e t. GoesOut env unit run here (Thrown e) low t) o

  scoped : Scoped names s.scopes (inner st.scopes)
  scoped = subst (λ n. Scoped n s.scopes (inner st.scopes)) same stands.scoped

  pub value_then : (f : PlainValue → State → Outcome B) → EndsWith run.code (value c here rest)
      → ((v : PlainValue) (t : State) → EndsWith run.code rest → Fares env s t → Then (f v t) → GoesOn env unit run rest (push v st) t)
      → Then (and_then (evaluated m (context run.frame st) s) f) → GoesOn env unit run (value c here rest) st s
  value_then f ends go c' =
      let x = context run.frame st in let o = evaluated m x s in
      value_runs env unit names m c tied run here rest st s same ends stands
      (comes_over env unit run here low st more o _
      (comes_then env run.outcome s o f goal (λ v t. Any v → GoesOn env unit run rest (push v st) t) _
      (fine_evaluated env unit names m tied.fine x s run.fare run.unit_is scoped stands.good)
      (λ v t fares d any. go v t (behind_front (value_size c) run.code (value c here rest) rest (value_writes c tied.writes here rest) ends) fares d) c'))

  pub target_then : (f : Reference → State → Outcome B) → EndsWith run.code (c.target here rest)
      → ((r : Reference) (t : State) → HasForm c.form r → EndsWith run.code rest → Fares env s t → Then (f r t) → GoesOn env unit run rest (with_operands st (operands_of r ++ st.operands)) t)
      → Then (and_then (m (context run.frame st) s) f) → GoesOn env unit run (c.target here rest) st s
  target_then f ends go c' =
      let x = context run.frame st in let o = m x s in
      tied.runs run here rest st s same ends stands
      (comes_over env unit run here low st more o _
      (comes_then env run.outcome s o f goal (λ r t. HasForm c.form r → GoesOn env unit run rest (with_operands st (operands_of r ++ st.operands)) t) _
      (tied.fine x s run.fare run.unit_is scoped stands.good)
      (λ r t fares d has. go r t has (behind_front c.size run.code (c.target here rest) rest (tied.writes here rest) ends) fares d) c'))

-- a value with nothing behind it in its part
pub value_last : (env : Names) (unit : ℕ) (names : Around) (m : Expression) (c : Coded) → ExpressionTied env unit names m c → ValueRuns env unit names (evaluated m) (value c)
value_last env unit names m c tied run here rest st s same ends stands d =
    value_runs env unit names m c tied run here rest st s same ends stands
    (comes_all run.outcome (evaluated m (context run.frame st) s) _ _ _ (λ v t go any. go) d)

-- the operands of a reference stand
pub stands_form : (env : Names) (here : Here) (st : Stacks) (s : State) (form : Form) (r : Reference) → HasForm form r → Stands env here st s
    → Stands env (deeper (width form) here) (with_operands st (operands_of r ++ st.operands)) s
stands_form env here st s IsValue r (v, is) h =
    subst (λ r. Stands env (deeper 1 here) (with_operands st (operands_of r ++ st.operands)) s) (sym is) (stands_push env here st s v h)
stands_form env here st s (IsName name) r is h =
    subst (λ r. Stands env here (with_operands st (operands_of r ++ st.operands)) s) (sym is) h
stands_form env here st s IsMember r (base, name, is) h =
    subst (λ r. Stands env (deeper 2 here) (with_operands st (operands_of r ++ st.operands)) s) (sym is)
    (stands_push env (deeper 1 here) (push base st) s (Simple (Characters name)) (stands_push env here st s base h))
