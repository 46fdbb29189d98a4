-- Statements in a run: one after the other, declarations, `if`, `return` and `throw`.
use Rattle.std.proofs.Common.{◌≡◌, ℕ, suc, ◌+◌, List, [], ◌∷◌, length, Bool, true, false, Option, Some, None, ap, sym, subst, if◌then◌else◌}
use Rattle.njs_code.specs.declared.op.Kind.TheVariants as kind
use Rattle.njs_code.specs.declared.op.Op.{Op}
use Rattle.njs_meaning.specs.Values.{PlainValue}
use Rattle.njs_meaning.specs.State.{State, Outcome, Gives, Throws, Spent, Asks, and_then}
use Rattle.njs_meaning.specs.Conversions.{to_boolean}
use Rattle.njs_meaning.specs.Running.{charge, choose, Runs as Meaning}
use Rattle.njs_meaning.specs.Scopes.{assign_name}
use Rattle.njs_meaning.specs.Places.{Around}
use Rattle.njs_meaning.specs.References.{Named, Expression}
use Rattle.njs_meaning.specs.Completions.{Completion, Normal, Returned, Broken, Continued, Statement, unless_ended, caught_by, done_at_last}
use Rattle.njs_meaning.specs.Completions as completions
use Rattle.njs_meaning.specs.Meaning as means
use Rattle.njs_simul.specs.Stacks.{Thrown, Stacks, context, push, inner}
use Rattle.njs_simul.specs.Step.{Goes, from}
use Rattle.njs_simul.specs.Emission.{Here, Emits, op, address, deeper, IsName, Coded, value, value_size, begun}
use Rattle.njs_simul.specs.EmissionOfStatements.{CodedStatement, CodedPart, in_turn, in_turn_size, bind, declare, declare_size, declaring, evaluate, optional, value_or_undefined}
use Rattle.njs_simul.specs.Fits.{Names, Fared, Fares, Scoped}
use Rattle.njs_simul.specs.Laws.{Stands, EndsWith, Comes, Writes, Fine, Running, GoesOn, GoesOut, ExpressionTied, Follows, RunsOn, PartTied, StatementTied}
use Rattle.njs_simul.proofs.FineSteps.{fared_assign_name}
use Rattle.njs_simul.proofs.FineStatements.{EachStatementFine, fine_in_turn, fine_optional, fine_value_and_on, fine_declare, HeldStatementFine}
use Rattle.njs_simul.proofs.FineExpressions.{HeldFine, EachNamedHeldFine}
use Rattle.njs_simul.proofs.Kept.{fared_charge, scoped_keeps}
use Rattle.njs_simul.proofs.Runs.{found, next, comes_then, comes_on}
use Rattle.njs_simul.proofs.Steps.{front_none, front_op, front_then, behind_front, stands_kept, stands_paid, paid, over_it, Acts, step, charges}
use Rattle.njs_simul.proofs.References.{assigns}
use Rattle.njs_simul.proofs.Sequences.{assign_writes, value_writes, value_then}

-- ---- what comes of a sequence

-- what is given and what is thrown, each with what follows it
pub comes_both : (env : Names) (outcome : Outcome PlainValue) {A : Type 0} (s : State) (r : Outcome A) (goal mid : A → State → Type 0) (thrown led : PlainValue → State → Type 0) → Fared env s r
    → ((a : A) (t : State) → Fares env s t → goal a t → mid a t) → ((v : PlainValue) (t : State) → Fares env s t → thrown v t → led v t)
    → Comes outcome goal thrown r → Comes outcome mid led r
comes_both env outcome s (Gives a t) goal mid thrown led fares go out c = go a t fares c
comes_both env outcome s (Throws v t) goal mid thrown led fares go out c = out v t fares c
comes_both env outcome s (Spent t) goal mid thrown led fares go out c = c
comes_both env outcome s (Asks zone q t) goal mid thrown led fares go out c = c

pub comes_in : (outcome : Outcome PlainValue) {A B : Type 0} (r : Outcome A) (f : A → State → Outcome B) (goal : B → State → Type 0) (thrown : PlainValue → State → Type 0)
    → Comes outcome goal thrown (and_then r f) → Comes outcome (λ a t. Comes outcome goal thrown (f a t)) thrown r
comes_in outcome (Gives a t) f goal thrown c = c
comes_in outcome (Throws v t) f goal thrown c = c
comes_in outcome (Spent t) f goal thrown c = c
comes_in outcome (Asks zone q t) f goal thrown c = c

pub comes_caught : (outcome : Outcome PlainValue) (r : Outcome Completion) (handler : PlainValue → State → Outcome Completion) (goal : Completion → State → Type 0) (thrown : PlainValue → State → Type 0)
    → Comes outcome goal thrown (caught_by handler r) → Comes outcome goal (λ v t. Comes outcome goal thrown (handler v t)) r
comes_caught outcome (Gives a t) handler goal thrown c = c
comes_caught outcome (Throws v t) handler goal thrown c = c
comes_caught outcome (Spent t) handler goal thrown c = c
comes_caught outcome (Asks zone q t) handler goal thrown c = c

-- the last block, with what then goes on
abbrev pub at_last : (State → Outcome Completion) → (State → Outcome Completion) → State → Outcome Completion
at_last last o t = and_then (last t) (λ d. unless_ended d o)

pub comes_at_last : (outcome : Outcome PlainValue) (r : Outcome Completion) (last : State → Outcome Completion) (goal : Completion → State → Type 0) (thrown : PlainValue → State → Type 0)
    → Comes outcome goal thrown (done_at_last last r)
    → Comes outcome (λ c t. Comes outcome goal thrown (at_last last (Gives c) t)) (λ v t. Comes outcome goal thrown (at_last last (Throws v) t)) r
comes_at_last outcome (Gives a t) last goal thrown c = c
comes_at_last outcome (Throws v t) last goal thrown c = c
comes_at_last outcome (Spent t) last goal thrown c = c
comes_at_last outcome (Asks zone q t) last goal thrown c = c

-- ---- what comes of a statement

module _ (env : Names) (unit : ℕ) (run : Running env unit) (here : Here) (st : Stacks) where
  -- with what stands behind it
  abbrev pub ComesOn : List Op → Outcome Completion → Type 0
  ComesOn rest o = Comes run.outcome (Follows env unit run here rest st) (λ v t. GoesOut env unit run here (Thrown v) st t) o

  -- where it ended normally, it goes on in another place
  pub follows_on : (rest middle : List Op) (c : Completion) (t : State) → (GoesOn env unit run rest st t → GoesOn env unit run middle st t)
      → Follows env unit run here rest st c t → Follows env unit run here middle st c t
  follows_on rest middle Normal t go f = go f
  follows_on rest middle (Returned v) t go f = f
  follows_on rest middle (Broken label) t go f = f
  follows_on rest middle (Continued label) t go f = f

  pub comes_follow : (s : State) (r : Outcome Completion) (rest middle : List Op) → Fared env s r
      → ((t : State) → Fares env s t → GoesOn env unit run rest st t → GoesOn env unit run middle st t) → ComesOn rest r → ComesOn middle r
  comes_follow s r rest middle fares go c =
      comes_on env run.outcome s r _ (Follows env unit run here middle st) _ fares (λ d t f. follows_on rest middle d t (go t f)) c

  unless_follows : (next : State → Outcome Completion) (rest middle : List Op) (c : Completion) (t : State)
      → (ComesOn rest (next t) → GoesOn env unit run middle st t) → ComesOn rest (unless_ended c next t) → Follows env unit run here middle st c t
  unless_follows next rest middle Normal t go c = go c
  unless_follows next rest middle (Returned v) t go c = c
  unless_follows next rest middle (Broken label) t go c = c
  unless_follows next rest middle (Continued label) t go c = c

  -- what follows where it ended normally
  pub comes_unless : (s : State) (r : Outcome Completion) (next : State → Outcome Completion) (rest middle : List Op) → Fared env s r
      → ((t : State) → Fares env s t → ComesOn rest (next t) → GoesOn env unit run middle st t)
      → ComesOn rest (and_then r (λ d. unless_ended d next)) → ComesOn middle r
  comes_unless s r next rest middle fares go c =
      comes_then env run.outcome s r (λ d. unless_ended d next) _ (Follows env unit run here middle st) _ fares (λ d t f. unless_follows next rest middle d t (go t f)) c

-- ---- a part, and what follows it

module _ (env : Names) (unit : ℕ) (names : Around) (m : Meaning Completion) (c : CodedPart) (tied : PartTied env unit names m c) (run : Running env unit) (here : Here) (st : Stacks) (s : State)
    (same : here.names ≡ names) (stands : Stands env here st s) where
  pub part_fared : Fared env s (m (context run.frame st) s)
  part_fared = tied.fine (context run.frame st) s run.fare run.unit_is (subst (λ n. Scoped n s.scopes (inner st.scopes)) same stands.scoped) stands.good

  pub part_then : (middle rest : List Op) (f : State → Outcome Completion) → EndsWith run.code (c.emit here middle)
      → ((t : State) → EndsWith run.code middle → Fares env s t → ComesOn env unit run here st rest (f t) → GoesOn env unit run middle st t)
      → ComesOn env unit run here st rest (and_then (m (context run.frame st) s) (λ d. unless_ended d f)) → GoesOn env unit run (c.emit here middle) st s
  part_then middle rest f ends go d =
      tied.runs run here middle st s same ends stands
      (comes_unless env unit run here st s (m (context run.frame st) s) f rest middle part_fared
      (λ t fares. go t (behind_front c.size run.code (c.emit here middle) middle (tied.writes here middle) ends) fares) d)

  -- with something that leads from behind it to where it goes on
  pub part_on : (middle rest : List Op) → EndsWith run.code (c.emit here middle)
      → ((t : State) → EndsWith run.code middle → Fares env s t → GoesOn env unit run rest st t → GoesOn env unit run middle st t)
      → ComesOn env unit run here st rest (m (context run.frame st) s) → GoesOn env unit run (c.emit here middle) st s
  part_on middle rest ends go d =
      tied.runs run here middle st s same ends stands
      (comes_follow env unit run here st s (m (context run.frame st) s) rest middle part_fared
      (λ t fares. go t (behind_front c.size run.code (c.emit here middle) middle (tied.writes here middle) ends) fares) d)

-- ---- parts of parts

-- an expression that may be missing
abbrev pub HeldTied : Names → ℕ → Around → Option Expression → Option Coded → Type 0
HeldTied env unit names None None = Unit {0}
HeldTied env unit names (Some m) (Some c) = ExpressionTied env unit names m c
HeldTied env unit names m c = ⊥

-- names, each with an expression that may be missing
abbrev pub NamedHeldTied : Names → ℕ → Around → List (List ℕ × Option Expression) → List (List ℕ × Option Coded) → Type 0
NamedHeldTied env unit names [] [] = Unit {0}
NamedHeldTied env unit names (m ∷ ms) (c ∷ cs) = (m.0 ≡ c.0) × HeldTied env unit names m.1 c.1 × NamedHeldTied env unit names ms cs
NamedHeldTied env unit names ms cs = ⊥

-- statements one after the other
abbrev pub StatementsTied : Names → ℕ → Around → List Statement → List CodedStatement → Type 0
StatementsTied env unit names [] [] = Unit {0}
StatementsTied env unit names (m ∷ ms) (c ∷ cs) = StatementTied env unit names m c × StatementsTied env unit names ms cs
StatementsTied env unit names ms cs = ⊥

-- a statement that may be missing
abbrev pub HeldStatementTied : Names → ℕ → Around → Option Statement → Option CodedStatement → Type 0
HeldStatementTied env unit names None None = Unit {0}
HeldStatementTied env unit names (Some m) (Some c) = StatementTied env unit names m c
HeldStatementTied env unit names m c = ⊥

module _ (env : Names) (unit : ℕ) (names : Around) where
  pub held_fine : (m : Option Expression) (c : Option Coded) → HeldTied env unit names m c → HeldFine env unit names m
  held_fine None None h = tt
  held_fine None (Some c) h = absurd h
  held_fine (Some m) None h = absurd h
  held_fine (Some m) (Some c) h = h.fine

  pub named_held_fine : (ms : List (List ℕ × Option Expression)) (cs : List (List ℕ × Option Coded)) → NamedHeldTied env unit names ms cs → EachNamedHeldFine env unit names ms
  named_held_fine [] [] h = tt
  named_held_fine [] (c ∷ cs) h = absurd h
  named_held_fine (m ∷ ms) [] h = absurd h
  named_held_fine (m ∷ ms) (c ∷ cs) h = (held_fine m.1 c.1 h.1, named_held_fine ms cs h.2)

  pub statement_fine : (m : Statement) (c : CodedStatement) → StatementTied env unit names m c → (labels : List (List ℕ)) → Fine env unit names (m labels)
  statement_fine m c h labels = (h.with_labels labels).fine

  pub statements_fine : (ms : List Statement) (cs : List CodedStatement) → StatementsTied env unit names ms cs → EachStatementFine env unit names ms
  statements_fine [] [] h = tt
  statements_fine [] (c ∷ cs) h = absurd h
  statements_fine (m ∷ ms) [] h = absurd h
  statements_fine (m ∷ ms) (c ∷ cs) h = (statement_fine m c h.0, statements_fine ms cs h.1)

  pub held_statement_fine : (m : Option Statement) (c : Option CodedStatement) → HeldStatementTied env unit names m c → HeldStatementFine env unit names m
  held_statement_fine None None h = tt
  held_statement_fine None (Some c) h = absurd h
  held_statement_fine (Some m) None h = absurd h
  held_statement_fine (Some m) (Some c) h = statement_fine m c h

  -- ---- one after the other

  pub in_turn_writes : (ms : List Statement) (cs : List CodedStatement) → StatementsTied env unit names ms cs → Writes (in_turn_size cs) (in_turn cs)
  in_turn_writes [] [] h here rest = front_none rest
  in_turn_writes [] (c ∷ cs) h here rest = absurd h
  in_turn_writes (m ∷ ms) [] h here rest = absurd h
  in_turn_writes (m ∷ ms) (c ∷ cs) h here rest =
      front_then c.size (in_turn_size cs) (c.emit [] here (in_turn cs here rest)) (in_turn cs here rest) rest ((h.0.with_labels []).writes here (in_turn cs here rest)) (in_turn_writes ms cs h.1 here rest)

  pub in_turn_runs : (ms : List Statement) (cs : List CodedStatement) → StatementsTied env unit names ms cs → RunsOn env unit names (completions.in_turn ms) (in_turn cs)
  in_turn_runs [] [] h run here rest st s same ends stands d = d
  in_turn_runs [] (c ∷ cs) h run here rest st s same ends stands d = absurd h
  in_turn_runs (m ∷ ms) [] h run here rest st s same ends stands d = absurd h
  in_turn_runs (m ∷ ms) (c ∷ cs) h run here rest st s same ends stands d =
      part_then env unit names (m []) (record { size = c.size; emit = c.emit [] }) (h.0.with_labels []) run here st s same stands (in_turn cs here rest) rest
      (completions.in_turn ms (context run.frame st)) ends
      (λ t ends fares d. in_turn_runs ms cs h.1 run here rest st t same ends (stands_kept env here st s t stands fares) d) d

  pub in_turn_tied : (ms : List Statement) (cs : List CodedStatement) → StatementsTied env unit names ms cs
      → PartTied env unit names (completions.in_turn ms) (record { size = in_turn_size cs; emit = in_turn cs })
  in_turn_tied ms cs h = record {
    writes = in_turn_writes ms cs h;
    fine = fine_in_turn env unit names ms (statements_fine ms cs h);
    runs = in_turn_runs ms cs h;
  }

  -- ---- a tick as it begins

  pub begun_tied : (m : Meaning Completion) (c : CodedPart) → PartTied env unit names m c → PartTied env unit names (λ x s. charge 1 (m x) s) (record { size = suc c.size; emit = begun c.emit })
  begun_tied m c tied = record {
    writes = λ here rest. front_op c.size _ (c.emit here rest) rest (tied.writes here rest);
    fine = λ x s calls same scoped g. fared_charge env 1 (m x) s g (λ t f. tied.fine x t calls same (scoped_keeps names x.scope.0 scoped f.keeps) f.good);
    runs = λ run here rest st s same ends stands d.
        charges env unit run here (c.emit here rest) st s _ _ (m (context run.frame st)) stands.good
        (λ d. tied.runs run here rest st (paid 1 s) same (next run.code _ (c.emit here rest) ends) (stands_paid env 1 here st s stands) d) d;
  }

  -- ---- declarations, and values that nothing is done with

  pub declare_writes : (ms : List (List ℕ × Option Expression)) (cs : List (List ℕ × Option Coded)) → NamedHeldTied env unit names ms cs → Writes (declare_size cs) (declare cs)
  declare_writes [] [] h here rest = front_none rest
  declare_writes [] (c ∷ cs) h here rest = absurd h
  declare_writes (m ∷ ms) [] h here rest = absurd h
  declare_writes ((n, None) ∷ ms) ((k, None) ∷ cs) h here rest = declare_writes ms cs h.2 here rest
  declare_writes ((n, None) ∷ ms) ((k, Some c) ∷ cs) h here rest = absurd h.1
  declare_writes ((n, Some m) ∷ ms) ((k, None) ∷ cs) h here rest = absurd h.1
  declare_writes ((n, Some m) ∷ ms) ((k, Some c) ∷ cs) h here rest =
      let more = declare cs here rest in let drops = op kind.Drop (deeper 1 here) more in
      front_then (value_size c) (2 + declare_size cs) (value c here (bind k here more)) (bind k here more) rest (value_writes c h.1.writes here (bind k here more))
      (front_then 2 (declare_size cs) (bind k here more) more rest (front_op 1 _ drops more (front_op 0 _ more more (front_none more))) (declare_writes ms cs h.2 here rest))

  pub declare_runs : (ms : List (List ℕ × Option Expression)) (cs : List (List ℕ × Option Coded)) → NamedHeldTied env unit names ms cs → RunsOn env unit names (means.declare ms) (declare cs)
  declare_runs [] [] h run here rest st s same ends stands d = d
  declare_runs [] (c ∷ cs) h run here rest st s same ends stands d = absurd h
  declare_runs (m ∷ ms) [] h run here rest st s same ends stands d = absurd h
  declare_runs ((n, None) ∷ ms) ((k, None) ∷ cs) h run here rest st s same ends stands d = declare_runs ms cs h.2 run here rest st s same ends stands d
  declare_runs ((n, None) ∷ ms) ((k, Some c) ∷ cs) h run here rest st s same ends stands d = absurd h.1
  declare_runs ((n, Some m) ∷ ms) ((k, None) ∷ cs) h run here rest st s same ends stands d = absurd h.1
  declare_runs ((n, Some m) ∷ ms) ((k, Some c) ∷ cs) h run here rest st s same ends stands d =
      let x = context run.frame st in let more = declare cs here rest in let drops = op kind.Drop (deeper 1 here) more in
      value_then env unit names m c h.1 run here (bind k here more) st s same stands st (over_it st) (Follows env unit run here rest st)
      (λ v s. and_then (assign_name n v x s) (λ w s. means.declare ms x s)) ends
      (λ v t ends fares d. let stands_t = stands_kept env here st s t stands fares in
      assigns env unit run here drops st t stands_t (IsName k) (Named n) v (ap Named h.0)
      (comes_then env run.outcome t (assign_name n v x t) (λ w s. means.declare ms x s) (Follows env unit run here rest st) _ _ (fared_assign_name env n v x t fares.good)
      (λ w u fares d. step env unit run kind.Drop (deeper 1 here) more (push w st) u fares.good
      (declare_runs ms cs h.2 run here rest st u same (next run.code _ more (behind_front 1 run.code (bind k here more) drops (assign_writes (IsName k) here drops) ends))
      (stands_kept env here st t u stands_t fares) d)) d)) d

  pub declaring_tied : (ms : List (List ℕ × Option Expression)) (cs : List (List ℕ × Option Coded)) → NamedHeldTied env unit names ms cs → PartTied env unit names (means.declare ms) (declaring cs)
  declaring_tied ms cs h = record {
    writes = declare_writes ms cs h;
    fine = fine_declare env unit names ms (named_held_fine ms cs h);
    runs = declare_runs ms cs h;
  }

  pub evaluate_writes : (m : Expression) (c : Coded) → ExpressionTied env unit names m c → Writes (evaluate c).size (evaluate c).emit
  evaluate_writes m c h here rest =
      let drops = op kind.Drop (deeper 1 here) rest in
      front_then (value_size c) 1 (value c here drops) drops rest (value_writes c h.writes here drops) (front_op 0 _ rest rest (front_none rest))

  pub evaluate_runs : (m : Expression) (c : Coded) → ExpressionTied env unit names m c → RunsOn env unit names (means.value_and_on m) (evaluate c).emit
  evaluate_runs m c h run here rest st s same ends stands d =
      value_then env unit names m c h run here (op kind.Drop (deeper 1 here) rest) st s same stands st (over_it st) (Follows env unit run here rest st) (λ v s. Gives Normal s) ends
      (λ v t ends fares d. step env unit run kind.Drop (deeper 1 here) rest (push v st) t fares.good d) d

  pub evaluate_tied : (m : Expression) (c : Coded) → ExpressionTied env unit names m c → PartTied env unit names (means.value_and_on m) (evaluate c)
  evaluate_tied m c h = record {
    writes = evaluate_writes m c h;
    fine = fine_value_and_on env unit names m h.fine;
    runs = evaluate_runs m c h;
  }

  -- ---- `if`

  pub optional_writes : (m : Option Statement) (c : Option CodedStatement) → HeldStatementTied env unit names m c → Writes (optional c).size (optional c).emit
  optional_writes None None h here rest = front_none rest
  optional_writes None (Some c) h here rest = absurd h
  optional_writes (Some m) None h here rest = absurd h
  optional_writes (Some m) (Some c) h here rest = (h.with_labels []).writes here rest

  pub optional_runs : (m : Option Statement) (c : Option CodedStatement) → HeldStatementTied env unit names m c → RunsOn env unit names (means.optional m) (optional c).emit
  optional_runs None None h run here rest st s same ends stands d = d
  optional_runs None (Some c) h run here rest st s same ends stands d = absurd h
  optional_runs (Some m) None h run here rest st s same ends stands d = absurd h
  optional_runs (Some m) (Some c) h run here rest st s same ends stands d = (h.with_labels []).runs run here rest st s same ends stands d

  pub optional_tied : (m : Option Statement) (c : Option CodedStatement) → HeldStatementTied env unit names m c → PartTied env unit names (means.optional m) (optional c)
  optional_tied m c h = record {
    writes = optional_writes m c h;
    fine = fine_optional env unit names m (held_statement_fine m c h);
    runs = optional_runs m c h;
  }

  abbrev pub if_emit : Coded → CodedStatement → Option CodedStatement → Emits
  if_emit ca cb cd here rest =
      let otherwise = (optional cd).emit here rest in
      value ca here (op (kind.JumpFalse (address otherwise)) (deeper 1 here) (cb.emit [] here (op (kind.Jump (address rest)) here otherwise)))

  abbrev pub if_size : Coded → CodedStatement → Option CodedStatement → ℕ
  if_size ca cb cd = value_size ca + suc (cb.size + suc (optional cd).size)

  pub if_writes : (a : Expression) (b : Statement) (d : Option Statement) (ca : Coded) (cb : CodedStatement) (cd : Option CodedStatement) → ExpressionTied env unit names a ca → StatementTied env unit names b cb
      → HeldStatementTied env unit names d cd → Writes (if_size ca cb cd) (if_emit ca cb cd)
  if_writes a b d ca cb cd ta tb td here rest =
      let otherwise = (optional cd).emit here rest in let jump = op (kind.Jump (address rest)) here otherwise in let first = cb.emit [] here jump in
      let test = op (kind.JumpFalse (address otherwise)) (deeper 1 here) first in
      front_then (value_size ca) (suc (cb.size + suc (optional cd).size)) (value ca here test) test rest (value_writes ca ta.writes here test)
      (front_op (cb.size + suc (optional cd).size) _ first rest
      (front_then cb.size (suc (optional cd).size) first jump rest ((tb.with_labels []).writes here jump)
      (front_op (optional cd).size _ otherwise rest (optional_writes d cd td here rest))))

  -- one of two ways
  pub chosen : {A : Type 0} (b : Bool) (run : Running env unit) (here : Here) (next other whole : List Op) (st : Stacks) (s : State) (f g : State → Outcome A) (goal : A → State → Type 0) (thrown : PlainValue → State → Type 0)
      → whole ≡ other
      → (Comes run.outcome goal thrown (f s) → GoesOn env unit run next st s) → (Comes run.outcome goal thrown (g s) → GoesOn env unit run other st s)
      → Comes run.outcome goal thrown (choose b f g s) → Acts env unit run here (if b then Goes next st s else Goes whole st s)
  chosen true run here next other whole st s f g goal thrown is one two c = one c
  chosen false run here next other whole st s f g goal thrown is one two c = subst (λ code. GoesOn env unit run code st s) (sym is) (two c)

  pub if_runs : (a : Expression) (b : Statement) (d : Option Statement) (ca : Coded) (cb : CodedStatement) (cd : Option CodedStatement) → ExpressionTied env unit names a ca → StatementTied env unit names b cb
      → HeldStatementTied env unit names d cd → (labels : List (List ℕ)) → RunsOn env unit names (means.if_else a b d labels) (if_emit ca cb cd)
  if_runs a b d ca cb cd ta tb td labels run here rest st s same ends stands c =
      let x = context run.frame st in let part : CodedPart = record { size = cb.size; emit = cb.emit [] } in
      let otherwise = (optional cd).emit here rest in let jump = op (kind.Jump (address rest)) here otherwise in let first = cb.emit [] here jump in
      value_then env unit names a ca ta run here (op (kind.JumpFalse (address otherwise)) (deeper 1 here) first) st s same stands st (over_it st) (Follows env unit run here rest st)
      (λ v. choose (to_boolean v) (b [] x) (means.optional d x)) ends
      (λ v t ends fares c. let stands_t = stands_kept env here st s t stands fares in
      let ends_first = next run.code _ first ends in
      let ends_otherwise = next run.code _ otherwise (behind_front cb.size run.code first jump ((tb.with_labels []).writes here jump) ends_first) in
      let ends_rest = behind_front (optional cd).size run.code otherwise rest (optional_writes d cd td here rest) ends_otherwise in
      step env unit run (kind.JumpFalse (address otherwise)) (deeper 1 here) first (push v st) t fares.good
      (chosen (to_boolean v) run here first otherwise (from run.frame run.code (length otherwise)) st t (b [] x) (means.optional d x) (Follows env unit run here rest st) _
      (found run.frame run.code otherwise ends_otherwise)
      (λ c. part_on env unit names (b []) part (tb.with_labels []) run here st t same stands_t jump rest ends_first
      (λ u ends fares go. step env unit run (kind.Jump (address rest)) here otherwise st u fares.good
      (subst (λ code. GoesOn env unit run code st u) (sym (found run.frame run.code rest ends_rest)) go)) c)
      (λ c. optional_runs d cd td run here rest st t same ends_otherwise stands_t c) c)) c

  -- ---- `return` and `throw`

  abbrev pub return_emit : Option Coded → Emits
  return_emit c here rest = (value_or_undefined c).emit here (op kind.Return (deeper 1 here) rest)

  pub return_writes : (m : Option Expression) (c : Option Coded) → HeldTied env unit names m c → Writes ((value_or_undefined c).size + 1) (return_emit c)
  return_writes None None h here rest = front_op 1 _ _ rest (front_op 0 _ rest rest (front_none rest))
  return_writes None (Some c) h here rest = absurd h
  return_writes (Some m) None h here rest = absurd h
  return_writes (Some m) (Some c) h here rest =
      let last = op kind.Return (deeper 1 here) rest in
      front_then (value_size c) 1 (value c here last) last rest (value_writes c h.writes here last) (front_op 0 _ rest rest (front_none rest))

  pub return_runs : (m : Option Expression) (c : Option Coded) → HeldTied env unit names m c → (labels : List (List ℕ)) → RunsOn env unit names (means.return m labels) (return_emit c)
  return_runs None None h labels run here rest st s same ends stands d =
      step env unit run kind.Undefined here (op kind.Return (deeper 1 here) rest) st s stands.good
      (step env unit run kind.Return (deeper 1 here) rest (push _ st) s stands.good d)
  return_runs None (Some c) h labels run here rest st s same ends stands d = absurd h
  return_runs (Some m) None h labels run here rest st s same ends stands d = absurd h
  return_runs (Some m) (Some c) h labels run here rest st s same ends stands d =
      value_then env unit names m c h run here (op kind.Return (deeper 1 here) rest) st s same stands st (over_it st) (Follows env unit run here rest st) (λ v s. Gives (Returned v) s) ends
      (λ v t ends fares d. step env unit run kind.Return (deeper 1 here) rest (push v st) t fares.good d) d

  abbrev pub throw_emit : Coded → Emits
  throw_emit c here rest = value c here (op kind.Throw (deeper 1 here) rest)

  pub throw_writes : (m : Expression) (c : Coded) → ExpressionTied env unit names m c → Writes (value_size c + 1) (throw_emit c)
  throw_writes m c h here rest =
      let last = op kind.Throw (deeper 1 here) rest in
      front_then (value_size c) 1 (value c here last) last rest (value_writes c h.writes here last) (front_op 0 _ rest rest (front_none rest))

  pub throw_runs : (m : Expression) (c : Coded) → ExpressionTied env unit names m c → (labels : List (List ℕ)) → RunsOn env unit names (means.throw_value m labels) (throw_emit c)
  throw_runs m c h labels run here rest st s same ends stands d =
      value_then env unit names m c h run here (op kind.Throw (deeper 1 here) rest) st s same stands st (over_it st) (Follows env unit run here rest st) (λ v s. Throws v s) ends
      (λ v t ends fares d. step env unit run kind.Throw (deeper 1 here) rest (push v st) t fares.good d) d
