-- Loops in a run: `do`, `while` and `for`.
use Rattle.std.proofs.Common.{◌≡◌, ℕ, zero, suc, ◌+◌, ◌<◌, ◌≤◌, List, [], ◌∷◌, length, Bool, true, false, Option, Some, None, refl, ap, sym, subst, if◌then◌else◌, arith, nat_lt}
use Rattle.std.proofs.lemmas.Bool.Decides.{nat_tests}
use Rattle.njs_code.specs.declared.op.Address.{Address}
use Rattle.njs_code.specs.declared.op.Kind.TheVariants as kind
use Rattle.njs_code.specs.declared.op.Op.{Op}
use Rattle.njs_meaning.specs.Values.{PlainValue}
use Rattle.njs_meaning.specs.State.{State, Outcome, Gives, Throws, Spent, Asks, and_then}
use Rattle.njs_meaning.specs.Conversions.{to_boolean}
use Rattle.njs_meaning.specs.Running.{Context, Runs as Meaning}
use Rattle.njs_meaning.specs.Scopes.{assign_name}
use Rattle.njs_meaning.specs.Places.{Around}
use Rattle.njs_meaning.specs.References.{Expression, evaluated}
use Rattle.njs_meaning.specs.Completions.{Completion, Normal, Returned, Broken, Continued, Statement, is_one_of, after_body, Test, goes_on, if_so, turns}
use Rattle.njs_meaning.specs.Completions as completions
use Rattle.njs_meaning.specs.Meaning as means
use Rattle.njs_meaning.specs.Meaning.{First}
use Rattle.njs_simul.specs.Stacks.{Ended, Thrown, Stacks, context, push, inner}
use Rattle.njs_simul.specs.Step.{Goes, from, on}
use Rattle.njs_simul.specs.Emission.{Here, Emits, op, address, deeper, inside, Coded, value, value_size}
use Rattle.njs_simul.specs.EmissionOfStatements.{CodedStatement, CodedPart, CodedTest, no_part, no_test, test_of, tests_if_any, does_if_any, declaring, evaluate, head_of, loop_size, loop, first_of}
use Rattle.njs_simul.specs.Fits.{Names, Fared, Fares, Scoped}
use Rattle.njs_simul.specs.Laws.{Stands, EndsWith, Comes, Given, Writes, Fine, Running, GoesOn, GoesOut, ExpressionTied, Follows, RunsOn, PartTied, StatementTied}
use Rattle.njs_simul.proofs.Kept.{fares_refl}
use Rattle.njs_simul.proofs.FineExpressions.{HeldFine}
use Rattle.njs_simul.proofs.FineStatements.{given_then}
use Rattle.njs_simul.proofs.FineLoops.{fine_tests, fine_does_if_any, fine_do_loop, fine_while_loop, fine_for_loop}
use Rattle.njs_simul.proofs.Runs.{found, next, comes_then}
use Rattle.njs_simul.proofs.Steps.{front_none, front_op, front_then, front_count, front_length, behind_front, stands_kept, stands_paid, paid, over_it, Acts, step, charges}
use Rattle.njs_simul.proofs.Sequences.{value_writes, value_then}
use Rattle.njs_simul.proofs.Statements.{comes_in, part_fared, ComesOn, HeldTied, NamedHeldTied, held_fine, statement_fine, evaluate_writes, declaring_tied, evaluate_tied}
use Rattle.njs_simul.proofs.Regions.{takes, passes, part_in}

-- ---- tests

-- what follows a test: what stands behind it, or what the address leads to
abbrev pub TestFollows : (env : Names) (unit : ℕ) → Running env unit → List Op → List Op → Stacks → Bool → State → Type 0
TestFollows env unit run rest there st true t = GoesOn env unit run rest st t
TestFollows env unit run rest there st false t = GoesOn env unit run there st t

pub record TestTied (env : Names) (unit : ℕ) (names : Around) (m : Meaning Bool) (c : CodedTest) : Type 0 where
  pub writes : (past : Address) → Writes c.size (c.emit past)
  pub fine : Fine env unit names m
  pub runs : (run : Running env unit) (here : Here) (past : Address) (there rest : List Op) (st : Stacks) (s : State) → from run.frame run.code past.0 ≡ there
      → here.names ≡ names → EndsWith run.code (c.emit past here rest) → Stands env here st s
      → Comes run.outcome (TestFollows env unit run rest there st) (λ v t. GoesOut env unit run here (Thrown v) st t) (m (context run.frame st) s)
      → GoesOn env unit run (c.emit past here rest) st s

abbrev always : Context → Test
always x = goes_on

module _ (env : Names) (unit : ℕ) (names : Around) where
  pub no_test_tied : TestTied env unit names always no_test
  no_test_tied = record {
    writes = λ past here rest. front_none rest;
    fine = λ x s calls same scoped g. fares_refl env s g;
    runs = λ run here past there rest st s is same ends stands d. d;
  }

  -- the value decides
  decided : (b : Bool) (run : Running env unit) (here : Here) (rest there whole : List Op) (st : Stacks) (s : State) → whole ≡ there → TestFollows env unit run rest there st b s
      → Acts env unit run here (if b then Goes rest st s else Goes whole st s)
  decided true run here rest there whole st s is d = d
  decided false run here rest there whole st s is d = subst (λ code. GoesOn env unit run code st s) (sym is) d

  pub test_tied : (m : Expression) (c : Coded) → ExpressionTied env unit names m c → TestTied env unit names (means.tests m) (test_of c)
  test_tied m c tied = record {
    writes = λ past here rest. let jump = op (kind.JumpFalse past) (deeper 1 here) rest in
        front_count (value_size c + 1) (suc (value_size c)) (value c here jump) rest (omega arith)
        (front_then (value_size c) 1 (value c here jump) jump rest (value_writes c tied.writes here jump) (front_op 0 _ rest rest (front_none rest)));
    fine = fine_tests env unit names m tied.fine;
    runs = λ run here past there rest st s is same ends stands d.
        value_then env unit names m c tied run here (op (kind.JumpFalse past) (deeper 1 here) rest) st s same stands st (over_it st) (TestFollows env unit run rest there st)
        (λ v s. Gives (to_boolean v) s) ends
        (λ v t ends fares d. step env unit run (kind.JumpFalse past) (deeper 1 here) rest (push v st) t fares.good
        (decided (to_boolean v) run here rest there (from run.frame run.code past.0) st t is d)) d;
  }

  pub tests_tied : (m : Option Expression) (c : Option Coded) → HeldTied env unit names m c → TestTied env unit names (means.tests_if_any m) (tests_if_any c)
  tests_tied None None h = record { writes = no_test_tied.writes; fine = no_test_tied.fine; runs = no_test_tied.runs }
  tests_tied None (Some c) h = absurd h
  tests_tied (Some m) None h = absurd h
  tests_tied (Some m) (Some c) h = let t = test_tied m c h in record { writes = t.writes; fine = t.fine; runs = t.runs }

  does_runs : (m : Expression) (c : Coded) → ExpressionTied env unit names m c → (run : Running env unit) (here : Here) (past : Address) (there rest : List Op) (st : Stacks) (s : State)
      → from run.frame run.code past.0 ≡ there → here.names ≡ names → EndsWith run.code ((evaluate c).emit here rest) → Stands env here st s
      → Comes run.outcome (TestFollows env unit run rest there st) (λ v t. GoesOut env unit run here (Thrown v) st t) (means.does_if_any (Some m) (context run.frame st) s)
      → GoesOn env unit run ((evaluate c).emit here rest) st s
  does_runs m c tied run here past there rest st s is same ends stands d =
      value_then env unit names m c tied run here (op kind.Drop (deeper 1 here) rest) st s same stands st (over_it st) (TestFollows env unit run rest there st) (λ v. goes_on) ends
      (λ v t ends fares d. step env unit run kind.Drop (deeper 1 here) rest (push v st) t fares.good d) d

  pub does_tied : (m : Option Expression) (c : Option Coded) → HeldTied env unit names m c → TestTied env unit names (means.does_if_any m) (does_if_any c)
  does_tied None None h = record { writes = no_test_tied.writes; fine = no_test_tied.fine; runs = no_test_tied.runs }
  does_tied None (Some c) h = absurd h
  does_tied (Some m) None h = absurd h
  does_tied (Some m) (Some c) h = record {
    writes = λ past. evaluate_writes env unit names m c h;
    fine = fine_does_if_any env unit names (Some m) h.fine;
    runs = does_runs m c h;
  }

-- ---- ticks

none_left : (s : State) → s.ticks ≤ 0 → nat_lt s.ticks 1 ≡ true
none_left s none = let below : s.ticks < 1 = omega (arith, none) in grind (arith, nat_tests)

spent_by : (env : Names) (unit : ℕ) (run : Running env unit) (here : Here) (rest : List Op) (st : Stacks) (s t : State) (b : Bool) → b ≡ true → Spent s ≡ run.outcome
    → Acts env unit run here (on (if b then Spent s else Gives true t) st (λ paid s. Goes rest st s))
spent_by env unit run here rest st s t true is c = c
spent_by env unit run here rest st s t false is c = cc

-- ---- turns

module _ (env : Names) (unit : ℕ) (names : Around) (labels : List (List ℕ)) (before : Meaning Bool) (cb : CodedTest) (tb : TestTied env unit names before cb)
    (body : Statement) (cs : CodedStatement) (ts : StatementTied env unit names body cs) (behind : Meaning Bool) (ce : CodedTest) (te : TestTied env unit names behind ce) where
  pub loop_writes : Writes (loop_size cb cs ce) (loop labels cb cs ce)
  loop_writes here rest =
      let past = address rest in
      let back = op (kind.Jump (head_of (cb.size + (cs.size + suc ce.size)) rest)) here rest in
      let more = ce.emit past here back in
      let end = op (kind.EndBody labels past) here more in
      let within = cs.emit [] (inside end here) end in
      let first = cb.emit past here within in
      front_op (cb.size + (cs.size + suc (ce.size + 1))) _ first rest
      (front_then cb.size (cs.size + suc (ce.size + 1)) first within rest (tb.writes past here within)
      (front_then cs.size (suc (ce.size + 1)) within end rest ((ts.with_labels []).writes (inside end here) end)
      (front_op (ce.size + 1) _ more rest
      (front_then ce.size 1 more back rest (te.writes past here back) (front_op 0 _ rest rest (front_none rest))))))

  module _ (run : Running env unit) (here : Here) (rest : List Op) (st : Stacks) (same : here.names ≡ names) (ends : EndsWith run.code (loop labels cb cs ce here rest)) where
    abbrev x : Context
    x = context run.frame st

    abbrev head : Address
    head = head_of (cb.size + (cs.size + suc ce.size)) rest

    abbrev past : Address
    past = address rest

    abbrev back : List Op
    back = op (kind.Jump head) here rest

    abbrev more : List Op
    more = ce.emit past here back

    abbrev end : List Op
    end = op (kind.EndBody labels past) here more

    abbrev within : List Op
    within = cs.emit [] (inside end here) end

    abbrev first : List Op
    first = cb.emit past here within

    abbrev whole : List Op
    whole = op kind.Charge here first

    ends_first : EndsWith run.code first
    ends_first = next run.code _ first ends

    ends_within : EndsWith run.code within
    ends_within = behind_front cb.size run.code first within (tb.writes past here within) ends_first

    ends_end : EndsWith run.code end
    ends_end = behind_front cs.size run.code within end ((ts.with_labels []).writes (inside end here) end) ends_within

    ends_more : EndsWith run.code more
    ends_more = next run.code _ more ends_end

    ends_rest : EndsWith run.code rest
    ends_rest = next run.code _ rest (behind_front ce.size run.code more back (te.writes past here back) ends_more)

    rest_at : from run.frame run.code past.0 ≡ rest
    rest_at = found run.frame run.code rest ends_rest

    head_at : from run.frame run.code head.0 ≡ whole
    head_at =
        let long : length whole ≡ loop_size cb cs ce + length rest = front_length (loop_size cb cs ce) whole rest (loop_writes here rest) in
        let same_place : length whole ≡ head.0 = omega (arith, long) in
        subst (λ n. from run.frame run.code n ≡ whole) same_place (found run.frame run.code whole ends)

    abbrev On : Outcome Completion → Type 0
    On o = ComesOn env unit run here st rest o

    test_follows : (b : Bool) (f : State → Outcome Completion) (middle : List Op) (t : State) → (On (f t) → GoesOn env unit run middle st t) → On (if_so b f t)
        → TestFollows env unit run middle rest st b t
    test_follows true f middle t go d = go d
    test_follows false f middle t go d = d

    -- the turns from here on, at most n, and what is behind a body
    module _ (n : ℕ) where
      abbrev again : State → Outcome Completion
      again = turns n labels (before x) (body [] x) (behind x)

      abbrev after_it : State → Outcome Completion
      after_it t = and_then (behind x t) (λ go. if_so go again)

      module _ (turn : (t : State) → t.ticks ≤ n → Stands env here st t → On (again t) → GoesOn env unit run whole st t) where
        more_runs : (t : State) → t.ticks ≤ n → Stands env here st t → On (after_it t) → GoesOn env unit run more st t
        more_runs t few stands d =
            te.runs run here past rest back st t rest_at same ends_more stands
            (comes_then env run.outcome t (behind x t) (λ go. if_so go again) (Follows env unit run here rest st) (TestFollows env unit run back rest st) _
            (te.fine x t run.fare run.unit_is (subst (λ n. Scoped n t.scopes (inner st.scopes)) same stands.scoped) stands.good)
            (λ b u fares. test_follows b again back u (λ d. step env unit run (kind.Jump head) here rest st u fares.good
            (subst (λ code. GoesOn env unit run code st u) (sym head_at) (turn u (omega (arith, few, fares.keeps.ticks)) (stands_kept env here st t u stands fares) d)))) d)

        broken_follows : (b : Bool) (label : Option (List ℕ)) (t : State) → Stands env here st t → is_one_of label labels ≡ b → On (Gives (if b then Normal else Broken label) t)
            → GoesOut env unit run (inside end here) (Ended (Broken label)) st t
        broken_follows true label t stands is d =
            takes env unit run here (kind.EndBody labels past) more st t stands ends_end (Ended (Broken label)) (from run.frame run.code past.0) st
            (ap (λ b. if b then Some (from run.frame run.code past.0, st) else None) is) (subst (λ code. GoesOn env unit run code st t) (sym rest_at) d)
        broken_follows false label t stands is d =
            passes env unit run here (kind.EndBody labels past) more st t stands ends_end (Ended (Broken label))
            (ap (λ b. if b then Some (from run.frame run.code past.0, st) else None) is) d

        continued_follows : (b : Bool) (label : Option (List ℕ)) (t : State) → t.ticks ≤ n → Stands env here st t → is_one_of label labels ≡ b
            → On (if b then after_it t else Gives (Continued label) t) → GoesOut env unit run (inside end here) (Ended (Continued label)) st t
        continued_follows true label t few stands is d =
            takes env unit run here (kind.EndBody labels past) more st t stands ends_end (Ended (Continued label)) more st
            (ap (λ b. if b then Some (more, st) else None) is) (more_runs t few stands d)
        continued_follows false label t few stands is d =
            passes env unit run here (kind.EndBody labels past) more st t stands ends_end (Ended (Continued label))
            (ap (λ b. if b then Some (more, st) else None) is) d

        body_follows : (d : Completion) (t : State) → t.ticks ≤ n → Stands env here st t → On (after_body labels d after_it t) → Follows env unit run (inside end here) end st d t
        body_follows Normal t few stands d = step env unit run (kind.EndBody labels past) here more st t stands.good (more_runs t few stands d)
        body_follows (Returned v) t few stands d = passes env unit run here (kind.EndBody labels past) more st t stands ends_end (Ended (Returned v)) refl d
        body_follows (Broken label) t few stands d = broken_follows (is_one_of label labels) label t stands refl d
        body_follows (Continued label) t few stands d = continued_follows (is_one_of label labels) label t few stands refl d

        abbrev inner_turn : State → Outcome Completion
        inner_turn t = and_then (body [] x t) (λ d. after_body labels d after_it)

        body_runs : (t : State) → t.ticks ≤ n → Stands env here st t → On (inner_turn t) → GoesOn env unit run within st t
        body_runs t few stands d =
            part_in env unit names (body []) (record { size = cs.size; emit = cs.emit [] }) (ts.with_labels []) run here end end st t same stands ends_within
            (λ d u. On (after_body labels d after_it u)) (λ v u. GoesOut env unit run here (Thrown v) st u)
            (λ d u ends fares g. body_follows d u (omega (arith, few, fares.keeps.ticks)) (stands_kept env here st t u stands fares) g)
            (λ v u ends fares g. passes env unit run here (kind.EndBody labels past) more st u (stands_kept env here st t u stands fares) ends_end (Thrown v) refl g)
            (comes_in run.outcome (body [] x t) (λ d. after_body labels d after_it) (Follows env unit run here rest st) _ d)

        turn_runs : (s : State) → s.ticks ≤ suc n → Stands env here st s → On (turns (suc n) labels (before x) (body [] x) (behind x) s) → GoesOn env unit run whole st s
        turn_runs s few stands d =
            charges env unit run here first st s (Follows env unit run here rest st) _ (λ s. and_then (before x s) (λ go. if_so go inner_turn)) stands.good
            (λ d. let t = paid 1 s in let stands_t = stands_paid env 1 here st s stands in
            tb.runs run here past rest within st t rest_at same ends_first stands_t
            (comes_then env run.outcome t (before x t) (λ go. if_so go inner_turn) (Follows env unit run here rest st) (TestFollows env unit run within rest st) _
            (tb.fine x t run.fare run.unit_is (subst (λ n. Scoped n t.scopes (inner st.scopes)) same stands_t.scoped) stands_t.good)
            (λ b u fares. test_follows b inner_turn within u (λ d. body_runs u (omega (arith, few, fares.keeps.ticks)) (stands_kept env here st t u stands_t fares) d)) d)) d

    pub turns_run : (n : ℕ) (s : State) → s.ticks ≤ n → Stands env here st s → On (turns n labels (before x) (body [] x) (behind x) s) → GoesOn env unit run whole st s
    turns_run zero s few stands d =
        step env unit run kind.Charge here first st s stands.good (spent_by env unit run here first st s (paid 1 s) (nat_lt s.ticks 1) (none_left s few) d)
    turns_run (suc n) s few stands d = turn_runs n (turns_run n) s few stands d

  pub loop_runs : RunsOn env unit names (λ x s. completions.loop labels (before x) (body [] x) (behind x) s) (loop labels cb cs ce)
  loop_runs run here rest st s same ends stands d = turns_run run here rest st same ends s.ticks s (omega arith) stands d

-- ---- `do`, `while` and `for`

-- what stands first in the head of a `for` ends normally
pub record FirstTied (env : Names) (unit : ℕ) (names : Around) (m : First) (c : CodedPart) : Type 0 where
  pub part : PartTied env unit names m c
  pub normal : (x : Context) (s : State) → Given (λ d. d ≡ Normal) (m x s)

abbrev pub HeldFirstTied : Names → ℕ → Around → Option First → Option CodedPart → Type 0
HeldFirstTied env unit names None None = Unit {0}
HeldFirstTied env unit names (Some m) (Some c) = FirstTied env unit names m c
HeldFirstTied env unit names m c = ⊥

comes_normal : (env : Names) (outcome : Outcome PlainValue) (s : State) (r : Outcome Completion) (f : State → Outcome Completion)
    (goal mid : Completion → State → Type 0) (thrown : PlainValue → State → Type 0) → Fared env s r → Given (λ d. d ≡ Normal) r
    → ((t : State) → Fares env s t → Comes outcome goal thrown (f t) → mid Normal t)
    → Comes outcome goal thrown (and_then r (λ d. f)) → Comes outcome mid thrown r
comes_normal env outcome s (Gives Normal t) f goal mid thrown fares is go c = go t fares c
comes_normal env outcome s (Gives (Returned v) t) f goal mid thrown fares is go c = cc
comes_normal env outcome s (Gives (Broken label) t) f goal mid thrown fares is go c = cc
comes_normal env outcome s (Gives (Continued label) t) f goal mid thrown fares is go c = cc
comes_normal env outcome s (Throws v t) f goal mid thrown fares is go c = c
comes_normal env outcome s (Spent t) f goal mid thrown fares is go c = c
comes_normal env outcome s (Asks zone q t) f goal mid thrown fares is go c = c

module _ (env : Names) (unit : ℕ) (names : Around) where
  declare_normal : (ms : List (List ℕ × Option Expression)) (x : Context) (s : State) → Given (λ d. d ≡ Normal) (means.declare ms x s)
  declare_normal [] x s = refl
  declare_normal ((n, None) ∷ ms) x s = declare_normal ms x s
  declare_normal ((n, Some m) ∷ ms) x s =
      given_then (λ d. d ≡ Normal) (evaluated m x s) (λ v s. and_then (assign_name n v x s) (λ w s. means.declare ms x s))
      (λ v t. given_then (λ d. d ≡ Normal) (assign_name n v x t) (λ w s. means.declare ms x s) (λ w u. declare_normal ms x u))

  pub declaring_first : (ms : List (List ℕ × Option Expression)) (cs : List (List ℕ × Option Coded)) → NamedHeldTied env unit names ms cs → FirstTied env unit names (means.declare ms) (declaring cs)
  declaring_first ms cs h = record { part = declaring_tied env unit names ms cs h; normal = declare_normal ms }

  pub evaluate_first : (m : Expression) (c : Coded) → ExpressionTied env unit names m c → FirstTied env unit names (means.value_and_on m) (evaluate c)
  evaluate_first m c h = record {
    part = evaluate_tied env unit names m c h;
    normal = λ x s. given_then (λ d. d ≡ Normal) (evaluated m x s) (λ v s. Gives Normal s) (λ v t. refl);
  }

  no_part_first : FirstTied env unit names (means.first_of None) no_part
  no_part_first = record {
    part = record { writes = λ here rest. front_none rest; fine = λ x s calls same scoped g. fares_refl env s g; runs = λ run here rest st s same ends stands d. d };
    normal = λ x s. refl;
  }

  pub first_of_first : (m : Option First) (c : Option CodedPart) → HeldFirstTied env unit names m c → FirstTied env unit names (means.first_of m) (first_of c)
  first_of_first None None h = no_part_first
  first_of_first None (Some c) h = absurd h
  first_of_first (Some m) None h = absurd h
  first_of_first (Some m) (Some c) h = record { part = h.part; normal = h.normal }

  pub held_first_fine : (m : Option First) (c : Option CodedPart) → HeldFirstTied env unit names m c → HeldFine env unit names m
  held_first_fine None None h = tt
  held_first_fine None (Some c) h = absurd h
  held_first_fine (Some m) None h = absurd h
  held_first_fine (Some m) (Some c) h = h.part.fine

  -- what stands first, and the loop
  abbrev pub loop_emit : CodedPart → List (List ℕ) → CodedTest → CodedStatement → CodedTest → Emits
  loop_emit first labels cb cs ce here rest = first.emit here (loop labels cb cs ce here rest)

  module _ (m : First) (c : CodedPart) (tied : FirstTied env unit names m c) (labels : List (List ℕ)) (before : Meaning Bool) (cb : CodedTest) (tb : TestTied env unit names before cb)
      (body : Statement) (cs : CodedStatement) (ts : StatementTied env unit names body cs) (behind : Meaning Bool) (ce : CodedTest) (te : TestTied env unit names behind ce) where
    pub first_writes : Writes (c.size + loop_size cb cs ce) (loop_emit c labels cb cs ce)
    first_writes here rest =
        let turn = loop labels cb cs ce here rest in
        front_then c.size (loop_size cb cs ce) (c.emit here turn) turn rest (tied.part.writes here turn) (loop_writes env unit names labels before cb tb body cs ts behind ce te here rest)

    pub first_runs : RunsOn env unit names (λ x s. and_then (m x s) (λ d. completions.loop labels (before x) (body [] x) (behind x))) (loop_emit c labels cb cs ce)
    first_runs run here rest st s same ends stands d =
        let x = context run.frame st in let turn = loop labels cb cs ce here rest in
        let ends_turn = behind_front c.size run.code (c.emit here turn) turn (tied.part.writes here turn) ends in
        tied.part.runs run here turn st s same ends stands
        (comes_normal env run.outcome s (m x s) (completions.loop labels (before x) (body [] x) (behind x)) (Follows env unit run here rest st) (Follows env unit run here turn st) _
        (part_fared env unit names m c tied.part run here st s same stands) (tied.normal x s)
        (λ t fares d. loop_runs env unit names labels before cb tb body cs ts behind ce te run here rest st t same ends_turn (stands_kept env here st s t stands fares) d) d)

  pub do_part : (b : Statement) (a : Expression) (cs : CodedStatement) (ca : Coded) → StatementTied env unit names b cs → ExpressionTied env unit names a ca → (labels : List (List ℕ))
      → PartTied env unit names (means.do_loop b a labels) (record { size = 0 + loop_size no_test cs (test_of ca); emit = loop_emit no_part labels no_test cs (test_of ca) })
  do_part b a cs ca tb ta labels = record {
    writes = first_writes (means.first_of None) no_part no_part_first labels always no_test (no_test_tied env unit names) b cs tb (means.tests a) (test_of ca) (test_tied env unit names a ca ta);
    fine = fine_do_loop env unit names b a (statement_fine env unit names b cs tb) ta.fine labels;
    runs = loop_runs env unit names labels always no_test (no_test_tied env unit names) b cs tb (means.tests a) (test_of ca) (test_tied env unit names a ca ta);
  }

  pub while_part : (a : Expression) (b : Statement) (ca : Coded) (cs : CodedStatement) → ExpressionTied env unit names a ca → StatementTied env unit names b cs → (labels : List (List ℕ))
      → PartTied env unit names (means.while_loop a b labels) (record { size = 0 + loop_size (test_of ca) cs no_test; emit = loop_emit no_part labels (test_of ca) cs no_test })
  while_part a b ca cs ta tb labels = record {
    writes = first_writes (means.first_of None) no_part no_part_first labels (means.tests a) (test_of ca) (test_tied env unit names a ca ta) b cs tb always no_test (no_test_tied env unit names);
    fine = fine_while_loop env unit names a b ta.fine (statement_fine env unit names b cs tb) labels;
    runs = loop_runs env unit names labels (means.tests a) (test_of ca) (test_tied env unit names a ca ta) b cs tb always no_test (no_test_tied env unit names);
  }

  pub for_part : (f : Option First) (a u : Option Expression) (b : Statement) (cf : Option CodedPart) (ca cu : Option Coded) (cs : CodedStatement) → HeldFirstTied env unit names f cf → HeldTied env unit names a ca
      → HeldTied env unit names u cu → StatementTied env unit names b cs → (labels : List (List ℕ))
      → PartTied env unit names (means.for_loop f a u b labels)
      (record { size = (first_of cf).size + loop_size (tests_if_any ca) cs (does_if_any cu); emit = loop_emit (first_of cf) labels (tests_if_any ca) cs (does_if_any cu) })
  for_part f a u b cf ca cu cs tf ta tu tb labels = record {
    writes = first_writes (means.first_of f) (first_of cf) (first_of_first f cf tf) labels (means.tests_if_any a) (tests_if_any ca) (tests_tied env unit names a ca ta) b cs tb
        (means.does_if_any u) (does_if_any cu) (does_tied env unit names u cu tu);
    fine = fine_for_loop env unit names f a u b (held_first_fine f cf tf) (held_fine env unit names a ca ta) (held_fine env unit names u cu tu) (statement_fine env unit names b cs tb) labels;
    runs = first_runs (means.first_of f) (first_of cf) (first_of_first f cf tf) labels (means.tests_if_any a) (tests_if_any ca) (tests_tied env unit names a ca ta) b cs tb
        (means.does_if_any u) (does_if_any cu) (does_tied env unit names u cu tu);
  }
