-- `switch` in a run.
use Rattle.std.proofs.Common.{◌≡◌, ℕ, suc, ◌+◌, List, [], ◌∷◌, ◌++◌, length, Bool, true, false, Option, Some, None, refl, ap, sym, subst, ◌∙◌, if◌then◌else◌}
use Rattle.std.specs.Option.{option_map_or}
use Rattle.njs_code.specs.declared.op.Address.{Address}
use Rattle.njs_code.specs.declared.op.Kind.TheVariants as kind
use Rattle.njs_code.specs.declared.op.Op.{Op}
use Rattle.njs_meaning.specs.Values.{PlainValue, is_same}
use Rattle.njs_meaning.specs.State.{State, Outcome, Gives, and_then}
use Rattle.njs_meaning.specs.Running.{Context, choose, Runs as Meaning}
use Rattle.njs_meaning.specs.Places.{Around}
use Rattle.njs_meaning.specs.References.{Expression, evaluated}
use Rattle.njs_meaning.specs.Completions.{Completion, Normal, Returned, Broken, Continued, Statement, after_switch}
use Rattle.njs_meaning.specs.Completions as completions
use Rattle.njs_meaning.specs.Meaning as means
use Rattle.njs_meaning.specs.Meaning.{Branch}
use Rattle.njs_simul.specs.Stacks.{Ended, Thrown, Stacks, context, push}
use Rattle.njs_simul.specs.Step.{Goes, from}
use Rattle.njs_simul.specs.Emission.{Here, Emits, op, address, deeper, inside, Coded, value, value_size}
use Rattle.njs_simul.specs.EmissionOfStatements.{CodedStatement, CodedBranch, in_turn, in_turn_size, bodies, bodies_size, default_at, branches, branches_size, switch_branches}
use Rattle.njs_simul.specs.Fits.{Names}
use Rattle.njs_simul.specs.Laws.{Stands, EndsWith, Comes, Front, Writes, Running, GoesOn, GoesOut, ExpressionTied, Follows, RunsOn, PartTied}
use Rattle.njs_simul.proofs.FineStatements.{EachBranchFine, fine_switch}
use Rattle.njs_simul.proofs.Runs.{found, next}
use Rattle.njs_simul.proofs.Steps.{front_none, front_op, front_then, behind_front, stands_kept, stands_push, over_it, over_some, Acts, step}
use Rattle.njs_simul.proofs.Sequences.{value_writes, value_then}
use Rattle.njs_simul.proofs.Statements.{comes_in, ComesOn, HeldTied, StatementsTied, held_fine, statements_fine, in_turn_writes, in_turn_tied}
use Rattle.njs_simul.proofs.Regions.{takes, passes, part_in}

-- a branch and its code
pub record BranchTied (env : Names) (unit : ℕ) (names : Around) (m : Branch) (c : CodedBranch) : Type 0 where
  pub test : HeldTied env unit names m.test c.test
  pub body : StatementsTied env unit names m.body c.body

abbrev pub BranchesTied : Names → ℕ → Around → List Branch → List CodedBranch → Type 0
BranchesTied env unit names [] [] = Unit {0}
BranchesTied env unit names (m ∷ ms) (c ∷ cs) = BranchTied env unit names m c × BranchesTied env unit names ms cs
BranchesTied env unit names ms cs = ⊥

-- ---- the bodies as one list

abbrev flat : List CodedBranch → List CodedStatement
flat [] = []
flat (b ∷ bs) = b.body ++ flat bs

in_turn_append : (cs ds : List CodedStatement) (here : Here) (rest : List Op) → in_turn cs here (in_turn ds here rest) ≡ in_turn (cs ++ ds) here rest
in_turn_append [] ds here rest = refl
in_turn_append (c ∷ cs) ds here rest = ap (λ middle. c.emit [] here middle) (in_turn_append cs ds here rest)

bodies_flat : (bs : List CodedBranch) (here : Here) (rest : List Op) → bodies bs here rest ≡ in_turn (flat bs) here rest
bodies_flat [] here rest = refl
bodies_flat (b ∷ bs) here rest = ap (λ middle. in_turn b.body here middle) (bodies_flat bs here rest) ∙ in_turn_append b.body (flat bs) here rest

module _ (env : Names) (unit : ℕ) (names : Around) where
  statements_append : (ms ns : List Statement) (cs ds : List CodedStatement) → StatementsTied env unit names ms cs → StatementsTied env unit names ns ds → StatementsTied env unit names (ms ++ ns) (cs ++ ds)
  statements_append [] ns [] ds h k = k
  statements_append [] ns (c ∷ cs) ds h k = absurd h
  statements_append (m ∷ ms) ns [] ds h k = absurd h
  statements_append (m ∷ ms) ns (c ∷ cs) ds h k = (h.0, statements_append ms ns cs ds h.1 k)

  bodies_tied : (ms : List Branch) (cs : List CodedBranch) → BranchesTied env unit names ms cs → StatementsTied env unit names (means.bodies ms) (flat cs)
  bodies_tied [] [] h = tt
  bodies_tied [] (c ∷ cs) h = absurd h
  bodies_tied (m ∷ ms) [] h = absurd h
  bodies_tied (m ∷ ms) (c ∷ cs) h = statements_append m.body (means.bodies ms) c.body (flat cs) h.0.body (bodies_tied ms cs h.1)

  pub branches_fine : (ms : List Branch) (cs : List CodedBranch) → BranchesTied env unit names ms cs → EachBranchFine env unit names ms
  branches_fine [] [] h = tt
  branches_fine [] (c ∷ cs) h = absurd h
  branches_fine (m ∷ ms) [] h = absurd h
  branches_fine (m ∷ ms) (c ∷ cs) h =
      (record { test = held_fine env unit names m.test c.test h.0.test; body = statements_fine env unit names m.body c.body h.0.body }, branches_fine ms cs h.1)

  -- ---- what is written

  bodies_writes : (ms : List Branch) (cs : List CodedBranch) → BranchesTied env unit names ms cs → Writes (bodies_size cs) (bodies cs)
  bodies_writes [] [] h here rest = front_none rest
  bodies_writes [] (c ∷ cs) h here rest = absurd h
  bodies_writes (m ∷ ms) [] h here rest = absurd h
  bodies_writes (m ∷ ms) (c ∷ cs) h here rest =
      front_then (in_turn_size c.body) (bodies_size cs) (in_turn c.body here (bodies cs here rest)) (bodies cs here rest) rest
      (in_turn_writes env unit names m.body c.body h.0.body here (bodies cs here rest)) (bodies_writes ms cs h.1 here rest)

  test_writes : (m : Option Expression) (c : Option Coded) → HeldTied env unit names m c → (to : Address) (n : ℕ) (here : Here) (more rest : List Op) → Front n more rest
      → Front (option_map_or (λ test. value_size test + 1) c 0 + n) (option_map_or (λ test. value test (deeper 1 here) (op (kind.JumpSame to) (deeper 2 here) more)) c more) rest
  test_writes None None h to n here more rest f = front_then 0 n more more rest (front_none more) f
  test_writes None (Some c) h to n here more rest f = absurd h
  test_writes (Some m) None h to n here more rest f = absurd h
  test_writes (Some m) (Some c) h to n here more rest f =
      let jump = op (kind.JumpSame to) (deeper 2 here) more in
      front_then (value_size c + 1) n (value c (deeper 1 here) jump) more rest
      (front_then (value_size c) 1 (value c (deeper 1 here) jump) jump more (value_writes c h.writes (deeper 1 here) jump) (front_op 0 _ more more (front_none more))) f

  tests_writes : (ms : List Branch) (cs : List CodedBranch) → BranchesTied env unit names ms cs → (body_at : List CodedBranch → Address) → Writes (branches_size cs) (branches cs body_at)
  tests_writes [] [] h body_at here rest = front_none rest
  tests_writes [] (c ∷ cs) h body_at here rest = absurd h
  tests_writes (m ∷ ms) [] h body_at here rest = absurd h
  tests_writes (m ∷ ms) (c ∷ cs) h body_at here rest =
      test_writes m.test c.test h.0.test (body_at (c ∷ cs)) (branches_size cs) here (branches cs body_at here rest) rest (tests_writes ms cs h.1 body_at here rest)

  -- ---- the bodies

  module _ (run : Running env unit) (here : Here) (rest : List Op) (st : Stacks) (same : here.names ≡ names) (ends_end : EndsWith run.code (op kind.EndSwitch here rest)) where
    abbrev x : Context
    x = context run.frame st

    abbrev end : List Op
    end = op kind.EndSwitch here rest

    abbrev within : Here
    within = inside end here

    -- what comes of the statements that run
    abbrev On : List Statement → State → Type 0
    On body t = ComesOn env unit run here st rest (and_then (completions.in_turn body x t) (λ d s. Gives (after_switch d) s))

    body_follows : (d : Completion) (t : State) → Stands env here st t → ComesOn env unit run here st rest (Gives (after_switch d) t) → Follows env unit run within end st d t
    body_follows Normal t stands d = step env unit run kind.EndSwitch here rest st t stands.good d
    body_follows (Returned v) t stands d = passes env unit run here kind.EndSwitch rest st t stands ends_end (Ended (Returned v)) refl d
    body_follows (Broken None) t stands d = takes env unit run here kind.EndSwitch rest st t stands ends_end (Ended (Broken None)) rest st refl d
    body_follows (Broken (Some label)) t stands d = passes env unit run here kind.EndSwitch rest st t stands ends_end (Ended (Broken (Some label))) refl d
    body_follows (Continued label) t stands d = passes env unit run here kind.EndSwitch rest st t stands ends_end (Ended (Continued label)) refl d

    bodies_run : (ms : List Branch) (cs : List CodedBranch) → BranchesTied env unit names ms cs → EndsWith run.code (bodies cs within end) → (t : State) → Stands env here st t
        → On (means.bodies ms) t → GoesOn env unit run (bodies cs within end) st t
    bodies_run ms cs h ends t stands d =
        let is = bodies_flat cs within end in
        subst (λ code. GoesOn env unit run code st t) (sym is)
        (part_in env unit names (completions.in_turn (means.bodies ms)) (record { size = in_turn_size (flat cs); emit = in_turn (flat cs) }) (in_turn_tied env unit names (means.bodies ms) (flat cs) (bodies_tied ms cs h))
        run here end end st t same stands (subst (λ code. EndsWith run.code code) is ends)
        (λ d u. ComesOn env unit run here st rest (Gives (after_switch d) u)) (λ v u. GoesOut env unit run here (Thrown v) st u)
        (λ d u ends fares g. body_follows d u (stands_kept env here st t u stands fares) g)
        (λ v u ends fares g. passes env unit run here kind.EndSwitch rest st u (stands_kept env here st t u stands fares) ends_end (Thrown v) refl g)
        (comes_in run.outcome (completions.in_turn (means.bodies ms) x t) (λ d s. Gives (after_switch d) s) (Follows env unit run here rest st) _ d))

    -- the bodies of those that are left stand there too
    ends_left : (m : Branch) (ms : List Branch) (c : CodedBranch) (cs : List CodedBranch) → BranchesTied env unit names (m ∷ ms) (c ∷ cs) → EndsWith run.code (bodies (c ∷ cs) within end)
        → EndsWith run.code (bodies cs within end)
    ends_left m ms c cs h ends =
        behind_front (in_turn_size c.body) run.code (bodies (c ∷ cs) within end) (bodies cs within end) (in_turn_writes env unit names m.body c.body h.0.body within (bodies cs within end)) ends

    -- a jump to them
    bodies_land : (ms : List Branch) (cs : List CodedBranch) → BranchesTied env unit names ms cs → EndsWith run.code (bodies cs within end) → (t : State) → Stands env here st t
        → On (means.bodies ms) t → GoesOn env unit run (from run.frame run.code (length (bodies cs within end))) st t
    bodies_land ms cs h ends t stands d =
        subst (λ code. GoesOn env unit run code st t) (sym (found run.frame run.code (bodies cs within end) ends)) (bodies_run ms cs h ends t stands d)

    -- from `default` on
    default_by : (test : Option Expression) (coded : Option Coded) → HeldTied env unit names test coded → (otherwise all : List Statement) (there at : Address) (t : State)
        → (On otherwise t → GoesOn env unit run (from run.frame run.code there.0) st t) → (On all t → GoesOn env unit run (from run.frame run.code at.0) st t)
        → On (option_map_or (λ test. otherwise) test all) t → GoesOn env unit run (from run.frame run.code (option_map_or (λ test. there) coded at).0) st t
    default_by None None h otherwise all there at t go run_all d = run_all d
    default_by None (Some c) h otherwise all there at t go run_all d = absurd h
    default_by (Some m) None h otherwise all there at t go run_all d = absurd h
    default_by (Some m) (Some c) h otherwise all there at t go run_all d = go d

    default_lands : (ms : List Branch) (cs : List CodedBranch) → BranchesTied env unit names ms cs → EndsWith run.code (bodies cs within end) → (t : State) → Stands env here st t
        → On (means.from_default ms) t → GoesOn env unit run (from run.frame run.code (default_at cs within end).0) st t
    default_lands [] [] h ends t stands d = bodies_land [] [] h ends t stands d
    default_lands [] (c ∷ cs) h ends t stands d = absurd h
    default_lands (m ∷ ms) [] h ends t stands d = absurd h
    default_lands (m ∷ ms) (c ∷ cs) h ends t stands d =
        default_by m.test c.test h.0.test (means.from_default ms) (means.bodies (m ∷ ms)) (default_at cs within end) (address (bodies (c ∷ cs) within end)) t
        (λ d. default_lands ms cs h.1 (ends_left m ms c cs h ends) t stands d) (λ d. bodies_land (m ∷ ms) (c ∷ cs) h ends t stands d) d

    -- ---- the tests

    module _ (v : PlainValue) (otherwise : List Statement) (tail : List Op) where
      abbrev body_at : List CodedBranch → Address
      body_at left = address (bodies left within end)

      -- what comes of the tests
      abbrev Met : Outcome (List Statement) → Type 0
      Met o = Comes run.outcome On (λ e t. GoesOut env unit run here (Thrown e) st t) o

      compared : (b : Bool) (all : List Statement) (next : State → Outcome (List Statement)) (to more : List Op) (t : State) → (On all t → GoesOn env unit run to st t)
          → (Met (next t) → GoesOn env unit run more (push v st) t) → Met (choose b (Gives all) next t) → Acts env unit run here (if b then Goes to st t else Goes more (push v st) t)
      compared true all next to more t one two d = one d
      compared false all next to more t one two d = two d

      test_runs : (m : Option Expression) (c : Option Coded) → HeldTied env unit names m c → (all : List Statement) (following : Meaning (List Statement)) (to : Address) (more : List Op)
          → EndsWith run.code (option_map_or (λ test. value test (deeper 1 here) (op (kind.JumpSame to) (deeper 2 here) more)) c more)
          → ((t : State) → Stands env here st t → On all t → GoesOn env unit run (from run.frame run.code to.0) st t)
          → ((t : State) → Stands env here st t → EndsWith run.code more → Met (following x t) → GoesOn env unit run more (push v st) t)
          → (t : State) → Stands env here st t
          → Met (option_map_or (λ test. and_then (evaluated test x t) (λ w. choose (is_same v w) (Gives all) (following x))) m (following x t))
          → GoesOn env unit run (option_map_or (λ test. value test (deeper 1 here) (op (kind.JumpSame to) (deeper 2 here) more)) c more) (push v st) t
      test_runs None None h all following to more ends one two t stands d = two t stands ends d
      test_runs None (Some c) h all following to more ends one two t stands d = absurd h
      test_runs (Some m) None h all following to more ends one two t stands d = absurd h
      test_runs (Some m) (Some c) h all following to more ends one two t stands d =
          value_then env unit names m c h run (deeper 1 here) (op (kind.JumpSame to) (deeper 2 here) more) (push v st) t same (stands_push env here st t v stands) st (over_some (v ∷ []) st) On
          (λ w. choose (is_same v w) (Gives all) (following x)) ends
          (λ w u ends fares d. let stands_u = stands_kept env here st t u stands fares in
          step env unit run (kind.JumpSame to) (deeper 2 here) more (push w (push v st)) u fares.good
          (compared (is_same v w) all (following x) (from run.frame run.code to.0) more u (λ d. one u stands_u d) (λ d. two u stands_u (next run.code _ more ends) d) d)) d

      tests_run : (ms : List Branch) (cs : List CodedBranch) → BranchesTied env unit names ms cs → EndsWith run.code (bodies cs within end) → EndsWith run.code (branches cs body_at here tail)
          → ((t : State) → Stands env here st t → On otherwise t → GoesOn env unit run tail (push v st) t)
          → (t : State) → Stands env here st t → Met (means.from_met v ms otherwise x t) → GoesOn env unit run (branches cs body_at here tail) (push v st) t
      tests_run [] [] h ends ends_tests go t stands d = go t stands d
      tests_run [] (c ∷ cs) h ends ends_tests go t stands d = absurd h
      tests_run (m ∷ ms) [] h ends ends_tests go t stands d = absurd h
      tests_run (m ∷ ms) (c ∷ cs) h ends ends_tests go t stands d =
          test_runs m.test c.test h.0.test (means.bodies (m ∷ ms)) (means.from_met v ms otherwise) (body_at (c ∷ cs)) (branches cs body_at here tail) ends_tests
          (λ u stands d. bodies_land (m ∷ ms) (c ∷ cs) h ends u stands d)
          (λ u stands ends_tests d. tests_run ms cs h.1 (ends_left m ms c cs h ends) ends_tests go u stands d) t stands d

  -- ---- the whole

  abbrev pub switch_emit : Coded → List CodedBranch → Emits
  switch_emit cv cs here rest = value cv here (switch_branches cs here rest)

  abbrev pub switch_size : Coded → List CodedBranch → ℕ
  switch_size cv cs = value_size cv + (branches_size cs + suc (suc (bodies_size cs + 1)))

  module _ (v : Expression) (ms : List Branch) (cv : Coded) (cs : List CodedBranch) (tv : ExpressionTied env unit names v cv) (ts : BranchesTied env unit names ms cs) where
    switch_front : Writes (branches_size cs + suc (suc (bodies_size cs + 1))) (switch_branches cs)
    switch_front here rest =
        let end = op kind.EndSwitch here rest in let within = inside end here in
        let all = bodies cs within end in let jump = op (kind.Jump (default_at cs within end)) here all in let tail = op kind.Drop (deeper 1 here) jump in
        front_then (branches_size cs) (suc (suc (bodies_size cs + 1))) (switch_branches cs here rest) tail rest (tests_writes ms cs ts (λ left. address (bodies left within end)) here tail)
        (front_op (suc (bodies_size cs + 1)) _ jump rest
        (front_op (bodies_size cs + 1) _ all rest
        (front_then (bodies_size cs) 1 all end rest (bodies_writes ms cs ts within end) (front_op 0 _ rest rest (front_none rest)))))

    pub switch_writes : Writes (switch_size cv cs) (switch_emit cv cs)
    switch_writes here rest =
        front_then (value_size cv) (branches_size cs + suc (suc (bodies_size cs + 1))) (value cv here (switch_branches cs here rest)) (switch_branches cs here rest) rest
        (value_writes cv tv.writes here (switch_branches cs here rest)) (switch_front here rest)

    pub switch_runs : (labels : List (List ℕ)) → RunsOn env unit names (means.switch v ms labels) (switch_emit cv cs)
    switch_runs labels run here rest st s same ends stands d =
        let x = context run.frame st in let otherwise = means.from_default ms in
        let end = op kind.EndSwitch here rest in let within = inside end here in
        let all = bodies cs within end in let jump = op (kind.Jump (default_at cs within end)) here all in let tail = op kind.Drop (deeper 1 here) jump in
        value_then env unit names v cv tv run here (switch_branches cs here rest) st s same stands st (over_it st) (Follows env unit run here rest st)
        (λ w s. and_then (means.from_met w ms otherwise x s) (λ body s. and_then (completions.in_turn body x s) (λ c s. Gives (after_switch c) s))) ends
        (λ w t ends fares d. let stands_t = stands_kept env here st s t stands fares in
        let ends_tail = behind_front (branches_size cs) run.code (switch_branches cs here rest) tail (tests_writes ms cs ts (λ left. address (bodies left within end)) here tail) ends in
        let ends_all = next run.code _ all (next run.code _ jump ends_tail) in
        let ends_end = behind_front (bodies_size cs) run.code all end (bodies_writes ms cs ts within end) ends_all in
        tests_run run here rest st same ends_end w otherwise tail ms cs ts ends_all ends
        (λ u stands d. step env unit run kind.Drop (deeper 1 here) jump (push w st) u stands.good
        (step env unit run (kind.Jump (default_at cs within end)) here all st u stands.good (default_lands run here rest st same ends_end ms cs ts ends_all u stands d)))
        t stands_t
        (comes_in run.outcome (means.from_met w ms otherwise x t) (λ body s. and_then (completions.in_turn body x s) (λ c s. Gives (after_switch c) s)) (Follows env unit run here rest st) _ d)) d

    pub switch_part : (labels : List (List ℕ)) → PartTied env unit names (means.switch v ms labels) (record { size = switch_size cv cs; emit = switch_emit cv cs })
    switch_part labels = record {
      writes = switch_writes;
      fine = fine_switch env unit names v ms tv.fine (branches_fine ms cs ts) labels;
      runs = switch_runs labels;
    }
